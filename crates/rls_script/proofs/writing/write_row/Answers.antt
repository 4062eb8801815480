use Rattle.std.proofs.Common.{◌++◌}
use Rattle.rls_script.specs.Rendering.{fields_text}
use Rattle.rls_script.proofs.WritingLemmas.{row_whole}
use Rattle.rls_script.proofs.writing.write_row.Goals as goal

-- the label, the fields and LF were put behind what was held
pub returns-clause-text : goal.returns-clause-text
returns-clause-text g c = row_whole c.write_piece.result (g.O.ScriptOut.taken c.args.output.now) (g.O.ScriptOut.taken c.write_fields.new.output) c.args.held.now.items c.push_label.new.out.items c.write_fields.new.held.items c.push.new.self.items (g.O.ScriptOut.taken c.write_piece.new.output ++ c.write_piece.new.held.items) c.args.label.now (fields_text c.args.values.now) c.in_ok-push_label.ensures c.in_ok-write_fields.ensures.text c.in_ok-push.ensures.items c.write_piece.ensures.text
