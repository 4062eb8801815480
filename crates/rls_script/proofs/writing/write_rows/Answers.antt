use Rattle.std.proofs.Common.{length, ◌<◌, ◌∙◌, arith}
use Rattle.std.proofs.lemmas.Bool.Decides.{nat_tests}
use Rattle.rls_script.proofs.WritingLemmas.{rows_more}
use Rattle.rls_script.proofs.writing.write_rows.Goals as goal

-- one more row was written
pub loop-row-preserved : goal.loop-row-preserved
loop-row-preserved g c =
    let within : c.loop-row.row-index < length c.args.rows.now = grind (arith, nat_tests) in
    let taken = g.O.ScriptOut.taken in
    (c.in_ok-write_row.ensures.failures ∙ c.loop-row.invariant.0, rows_more (taken c.args.output.now) c.args.held.now.items (taken c.loop-row.output) c.loop-row.held.items (taken c.write_row.new.output) c.write_row.new.held.items c.args.label.now c.args.rows.now c.loop-row.row-index c.row-item.result c.as_slice.result.now within c.row-item.is c.as_slice.ensures c.loop-row.invariant.1 c.in_ok-write_row.ensures.text)
