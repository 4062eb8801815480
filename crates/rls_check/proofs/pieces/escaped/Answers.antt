use Rattle.rls_audit.specs.rls_printing.specs.Escaped.{escaped_text}
use Rattle.rls_check.proofs.PieceLemmas.{without_end}
use Rattle.rls_check.proofs.pieces.escaped.Goals as goal

-- the end is taken off
pub returns : goal.returns
returns c = without_end (escaped_text c.args.text.now) _ _ _ c.new-line.ensures.items c.in_ok-push_escaped_line.ensures c.take_end_off.ensures
