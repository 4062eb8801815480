use Rattle.std.proofs.Common.{arith}
use Rattle.rls_check.proofs.PieceLemmas.{repeated_end, repeated_more}
use Rattle.rls_check.proofs.page_parts.push_repeated.Goals as goal

-- one is written, and one fewer is left
pub loop-left-preserved : goal.loop-left-preserved
loop-left-preserved c = repeated_more c.loop-left.left c.args.markup.now c.loop-left.page.items _ _ c.loop-left-test.true c.in_ok-push_tag.ensures c.loop-left.invariant

-- all are written
pub returns : goal.returns
returns c = repeated_end c.loop-left.left c.args.markup.now c.loop-left.page.items _ (omega (arith, c.loop-left-test.false)) c.loop-left.invariant
