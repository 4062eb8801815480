use Rattle.std.proofs.Common.{arith}
use Rattle.rlsdb.proofs.TestLemmas.{ends_at, goes_on_at}
use Rattle.rlsdb.proofs.testing.test.Goals as goal

pub loop-rest-preserved : goal.loop-rest-preserved
loop-rest-preserved g c = goes_on_at _ c.loop-rest.rest.now _ _ _ _ _ _ c.in_ok-failed.failed c.in-len1-up.len_at_least c.still_passed-passed.ensures c.in_ok-failed.ensures c.loop-rest.invariant

pub returns : goal.returns
returns g c = ends_at _ c.loop-rest.rest.now _ _ _ (omega (arith, c.in_default.len_below)) c.loop-rest.invariant
