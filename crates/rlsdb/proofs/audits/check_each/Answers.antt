use Rattle.std.proofs.Common.{arith}
use Rattle.rlsdb.proofs.CheckLemmas.{ends_at, goes_on_at}
use Rattle.rlsdb.proofs.audits.check_each.Goals as goal

pub loop-rest-preserved : goal.loop-rest-preserved
loop-rest-preserved g c = goes_on_at _ _ c.loop-rest.rest.now _ _ _ _ _ _ _ c.in-len1-up.len_at_least c.both_hold-hold.ensures c.in_ok-holds.ensures c.loop-rest.invariant

pub returns : goal.returns
returns g c = ends_at _ _ c.loop-rest.rest.now _ _ _ (omega (arith, c.in_default.len_below)) c.loop-rest.invariant
