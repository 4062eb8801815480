use Rattle.std.proofs.Common.{arith}
use Rattle.rls_evaluation.proofs.CachedSubplanLemmas.{counted_cached}
use Rattle.rls_evaluation.proofs.cached_subplan.rests_at.Goals as goal

pub returns : goal.returns
returns c = λ relations user s read_set all.
    counted_cached relations user s read_set c.args.cached_subplans.now.items c.args.place c.index_mut-cached_subplan.result.now c.rests.new.self (omega arith) c.index_mut-cached_subplan.ensures.value
    (c.rests.ensures relations user s read_set) all
