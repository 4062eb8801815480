use Rattle.std.proofs.Common.{subst, rules}
use Rattle.rls_source.specs.rls_catalog.specs.rls_expr.specs.ExprTerms.{query_of}
use Rattle.rls_evaluation.specs.CachedSubplans.{FoundAt}
use Rattle.rls_evaluation.proofs.CachedSubplanLemmas.{counted_cached, counted_found, pushed_cached, pushed_found}
use Rattle.rls_evaluation.proofs.cached_subplan.place_for.Goals as goal

pub returns-in-Some-clause-found : goal.returns-in-Some-clause-found
returns-in-Some-clause-found c =
    counted_found c.args.cached_subplans.now.items c.in-Some.place c.args.from c.args.asks (query_of c.args.query.now) c.index_mut-cached_subplan.result.now c.count.new.self
    (subst (λ all. FoundAt all c.in-Some.place c.args.from c.args.asks (query_of c.args.query.now)) c.deref.ensures.value c.in-Some.ensures.found) c.index_mut-cached_subplan.ensures.value
    (c.count.ensures.is_for c.args.from c.args.asks (query_of c.args.query.now))

pub returns-in-Some-clause-cached : goal.returns-in-Some-clause-cached
returns-in-Some-clause-cached c = λ relations user s read_set all.
    counted_cached relations user s read_set c.args.cached_subplans.now.items c.in-Some.place c.index_mut-cached_subplan.result.now c.count.new.self
    (subst (λ all. FoundAt all c.in-Some.place c.args.from c.args.asks (query_of c.args.query.now)) c.deref.ensures.value c.in-Some.ensures.found).below c.index_mut-cached_subplan.ensures.value
    (c.count.ensures.same relations user s read_set) all

pub returns-in_ok-push-in-None-clause-found : goal.returns-in_ok-push-in-None-clause-found
returns-in_ok-push-in-None-clause-found c =
    pushed_found c.args.cached_subplans.now.items c.in_ok-made-in-None.made c.args.from c.args.asks (query_of c.args.query.now) c.push.new.self.items c.len-place.result c.in_ok-push-in-None.ensures.items c.in_ok-made-in-None.ensures.is_for (search rules)

pub returns-in_ok-push-in-None-clause-cached : goal.returns-in_ok-push-in-None-clause-cached
returns-in_ok-push-in-None-clause-cached c = λ relations user s read_set all.
    pushed_cached relations user s read_set c.args.cached_subplans.now.items c.in_ok-made-in-None.made c.args.from c.args.asks (query_of c.args.query.now) c.push.new.self.items c.in_ok-push-in-None.ensures.items c.in_ok-made-in-None.ensures.is_for
    c.in_ok-made-in-None.ensures.named c.in_ok-made-in-None.ensures.none all
