use Rattle.std.proofs.Common.{rules, length}
use Rattle.std.specs.Prelude.{refl}
use Rattle.rls_source.specs.rls_catalog.specs.rls_expr.specs.ExprTerms.{query_of}
use Rattle.rls_evaluation.proofs.CachedSubplanLemmas.{none_below_more, none_below_all}
use Rattle.rls_evaluation.proofs.cached_subplan.place_of_subplan.Goals as goal

pub loop-place-preserved : goal.loop-place-preserved
loop-place-preserved c = (
  search rules,
  none_below_more c.args.cached_subplans.now c.loop-place.place c.args.from c.args.asks (query_of c.args.query.now) c.index-cached_subplans-place.result c.index-cached_subplans-place.is (c.if-is_for-2.ensures.not refl) c.loop-place.invariant.1,
)

pub returns-clause-none : goal.returns-clause-none
returns-clause-none c = λ none.
    none_below_all c.args.cached_subplans.now (length c.args.cached_subplans.now) c.loop-place.place c.args.from c.args.asks (query_of c.args.query.now) (search rules) c.loop-place.invariant.1
