use Rattle.std.proofs.Common.{rules}
use Rattle.rls_source.specs.rls_catalog.specs.rls_expr.specs.ExprTerms.{query_of}
use Rattle.rls_evaluation.specs.Scoping.{env_of}
use Rattle.rls_evaluation.proofs.CachedSubplanLemmas.{kept_cached}
use Rattle.rls_evaluation.proofs.Telling.{on_ok_then}
use Rattle.rls_evaluation.proofs.cached_subplan.keep_at.Goals as goal

pub returns : goal.returns
returns c =
    on_ok_then c.keep.result _ _
    (λ kept. λ relations s read_set answer all.
    kept_cached relations s read_set c.args.cached_subplans.now.items c.args.place c.args.from c.args.asks (query_of c.args.query.now) (env_of c.args.env.now) c.args.answer c.index.result.now c.index_mut-cached_subplan.result.now c.keep.new.self
    (search rules) c.index.ensures c.index_mut-cached_subplan.ensures.value (c.is_for.ensures.is (search rules)) (kept relations s read_set) answer all) c.keep.ensures
