-- The answers that are left, and the place is in the list; none before it is one of the subquery.
use Rattle.std.proofs.Common.{◌-◌, ◌≤◌, length}
use Rattle.rls_source.specs.rls_catalog.specs.rls_expr.specs.ExprTerms.{query_of}
use Rattle.rls_evaluation.specs.CachedSubplans.{NoneBelow}
use Rattle.rls_evaluation.proofs.cached_subplan.place_of_subplan.Given as goal

abbrev pub decreases-loop-place : goal.decreases-loop-place
decreases-loop-place l = length l.cached_subplans - l.place

abbrev pub invariant-loop-place : goal.invariant-loop-place
invariant-loop-place l = (l.place ≤ length l.cached_subplans) × NoneBelow l.cached_subplans l.place l.from l.asks (query_of l.query)
