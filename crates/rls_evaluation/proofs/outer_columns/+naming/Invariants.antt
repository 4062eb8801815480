use Rattle.std.proofs.Common.{◌≡◌, ◌+◌, ◌*◌, drop}
use Rattle.rls_source.specs.rls_catalog.specs.rls_expr.specs.ExprTerms.{query_of}
use Rattle.rls_source.specs.rls_catalog.specs.rls_expr.specs.Terms.{maybe_term, terms_of, term_size, terms_size, query_size}
use Rattle.rls_evaluation.specs.OuterColumns.{stay_in}
use Rattle.rls_evaluation.specs.Depths.{named_in}
use Rattle.rls_evaluation.proofs.outer_columns.+naming.Given as goal

-- the parts passed stay in: what is left decides
abbrev pub invariant-stay_in-loop-part : goal.invariant-stay_in-loop-part
invariant-stay_in-loop-part l = stay_in (named_in l.tables) (terms_of (drop l.part-index l.parts)) ≡ stay_in (named_in l.tables) (terms_of l.parts)

-- the size of what is left; a list of parts stands above its parts
abbrev pub decreases-stays_in : goal.decreases-stays_in
decreases-stays_in l = 2 * term_size l.expr.now

abbrev pub decreases-query_in : goal.decreases-query_in
decreases-query_in l = 2 * query_size (query_of l.query.now)

abbrev pub decreases-condition_in : goal.decreases-condition_in
decreases-condition_in l = 2 * terms_size (maybe_term l.condition.now) + 1

abbrev pub decreases-stay_in : goal.decreases-stay_in
decreases-stay_in l = 2 * terms_size (terms_of l.parts.now) + 1
