use Rattle.std.proofs.Common.{◌≡◌, ◌+◌, ◌*◌, drop}
use Rattle.rls_evaluation.specs.rls_catalog.specs.rls_expr.specs.ExprTerms.{query_of}
use Rattle.rls_evaluation.specs.rls_catalog.specs.rls_expr.specs.Terms.{maybe_term, terms_of, term_size, terms_size, query_size}
use Rattle.rls_guard.specs.Support.{are_unsupported}
use Rattle.rls_guard.proofs.support.+support.Given as goal

-- each of the parts passed is supported: what is left decides
abbrev pub invariant-are_unsupported-loop-part : goal.invariant-are_unsupported-loop-part
invariant-are_unsupported-loop-part l = are_unsupported l.sums (terms_of (drop l.part-index l.parts)) ≡ are_unsupported l.sums (terms_of l.parts)

-- the size of what is left; a list of parts stands above its parts
abbrev pub decreases-is_unsupported_with : goal.decreases-is_unsupported_with
decreases-is_unsupported_with l = 2 * term_size l.expr.now

abbrev pub decreases-are_unsupported : goal.decreases-are_unsupported
decreases-are_unsupported l = 2 * terms_size (terms_of l.parts.now) + 1

abbrev pub decreases-query_unsupported : goal.decreases-query_unsupported
decreases-query_unsupported l = 2 * query_size (query_of l.query.now)

abbrev pub decreases-condition_unsupported : goal.decreases-condition_unsupported
decreases-condition_unsupported l = 2 * terms_size (maybe_term l.condition.now) + 1
