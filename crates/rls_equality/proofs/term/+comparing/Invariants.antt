use Rattle.std.proofs.Common.{◌≡◌, ◌↔◌, ◌+◌, ◌*◌, ◌≤◌, length}
use Rattle.rls_catalog.specs.rls_expr.specs.ExprTerms.{query_of}
use Rattle.rls_catalog.specs.rls_expr.specs.Terms.{maybe_term, terms_of, term_size, terms_size, query_size}
use Rattle.rls_equality.proofs.term.+comparing.Given as goal

-- what is left decides, and is no larger than all
abbrev pub invariant-are_same_terms-loop-left : goal.invariant-are_same_terms-loop-left
invariant-are_same_terms-loop-left l =
    ((terms_of l.left ≡ terms_of l.right) ↔ (terms_of l.fn.left ≡ terms_of l.fn.right)) × (terms_size (terms_of l.left) ≤ terms_size (terms_of l.fn.left))

abbrev pub decreases-are_same_terms-loop-left : goal.decreases-are_same_terms-loop-left
decreases-are_same_terms-loop-left l = length l.left

-- the size of what is left; a list of parts stands above its parts
abbrev pub decreases-is_same_term : goal.decreases-is_same_term
decreases-is_same_term l = 2 * term_size l.left.now

abbrev pub decreases-are_same_terms : goal.decreases-are_same_terms
decreases-are_same_terms l = 2 * terms_size (terms_of l.left.now) + 1

abbrev pub decreases-is_same_query : goal.decreases-is_same_query
decreases-is_same_query l = 2 * query_size (query_of l.left.now)

abbrev pub decreases-are_same_conditions : goal.decreases-are_same_conditions
decreases-are_same_conditions l = 2 * terms_size (maybe_term l.left.now) + 1
