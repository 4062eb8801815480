use Rattle.std.proofs.Common.{◌≡◌, ◌+◌, ◌*◌, drop}
use Rattle.rls_expr.specs.ExprTerms.{query_of}
use Rattle.rls_expr.specs.Terms.{maybe_term, terms_of, term_size, terms_size, query_size}
use Rattle.rls_expr.specs.Resolving.{in_front, names_in, resolved_all}
use Rattle.rls_expr.proofs.resolving.+resolving.Given as goal

-- what is left, behind what is resolved, gives what the whole gives
abbrev pub invariant-resolve_all-loop-part : goal.invariant-resolve_all-loop-part
invariant-resolve_all-loop-part l = in_front l.all (resolved_all (terms_of (drop l.part-index l.parts)) (names_in l.scope)) ≡ resolved_all (terms_of l.parts) (names_in l.scope)

-- the size of what is left; a list of parts stands above its parts
abbrev pub decreases-resolve_columns : goal.decreases-resolve_columns
decreases-resolve_columns l = 4 * term_size l.expr.now

abbrev pub decreases-resolve_all : goal.decreases-resolve_all
decreases-resolve_all l = 4 * terms_size (terms_of l.parts.now) + 1

abbrev pub decreases-resolve_query : goal.decreases-resolve_query
decreases-resolve_query l = 4 * query_size (query_of l.query.now) + 2

abbrev pub decreases-resolve_over : goal.decreases-resolve_over
decreases-resolve_over l = 4 * query_size (query_of l.query.now) + 1

abbrev pub decreases-resolve_items : goal.decreases-resolve_items
decreases-resolve_items l = 4 * terms_size (terms_of l.query.now.items.items) + 2

abbrev pub decreases-resolve_condition : goal.decreases-resolve_condition
decreases-resolve_condition l = 4 * terms_size (maybe_term l.condition.now) + 1

abbrev pub decreases-resolve_boxed : goal.decreases-resolve_boxed
decreases-resolve_boxed l = 4 * term_size l.expr.now + 1

abbrev pub decreases-resolve_compare : goal.decreases-resolve_compare
decreases-resolve_compare l = 4 * (term_size l.left.now + term_size l.right.now) + 2

abbrev pub decreases-resolve_and : goal.decreases-resolve_and
decreases-resolve_and l = 4 * terms_size (terms_of l.parts.now) + 2

abbrev pub decreases-resolve_or : goal.decreases-resolve_or
decreases-resolve_or l = 4 * terms_size (terms_of l.parts.now) + 2

abbrev pub decreases-resolve_sum : goal.decreases-resolve_sum
decreases-resolve_sum l = 4 * terms_size (terms_of l.parts.now) + 2

abbrev pub decreases-resolve_in_list : goal.decreases-resolve_in_list
decreases-resolve_in_list l = 4 * (term_size l.left.now + terms_size (terms_of l.list.now)) + 2

abbrev pub decreases-resolve_not_in_list : goal.decreases-resolve_not_in_list
decreases-resolve_not_in_list l = 4 * (term_size l.left.now + terms_size (terms_of l.list.now)) + 2

abbrev pub decreases-resolve_in_subquery : goal.decreases-resolve_in_subquery
decreases-resolve_in_subquery l = 4 * (term_size l.left.now + query_size (query_of l.query.now)) + 3

abbrev pub decreases-resolve_not_in_subquery : goal.decreases-resolve_not_in_subquery
decreases-resolve_not_in_subquery l = 4 * (term_size l.left.now + query_size (query_of l.query.now)) + 3
