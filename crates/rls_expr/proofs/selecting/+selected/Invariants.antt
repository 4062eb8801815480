use Rattle.std.proofs.Common.{◌≡◌, ◌+◌, ◌*◌, ◌++◌, drop}
use Rattle.rls_expr.specs.ExprTerms.{query_of}
use Rattle.rls_expr.specs.Selecting.{selected_all}
use Rattle.rls_expr.specs.Terms.{maybe_term, terms_of, term_size, terms_size, query_size}
use Rattle.rls_expr.proofs.selecting.+selected.Given as goal

-- the tables so far, and those of the parts that are left, are all
abbrev pub invariant-put_all_selected-loop-part : goal.invariant-put_all_selected-loop-part
invariant-put_all_selected-loop-part l = l.selected ++ selected_all l.found (terms_of (drop l.part-index l.parts)) ≡ l.fn.selected ++ selected_all l.found (terms_of l.parts)

-- the size of what is left; a list of parts stands above its parts
abbrev pub decreases-put_selected : goal.decreases-put_selected
decreases-put_selected l = 2 * term_size l.expr.now

abbrev pub decreases-put_all_selected : goal.decreases-put_all_selected
decreases-put_all_selected l = 2 * terms_size (terms_of l.parts.now) + 1

abbrev pub decreases-put_selected_if : goal.decreases-put_selected_if
decreases-put_selected_if l = 2 * terms_size (maybe_term l.condition.now) + 1

abbrev pub decreases-put_query_selected : goal.decreases-put_query_selected
decreases-put_query_selected l = 2 * query_size (query_of l.query.now)
