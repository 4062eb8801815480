use Rattle.std.proofs.Common.{◌≡◌, ◌+◌, ◌*◌, ◌++◌, drop, map}
use Rattle.rls_expr.specs.ExprTerms.{query_of}
use Rattle.rls_expr.specs.Naming.{names_all, step_of}
use Rattle.rls_expr.specs.Terms.{maybe_term, terms_of, term_size, terms_size, query_size}
use Rattle.rls_expr.proofs.names.+names.Given as goal

-- the steps so far, and those of the parts that are left, are all
abbrev pub invariant-put_all_names-loop-part : goal.invariant-put_all_names-loop-part
invariant-put_all_names-loop-part l = map step_of l.steps.items ++ names_all (terms_of (drop l.part-index l.parts)) ≡ map step_of l.fn.steps.items ++ names_all (terms_of l.parts)

-- the size of what is left; a list of parts stands above its parts
abbrev pub decreases-put_names : goal.decreases-put_names
decreases-put_names l = 2 * term_size l.expr.now

abbrev pub decreases-put_all_names : goal.decreases-put_all_names
decreases-put_all_names l = 2 * terms_size (terms_of l.parts.now) + 1

abbrev pub decreases-put_names_if : goal.decreases-put_names_if
decreases-put_names_if l = 2 * terms_size (maybe_term l.condition.now) + 1

abbrev pub decreases-put_query_names : goal.decreases-put_query_names
decreases-put_query_names l = 2 * query_size (query_of l.query.now)
