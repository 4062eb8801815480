use Rattle.std.proofs.Common.{◌≡◌, ◌+◌, ◌*◌, ◌++◌, drop}
use Rattle.rls_expr.specs.ExprTerms.{query_of}
use Rattle.rls_expr.specs.Terms.{maybe_term, terms_of, term_size, terms_size, query_size}
use Rattle.rls_lint.specs.Nulls.{nulls_all}
use Rattle.rls_lint.proofs.nulls.+nulls.Given as goal

-- those so far, and those of the parts that are left, are all
abbrev pub invariant-put_all_nulls-loop-part : goal.invariant-put_all_nulls-loop-part
invariant-put_all_nulls-loop-part l = l.nulls ++ nulls_all (terms_of (drop l.part-index l.parts)) ≡ l.fn.nulls ++ nulls_all (terms_of l.parts)

-- the size of what is left; a list of parts stands above its parts
abbrev pub decreases-put_nulls : goal.decreases-put_nulls
decreases-put_nulls l = 2 * term_size l.expr.now

abbrev pub decreases-put_all_nulls : goal.decreases-put_all_nulls
decreases-put_all_nulls l = 2 * terms_size (terms_of l.parts.now) + 1

abbrev pub decreases-put_nulls_if : goal.decreases-put_nulls_if
decreases-put_nulls_if l = 2 * terms_size (maybe_term l.condition.now) + 1

abbrev pub decreases-put_query_nulls : goal.decreases-put_query_nulls
decreases-put_query_nulls l = 2 * query_size (query_of l.query.now)
