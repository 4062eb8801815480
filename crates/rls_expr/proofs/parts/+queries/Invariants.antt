use Rattle.std.proofs.Common.{◌≡◌, ◌+◌, ◌*◌, drop}
use Rattle.rls_expr.specs.Terms.{terms_of, term_size, terms_size}
use Rattle.rls_expr.specs.Parts.{have_query}
use Rattle.rls_expr.proofs.parts.+queries.Given as goal

-- there is none in the parts passed: what is left decides
abbrev pub invariant-have_query-loop-part : goal.invariant-have_query-loop-part
invariant-have_query-loop-part l = have_query (terms_of (drop l.part-index l.parts)) ≡ have_query (terms_of l.parts)

-- the size of what is left; a list of parts stands above its parts
abbrev pub decreases-has_query : goal.decreases-has_query
decreases-has_query l = 2 * term_size l.expr.now

abbrev pub decreases-have_query : goal.decreases-have_query
decreases-have_query l = 2 * terms_size (terms_of l.parts.now) + 1
