use Rattle.std.proofs.Common.{◌≡◌, ◌+◌, ◌*◌, drop}
use Rattle.rls_expr.specs.ExprTerms.{query_of}
use Rattle.rls_expr.specs.Terms.{maybe_term, terms_of, term_size, terms_size, query_size}
use Rattle.rls_text.specs.Nested.{have_room}
use Rattle.rls_text.proofs.subqueries.+rooms.Given as goal

-- there is room for the parts passed: what is left decides
abbrev pub invariant-parts_fit-loop-part : goal.invariant-parts_fit-loop-part
invariant-parts_fit-loop-part l = have_room l.room (terms_of (drop l.part-index l.parts)) ≡ have_room l.room (terms_of l.parts)

-- the size of what is left; a list of parts stands above its parts
abbrev pub decreases-fits : goal.decreases-fits
decreases-fits l = 2 * term_size l.expr.now

abbrev pub decreases-query_fits : goal.decreases-query_fits
decreases-query_fits l = 2 * query_size (query_of l.query.now)

abbrev pub decreases-condition_fits : goal.decreases-condition_fits
decreases-condition_fits l = 2 * terms_size (maybe_term l.condition.now) + 1

abbrev pub decreases-parts_fit : goal.decreases-parts_fit
decreases-parts_fit l = 2 * terms_size (terms_of l.parts.now) + 1
