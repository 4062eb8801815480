use Rattle.std.proofs.Common.{◌≡◌, ◌+◌, ◌*◌, drop}
use Rattle.rls_expr.specs.Terms.{terms_of, term_size, terms_size}
use Rattle.rls_expr.specs.Parts.{have_sum}
use Rattle.rls_expr.proofs.parts.+sums.Given as goal

-- there is none in the parts passed: what is left decides
abbrev pub invariant-have_sum-loop-part : goal.invariant-have_sum-loop-part
invariant-have_sum-loop-part l = have_sum (terms_of (drop l.part-index l.parts)) ≡ have_sum (terms_of l.parts)

-- the size of what is left; a list of parts stands above its parts
abbrev pub decreases-has_sum : goal.decreases-has_sum
decreases-has_sum l = 2 * term_size l.expr.now

abbrev pub decreases-have_sum : goal.decreases-have_sum
decreases-have_sum l = 2 * terms_size (terms_of l.parts.now) + 1
