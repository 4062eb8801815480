use Rattle.std.proofs.Common.{◌≡◌, ◌+◌, ◌*◌, ◌++◌, drop, map}
use Rattle.rls_expr.specs.Terms.{terms_of, term_size, terms_size}
use Rattle.rls_explain.specs.{Details.parts_each, Found.subterm_of}
use Rattle.rls_explain.proofs.subterms.+subterms.Given as goal

-- the parts so far, and those of the expressions that are left, are all
abbrev pub invariant-put_each-loop-part : goal.invariant-put_each-loop-part
invariant-put_each-loop-part l = map subterm_of l.subterms.items ++ parts_each l.level (terms_of (drop l.part-index l.parts)) ≡ map subterm_of l.fn.subterms.items ++ parts_each l.level (terms_of l.parts)

-- the size of what is left; a list of parts stands above its parts
abbrev pub decreases-put_parts : goal.decreases-put_parts
decreases-put_parts l = 2 * term_size l.expr.now

abbrev pub decreases-put_each : goal.decreases-put_each
decreases-put_each l = 2 * terms_size (terms_of l.parts.now) + 1
