use Rattle.std.proofs.Common.{◌≡◌, ◌++◌, drop, map}
use Rattle.rls_expr.specs.Terms.{terms_of}
use Rattle.rls_explain.specs.{Details.sides_at, Found.subterm_of}
use Rattle.rls_explain.proofs.subterms.put_sides.Given as goal

-- the parts so far, and those of the sides that are left, are all
abbrev pub invariant-loop-side : goal.invariant-loop-side
invariant-loop-side l = map subterm_of l.subterms.items ++ sides_at l.level (terms_of (drop l.side-index l.sides)) ≡ map subterm_of l.fn.subterms.items ++ sides_at l.level (terms_of l.sides)
