-- Lists of terms.
use Rattle.std.proofs.Common.{◌≡◌, ℕ, ◌+◌, ◌<◌, ◌≤◌, List, [], ◌∷◌, length, arith, ap}
use Rattle.rls_catalog.specs.rls_expr.specs.Terms.{Term, terms_of, Terms, End, More}

-- how many terms
abbrev count : Terms → ℕ
count End = 0
count (More t ts) = count ts + 1

-- no terms aren't some
pub none_are_not_some : (ts us : List Term) → length ts < 1 → 1 ≤ length us → terms_of ts ≡ terms_of us → ⊥
none_are_not_some [] (u ∷ us) none some same = omega (arith, ap count same)
none_are_not_some [] [] none some same = omega (arith, some)
none_are_not_some (t ∷ ts) us none some same = omega (arith, none)
