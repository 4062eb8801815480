-- A part of a list of terms is no larger than the list.
use Rattle.std.proofs.Common.{◌≡◌, ℕ, zero, suc, ◌<◌, ◌≤◌, List, [], ◌∷◌, length, get_or, arith, ap}
use Rattle.rls_expr.specs.Terms.{Term, term_size, terms_size, terms_of}

size_get : (es : List Term) (i : ℕ) (d : Term) → i < length es → term_size (get_or es i d) ≤ terms_size (terms_of es)
size_get [] i d h = absurd (omega arith)
size_get (e ∷ es) zero d h = omega arith
size_get (e ∷ es) (suc i) d h = omega (arith, size_get es i d (omega arith))

-- the part at an index is no larger than the list
pub size_at : (es : List Term) (i : ℕ) (e : Term) → i < length es → e ≡ get_or es i e → term_size e ≤ terms_size (terms_of es)
size_at es i e h is = omega (arith, size_get es i e h, ap term_size is)
