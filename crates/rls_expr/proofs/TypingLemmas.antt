-- The type of what a subquery with several items selects.
use Rattle.std.proofs.Common.{◌≡◌, ◌≤◌, List, [], ◌∷◌, length, refl, arith}
use Rattle.rls_expr.specs.declared.typing.Typing.TheVariants.{Fault}
use Rattle.rls_expr.specs.Terms.{Term, terms_of}
use Rattle.rls_expr.specs.Typing.{only_type}

-- more than one have none
pub several : (ts : List Term) → 2 ≤ length ts → Fault ≡ only_type (terms_of ts)
several [] h = absurd (omega (arith, h))
several (t ∷ []) h = absurd (omega (arith, h))
several (t ∷ (u ∷ ts)) h = refl
