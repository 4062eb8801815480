-- Tests that say whether two are the same.
use Rattle.std.proofs.Common.{◌≡◌, Bool, sym, ◌∙◌}
use Rattle.std.specs.Bool.{Decides}

-- what decides whether two are the same decides it of those that they are
pub decides_along : {X : Type 0} (r : Bool) (x y a b : X) → x ≡ a → y ≡ b → Decides r (x ≡ y) → Decides r (a ≡ b)
decides_along r x y a b is also decides = (λ yes. sym is ∙ decides.0 yes ∙ also, λ same. decides.1 (is ∙ same ∙ sym also))
