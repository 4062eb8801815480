-- The tests that the meaning asks are the rules of the manual.
use Rattle.std.specs.Prelude.{◌≡◌, refl, ◌↔◌, ◌⊎◌, ℕ, List, Bool, true, false, ◌||◌}
use Rattle.std.specs.Str.{bytes_eq}
use Rattle.std.proofs.Common.{inl, inr}
use Rattle.std.proofs.lemmas.Bool.{true≢false}
use Rattle.std.proofs.Common.{sym}
use Rattle.std.proofs.lemmas.Slice.Eq.{bytes_eq-Decides}
use Rattle.rls_catalog.specs.{Paths.IsMember, Paths.closes_circle, Paths.is_member, State.State}
use Rattle.rls_catalog.proofs.Reaching.{is_member_is}

either_means : {A B : Type 0} (a b : Bool) → ((a ≡ true) ↔ A) → ((b ≡ true) ↔ B) → ((a || b) ≡ true) ↔ (A ⊎ B)
either_means true b one other = (λ is. inl (one.0 refl), λ either. refl)
either_means false b one other = (λ is. inr (other.0 is), λ either. elim either [ inl is ↦ absurd (true≢false (sym (one.1 is))) | inr is ↦ other.1 is ])

-- a membership closes a circle where the role would become a member of itself, or of its member
pub circle_means : (s : State) (role member : List ℕ) → (closes_circle s role member ≡ true) ↔ ((role ≡ member) ⊎ IsMember s role member)
circle_means s role member = either_means (bytes_eq role member) (is_member s role member) (bytes_eq-Decides role member) (is_member_is s role member)
