-- What is found first, and that it is that all holds exactly where it does.
use Rattle.std.specs.Prelude.{◌≡◌, refl, ◌↔◌, ℕ, List, Result, Ok, Err, IfOk}
use Rattle.std.specs.declared.alloc.AllocError.{AllocError}
use Rattle.std.proofs.Common.{sym, ◌∙◌, inl, inr}
use Rattle.rls_audit.specs.Audits.{AuditHolds}
use Rattle.rls_check.specs.declared.transaction.Transaction.{Transaction}
use Rattle.rls_check.specs.declared.finding.Finding.{Finding}
use Rattle.rls_check.specs.declared.finding.Finding.TheVariants as f
use Rattle.rls_check.specs.Audited.{lines_of}
use Rattle.rls_check.specs.Checking.{IsPlaced, IsNoOrder, IsFoundAlong, IsFirst}
use Rattle.rls_check.proofs.EndLemmas.{UncoveredStays}
use Rattle.rls_check.proofs.HoldsLemmas.{found_holds}
use Rattle.rls_check.proofs.HeldLemmas.{holds_found, placed_so}

-- along the order
pub first_along : (ts : List Transaction) (numbers places : List ℕ) (r : Result Finding AllocError) → IsPlaced ts numbers places → IfOk r (IsFoundAlong ts places) → IfOk r (IsFirst ts numbers)
first_along ts numbers places (Ok found) placed h = inl (places, placed, h)
first_along ts numbers places (Err e) placed h = tt

-- where there is no order
pub first_none : (ts : List Transaction) (numbers : List ℕ) → IsNoOrder ts numbers → IsFirst ts numbers f.Order
first_none ts numbers none = inr (none, refl)

held_first : UncoveredStays → (ts : List Transaction) (numbers : List ℕ) (found : Finding) → IsFirst ts numbers found → found ≡ f.Holds → AuditHolds (lines_of ts numbers)
held_first law ts numbers found first is =
    elim first [
      | inl along ↦ found_holds law ts numbers along.0 found along.1 along.2 is
      | inr none ↦ (let e : f.Holds ≡ f.Order = sym is ∙ none.1 in absurd (cc))
    ]

first_held : (ts : List Transaction) (numbers : List ℕ) (found : Finding) → IsFirst ts numbers found → AuditHolds (lines_of ts numbers) → found ≡ f.Holds
first_held ts numbers found first holds =
    elim first [
      | inl along ↦ holds_found ts numbers along.0 found along.1 along.2 holds
      | inr none ↦ absurd (none.0 holds.places (placed_so ts numbers holds))
    ]

-- all is found to hold exactly where the audit holds
pub exactly_held : UncoveredStays → (ts : List Transaction) (numbers : List ℕ) (r : Result Finding AllocError) → IfOk r (IsFirst ts numbers) → IfOk r (λ found. (found ≡ f.Holds) ↔ AuditHolds (lines_of ts numbers))
exactly_held law ts numbers (Ok found) first = (held_first law ts numbers found first, first_held ts numbers found first)
exactly_held law ts numbers (Err e) first = tt
