-- Who stands in an order.
use Rattle.std.specs.Prelude.{◌≡◌, refl, ℕ, suc, ◌==◌, ◌<◌, ◌≤◌, Bool, true, false, ◌||◌, List, [], ◌∷◌, length}
use Rattle.std.proofs.Common.{ap, sym, ◌∙◌, subst, inl, inr, ◌⊎◌, eq-eqb, eqb-true, lt-ltb}
use Rattle.std.proofs.lemmas.Bool.{cases_lt, or_parts, or_cases, or_left, or_right, true≢false}
use Rattle.rls_history.specs.History.{History, before, rw as edge}
use Rattle.rls_history.specs.Orders.{with_placed, none_placed, IsNext, StandInTurn, placed_by}
use Rattle.rls_check.specs.declared.transaction.Transaction.{Transaction}
use Rattle.rls_check.specs.Audited.{transaction_at}
use Rattle.rls_check.specs.Checking.{numbers_of}

abbrev pub among : List ℕ → ℕ → Bool
among [] i = false
among (p ∷ ps) i = (i == p) || among ps i

pub placed_among : (placed : ℕ → Bool) (ps : List ℕ) (i : ℕ) → placed_by placed ps i ≡ true → (placed i ≡ true) ⊎ (among ps i ≡ true)
placed_among placed [] i is = inl is
placed_among placed (p ∷ ps) i is =
    elim (placed_among (with_placed placed p) ps i is) [
      | inl now ↦ elim (or_cases (i == p) (placed i) now) [ inl here ↦ inr (or_left (i == p) (among ps i) here) | inr earlier ↦ inl earlier ]
      | inr later ↦ inr (or_right (i == p) (among ps i) later)
    ]

module _ (h : History) where
  pub unplaced : (placed : ℕ → Bool) (ps : List ℕ) (i : ℕ) → StandInTurn h placed ps → among ps i ≡ true → placed i ≡ false
  unplaced placed [] i turns is = absurd (true≢false (sym is))
  unplaced placed (p ∷ ps) i turns is =
      elim (or_cases (i == p) (among ps i) is) [
        | inl here ↦ subst (λ (x : ℕ). placed x ≡ false) (sym (eqb-true i p here)) turns.0.is_left
        | inr later ↦ (or_parts (i == p) (placed i) (unplaced (with_placed placed p) ps i turns.1 later)).1
      ]

  -- none stands twice
  pub apart : (placed : ℕ → Bool) (p : ℕ) (ps : List ℕ) (i : ℕ) → StandInTurn h placed (p ∷ ps) → among ps i ≡ true → (i == p) ≡ false
  apart placed p ps i turns later = (or_parts (i == p) (placed i) (unplaced (with_placed placed p) ps i turns.1 later)).0

  pub in_range : (placed : ℕ → Bool) (ps : List ℕ) (i : ℕ) → StandInTurn h placed ps → among ps i ≡ true → i < h.count
  in_range placed [] i turns is = absurd (true≢false (sym is))
  in_range placed (p ∷ ps) i turns is =
      elim (or_cases (i == p) (among ps i) is) [
        | inl here ↦ subst (λ (x : ℕ). x < h.count) (sym (eqb-true i p here)) turns.0.within
        | inr later ↦ in_range (with_placed placed p) ps i turns.1 later
      ]

  pub next_began : (placed : ℕ → Bool) (t : ℕ) → IsNext h placed t → h.snap t ≤ t
  next_began placed t next =
      elim (cases_lt t (h.snap t)) [
        | inl less ↦ absurd (true≢false (sym (next.all_before t next.within (or_left (before h t t) (edge h t t) (lt-ltb t (h.snap t) less))) ∙ next.is_left))
        | inr more ↦ more
      ]

  -- each began before it committed
  pub began_at : (placed : ℕ → Bool) (ps : List ℕ) (i : ℕ) → StandInTurn h placed ps → among ps i ≡ true → h.snap i ≤ i
  began_at placed [] i turns is = absurd (true≢false (sym is))
  began_at placed (p ∷ ps) i turns is =
      elim (or_cases (i == p) (among ps i) is) [
        | inl here ↦ subst (λ (x : ℕ). h.snap x ≤ x) (sym (eqb-true i p here)) (next_began placed p turns.0)
        | inr later ↦ began_at (with_placed placed p) ps i turns.1 later
      ]

pub own_among : (p : ℕ) (ps : List ℕ) → among (p ∷ ps) p ≡ true
own_among p ps = or_left (p == p) (among ps p) (eq-eqb p p refl)

-- two orders by the same numbers are one
pub one_order : (ts : List Transaction) (ps qs : List ℕ) → ((i j : ℕ) → i < length ts → j < length ts → (transaction_at ts i).txn ≡ (transaction_at ts j).txn → i ≡ j)
    → ((i : ℕ) → among ps i ≡ true → i < length ts) → ((i : ℕ) → among qs i ≡ true → i < length ts) → numbers_of ts ps ≡ numbers_of ts qs → ps ≡ qs
one_order ts [] [] differ wp wq h = refl
one_order ts [] (q ∷ qs) differ wp wq h = absurd (cc)
one_order ts (p ∷ ps) [] differ wp wq h = absurd (cc)
one_order ts (p ∷ ps) (q ∷ qs) differ wp wq h =
    let heads : (transaction_at ts p).txn ≡ (transaction_at ts q).txn = cc in
    let tails : numbers_of ts ps ≡ numbers_of ts qs = cc in
    let one : p ≡ q = differ p q (wp p (own_among p ps)) (wq q (own_among q qs)) heads in
    ap (λ (x : ℕ). x ∷ ps) one ∙ ap (λ (rest : List ℕ). q ∷ rest) (one_order ts ps qs differ (λ i later. wp i (or_right (i == p) (among ps i) later)) (λ i later. wq i (or_right (i == q) (among qs i) later)) tails)
