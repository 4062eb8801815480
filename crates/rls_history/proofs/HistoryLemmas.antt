-- What concurrency and rw-antidependencies say of the numbers of commits, and searches among numbers.
use Rattle.std.proofs.Common.{◌≡◌, ℕ, zero, suc, ◌<◌, ◌≤◌, ◌==◌, Bool, true, false, not, ◌&&◌, arith, inl, inr, ◌⊎◌, ltb-false, ne_eqb}
use Rattle.std.proofs.lemmas.Bool.{and_parts, not-true, cases_Bool, or_cases, or_parts, or_left, or_right, eqb-false, cases_eq, and_from, not_from_false}
use Rattle.rls_history.specs.History.{History, before, concurrent, rw as edge, any_below}

module _ (h : History) where
  -- each committed after the other began
  pub concurrent_numbers : (i j : ℕ) → concurrent h i j ≡ true → (h.snap j ≤ i) × (h.snap i ≤ j) × (i ≡ j → ⊥)
  concurrent_numbers i j e =
      let a = and_parts (not (i == j) && not (before h i j)) (not (before h j i)) e in
      let b = and_parts (not (i == j)) (not (before h i j)) a.0 in
      (ltb-false _ _ (not-true _ b.1), ltb-false _ _ (not-true _ a.1), eqb-false _ _ (not-true _ b.0))

  -- and the other way round
  pub concurrent_from : (i j : ℕ) → (i ≡ j → ⊥) → before h i j ≡ false → before h j i ≡ false → concurrent h i j ≡ true
  concurrent_from i j apart a b = and_from _ _ (and_from _ _ (not_from_false _ (ne_eqb _ _ apart)) (not_from_false _ a)) (not_from_false _ b)

  -- what a rw-antidependency is
  pub rw_concurrent : (i j : ℕ) → edge h i j ≡ true → concurrent h i j ≡ true
  rw_concurrent i j e = (and_parts (concurrent h i j) (h.has_read i j) e).0

  -- and that it is read
  pub rw_read : (i j : ℕ) → edge h i j ≡ true → h.has_read i j ≡ true
  rw_read i j e = (and_parts (concurrent h i j) (h.has_read i j) e).1

  -- so each committed after the other began
  pub rw_numbers : (i j : ℕ) → edge h i j ≡ true → (h.snap j ≤ i) × (h.snap i ≤ j) × (i ≡ j → ⊥)
  rw_numbers i j e = concurrent_numbers i j (rw_concurrent i j e)

-- ---- searches

-- where the search finds none
pub any_below_none : (p : ℕ → Bool) (n : ℕ) → any_below p n ≡ false → (i : ℕ) → i < n → p i ≡ false
any_below_none p zero e i l = absurd (omega arith)
any_below_none p (suc n) e i l =
    let q = or_parts (p n) (any_below p n) e in
    elim (cases_eq i n) [ inl same ↦ rw same (q.0) | inr other ↦ any_below_none p n (q.1) i (omega arith) ]

-- where it finds one
pub any_below_some : (p : ℕ → Bool) (n : ℕ) → any_below p n ≡ true → (i : ℕ) × (i < n) × (p i ≡ true)
any_below_some p zero e = absurd cc
any_below_some p (suc n) e = elim (or_cases (p n) (any_below p n) e) [
  | inl here ↦ (n, omega arith, here)
  | inr below ↦ (let r = any_below_some p n below in (r.0, omega arith, r.2))
]

-- it finds what there is
pub any_below_from : (p : ℕ → Bool) (n i : ℕ) → i < n → p i ≡ true → any_below p n ≡ true
any_below_from p zero i l e = absurd (omega arith)
any_below_from p (suc n) i l e = elim (cases_eq i n) [
  | inl same ↦ or_left (p n) _ (rw same at e)
  | inr other ↦ or_right (p n) _ (any_below_from p n i (omega arith) e)
]

-- one, or none
pub search_below : (p : ℕ → Bool) (n : ℕ) → ((i : ℕ) × (i < n) × (p i ≡ true)) ⊎ ((i : ℕ) → i < n → p i ≡ false)
search_below p n = elim (cases_Bool (any_below p n)) [ inl some ↦ inl (any_below_some p n some) | inr none ↦ inr (any_below_none p n none) ]

-- the least, or none
pub least_below : (p : ℕ → Bool) (n : ℕ) → ((i : ℕ) × (i < n) × (p i ≡ true) × ((k : ℕ) → k < i → p k ≡ false)) ⊎ ((i : ℕ) → i < n → p i ≡ false)
least_below p zero = inr (λ i l. absurd (omega arith))
least_below p (suc n) =
    elim (least_below p n) [
      | inl r ↦ inl (r.0, omega arith, r.2, r.3)
      | inr none ↦ elim (cases_Bool (p n)) [
        | inl here ↦ inl (n, omega arith, here, none)
        | inr not_here ↦ inr (λ i l. elim (cases_eq i n) [ inl same ↦ rw same not_here | inr other ↦ none i (omega arith) ])
      ]
    ]
