-- Whether what was shown are the records, no two of one commit.
use Rattle.std.proofs.Common.{◌≡◌, ◌⊎◌, inl, inr, ℕ, zero, suc, Bool, true, false, ◌+◌, ◌-◌, ◌<◌, ◌≤◌, List, [], ◌∷◌, ◌++◌, length, take, get_or, All, Some, None, slice_get, Result, Ok, Err, IfOk, refl, sym, ap, ◌∙◌, subst, arith}
use Rattle.std.proofs.Math.ListN.{set}
use Rattle.std.proofs.lemmas.List.{get_or-set_same, get_or-set_other, take_all, take_more}
use Rattle.std.proofs.lemmas.Bool.{cases_eq}
use Rattle.rls_session.specs.Parts.{Shown}
use Rattle.rls_engine.specs.rls_core.specs.Records.{Record}
use Rattle.rls_session.specs.Books.{AreTheRecords, DifferInCommit, IsBooked}

-- each is met
abbrev pub AreMet : List Shown → List Bool → Type 0
AreMet shown met = (i : ℕ) (one : Shown) → slice_get shown i ≡ Some one → get_or met (one.commit - 1) false ≡ true

-- before the last, or the last
at_last : (xs : List Shown) (x one : Shown) (i : ℕ) → slice_get (xs ++ x ∷ []) i ≡ Some one → (slice_get xs i ≡ Some one) ⊎ ((i ≡ length xs) × (x ≡ one))
at_last [] x one zero is = let there : Some x ≡ Some one = is in let same : x ≡ one = cc in inr (refl, same)
at_last [] x one (suc i) is = let no : None ≡ Some one = is in absurd cc
at_last (y ∷ ys) x one zero is = inl is
at_last (y ∷ ys) x one (suc i) is = elim (at_last ys x one i is) [ inl before ↦ inl before | inr last ↦ inr (ap (λ (n : ℕ). suc n) last.0, last.1) ]

-- one that is met isn't one that isn't
met_before : (xs : List Shown) (met : List Bool) (index i : ℕ) (one : Shown) → AreMet xs met → get_or met index false ≡ false → slice_get xs i ≡ Some one → one.commit ≡ index + 1 → ⊥
met_before xs met index i one are unmet at same =
    let place : one.commit - 1 ≡ index = omega (arith, same) in
    let is : get_or met index false ≡ true = subst (λ (k : ℕ). get_or met k false ≡ true) place (are i one at) in
    let clash : false ≡ true = sym unmet ∙ is in
    absurd cc

-- one more, which isn't met
differ_more : (xs : List Shown) (x : Shown) (met : List Bool) (index : ℕ) → AreMet xs met → DifferInCommit xs → x.commit ≡ index + 1 → get_or met index false ≡ false → DifferInCommit (xs ++ x ∷ [])
differ_more xs x met index are differ number unmet i j one other is_one is_other same =
    elim (at_last xs x one i is_one) [
      | inl before ↦
          (elim (at_last xs x other j is_other) [
            | inl too ↦ differ i j one other before too same
            | inr last ↦ absurd (met_before xs met index i one are unmet before (same ∙ (sym (ap (λ (s : Shown). s.commit) last.1) ∙ number)))
          ])
      | inr here ↦
          (elim (at_last xs x other j is_other) [
            | inl before ↦ absurd (met_before xs met index j other are unmet before (sym same ∙ (sym (ap (λ (s : Shown). s.commit) here.1) ∙ number)))
            | inr last ↦ here.0 ∙ sym last.0
          ])
    ]

-- it is met then
met_more : (xs : List Shown) (x : Shown) (met : List Bool) (index : ℕ) → AreMet xs met → x.commit ≡ index + 1 → index < length met → AreMet (xs ++ x ∷ []) (set met index true)
met_more xs x met index are number within i one is =
    elim (at_last xs x one i is) [
      | inl before ↦
          (elim (cases_eq (one.commit - 1) index) [
            | inl same ↦ subst (λ (k : ℕ). get_or (set met index true) k false ≡ true) (sym same) (get_or-set_same met index true false within)
            | inr other ↦ get_or-set_other met index (one.commit - 1) true false other ∙ are i one before
          ])
      | inr last ↦
          (let place : one.commit - 1 ≡ index = omega (arith, number, ap (λ (s : Shown). s.commit) last.1) in
          subst (λ (k : ℕ). get_or (set met index true) k false ≡ true) (sym place) (get_or-set_same met index true false within))
    ]

-- those up to the next one
next_is : (xs : List Shown) (x : Shown) (k : ℕ) → k < length xs → x ≡ get_or xs k x → take (k + 1) xs ≡ take k xs ++ x ∷ []
next_is xs x k within is = take_more xs k x within ∙ ap (λ (z : Shown). take k xs ++ z ∷ []) (sym is)

pub differ_next : (xs : List Shown) (x : Shown) (met : List Bool) (index k : ℕ) (before : Bool) → k < length xs → x ≡ get_or xs k x → AreMet (take k xs) met → DifferInCommit (take k xs) → x.commit ≡ index + 1 → before ≡ get_or met index false → before ≡ false → DifferInCommit (take (k + 1) xs)
differ_next xs x met index k before within is are differ number read unmet =
    subst (λ (zs : List Shown). DifferInCommit zs) (sym (next_is xs x k within is)) (differ_more (take k xs) x met index are differ number (sym read ∙ unmet))

pub met_next : (xs : List Shown) (x : Shown) (met then : List Bool) (index k : ℕ) → k < length xs → x ≡ get_or xs k x → AreMet (take k xs) met → x.commit ≡ index + 1 → index < length met → then ≡ set met index true → AreMet (take (k + 1) xs) then
met_next xs x met then index k within is are number inside becomes =
    subst (λ (bs : List Bool). AreMet (take (k + 1) xs) bs) (sym becomes)
    (subst (λ (zs : List Shown). AreMet zs (set met index true)) (sym (next_is xs x k within is)) (met_more (take k xs) x met index are number inside))

-- before the first, and behind the last
pub none_met : (met : List Bool) → AreMet [] met
none_met met i one is = let no : None ≡ Some one = is in absurd cc

pub none_differ : DifferInCommit []
none_differ i j one other is_one is_other same = let no : None ≡ Some one = is_one in absurd cc

pub all_differ : (xs : List Shown) (k : ℕ) → length xs ≤ k → DifferInCommit (take k xs) → DifferInCommit xs
all_differ xs k all differ = subst (λ (zs : List Shown). DifferInCommit zs) (take_all k xs all) differ

-- what was shown are the records
pub all_records : {E : Type 0} (history : List Record) (shown : List Shown) (r : Result Bool E) → All (IsBooked history) shown → length history ≡ length shown → IfOk r (λ differ. differ ≡ true → DifferInCommit shown) → IfOk r (λ all. all ≡ true → AreTheRecords history shown)
all_records history shown (Ok b) booked count differ = λ is. record { booked = booked; own = differ is; count = count }
all_records history shown (Err e) booked count differ = tt
