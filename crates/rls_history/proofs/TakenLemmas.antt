-- The test at a post is true exactly where a concurrent transaction wrote an object that the changes write.
use Rattle.std.proofs.Common.{◌≡◌, ℕ, ◌==◌, leb, not, ◌&&◌, Bool, true, false, List, [], ◌∷◌, length, refl, inl, inr, ◌↔◌, ne_eqb}
use Rattle.std.proofs.lemmas.Bool.{both_ways, or_cases, or_left, or_right, and_parts, and_from, not-true, not_from_false, eqb-false, le-leb, leb-true}
use Rattle.std.specs.List.{list_any}
use Rattle.rls_history.specs.History.{any_below}
use Rattle.rls_history.specs.States.{States, IsAmong, Apart}
use Rattle.rls_history.specs.Statements.{Statements}
use Rattle.rls_history.specs.Explained.{entry_at}
use Rattle.rls_history.specs.Worlds.{World, WriteCommon, shares, changes_of, IsTaken, is_taken}
use Rattle.rls_history.proofs.HistoryLemmas.{any_below_some, any_below_from}

-- a search of a list finds what there is
pub any_from : {X : Type 0} (p : X → Bool) (x : X) (xs : List X) → IsAmong x xs → p x ≡ true → list_any p xs ≡ true
any_from p x [] i e = absurd i
any_from p x (y ∷ xs) i e = elim i [ inl same ↦ or_left (p y) _ (rw same at e) | inr more ↦ or_right (p y) _ (any_from p x xs more e) ]

-- and nothing else
pub any_some : {X : Type 0} (p : X → Bool) (xs : List X) → list_any p xs ≡ true → (x : X) × IsAmong x xs × (p x ≡ true)
any_some p [] e = absurd cc
any_some p (y ∷ xs) e = elim (or_cases (p y) (list_any p xs) e) [
  | inl here ↦ (y, inl refl, here)
  | inr later ↦ (let r = any_some p xs later in (r.0, inr r.1, r.2))
]

module _ (s : States) where
  -- so does that for a common object
  pub shares_from : (cs es : List s.Change) → WriteCommon s cs es → shares s cs es ≡ true
  shares_from cs es r = any_from (λ (change : s.Change). list_any (s.share change) es) r.0 cs r.2 (any_from (s.share r.0) r.1 es r.3 r.4)

  -- and nothing else
  pub shares_some : (cs es : List s.Change) → shares s cs es ≡ true → WriteCommon s cs es
  shares_some cs es e =
      let a = any_some (λ (change : s.Change). list_any (s.share change) es) cs e in
      let b = any_some (s.share a.0) es a.2 in
      (a.0, b.0, a.1, b.1, b.2)

  -- where it finds none the changes are apart
  pub apart_since_unshared : (cs es : List s.Change) → shares s cs es ≡ false → Apart s cs es
  apart_since_unshared cs es none c e ic ie is = both_ways _ none (shares_from cs es (c, e, ic, ie, is))

module _ {s : States} {m : Statements s} (w : World m) (txn snap : ℕ) (changes : List s.Change) where
  -- where the test is true
  taken_from_test : is_taken w txn snap changes ≡ true → IsTaken w txn snap changes
  taken_from_test e =
      elim (or_cases (any_below (λ (i : ℕ). leb snap i && shares s changes (entry_at m w.committed i).changes) (length w.committed))
      (any_below (λ (i : ℕ). not (i == txn) && shares s changes (changes_of m (w.running i))) w.next) e) [
        | inl committed ↦
            (let a = any_below_some (λ (i : ℕ). leb snap i && shares s changes (entry_at m w.committed i).changes) (length w.committed) committed in
            let b = and_parts (leb snap a.0) (shares s changes (entry_at m w.committed a.0).changes) a.2 in
            inl (a.0, leb-true _ _ b.0, a.1, shares_some s changes (entry_at m w.committed a.0).changes b.1))
        | inr running ↦
            (let a = any_below_some (λ (i : ℕ). not (i == txn) && shares s changes (changes_of m (w.running i))) w.next running in
            let b = and_parts (not (a.0 == txn)) (shares s changes (changes_of m (w.running a.0))) a.2 in
            inr (a.0, a.1, eqb-false _ _ (not-true _ b.0), shares_some s changes (changes_of m (w.running a.0)) b.1))
      ]

  -- and the other way round
  test_from_taken : IsTaken w txn snap changes → is_taken w txn snap changes ≡ true
  test_from_taken taken = elim taken [
    | inl r ↦ or_left _ (any_below (λ (i : ℕ). not (i == txn) && shares s changes (changes_of m (w.running i))) w.next)
        (any_below_from (λ (i : ℕ). leb snap i && shares s changes (entry_at m w.committed i).changes) (length w.committed) r.0 r.2
        (and_from _ _ (le-leb _ _ r.1) (shares_from s changes (entry_at m w.committed r.0).changes r.3)))
    | inr r ↦ or_right (any_below (λ (i : ℕ). leb snap i && shares s changes (entry_at m w.committed i).changes) (length w.committed)) _
        (any_below_from (λ (i : ℕ). not (i == txn) && shares s changes (changes_of m (w.running i))) w.next r.0 r.1
        (and_from _ _ (not_from_false _ (ne_eqb _ _ r.2)) (shares_from s changes (changes_of m (w.running r.0)) r.3)))
  ]

  -- the test at a post
  pub taken_exactly : (is_taken w txn snap changes ≡ true) ↔ IsTaken w txn snap changes
  taken_exactly = (taken_from_test, test_from_taken)
