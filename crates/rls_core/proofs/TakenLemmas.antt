-- The test of a post by what others can conflict with, and that of the world.
use Rattle.std.specs.Prelude.{◌≡◌, refl, ℕ, zero, suc, ◌<◌, ◌≤◌, nat_eq, Bool, true, false, not, ◌&&◌, ◌||◌, cond, Option, Some, None, List, [], ◌∷◌, ◌++◌, map, length, get_or, drop, filter, unwrap_or, ◌⊎◌, ◌↔◌}
use Rattle.std.specs.List.{find, list_any, All}
use Rattle.std.specs.Option.{option_map, is_some}
use Rattle.std.proofs.Common.{ap, sym, subst, ◌∙◌, inl, inr, arith, eqb-true, eq-eqb}
use Rattle.std.proofs.lemmas.Bool.{true≢false, or_cases, or_left, or_right, and_parts, and_from, not-true, not_from_false, both_ways}
use Rattle.std.proofs.lemmas.Option.{none-some}
use Rattle.std.proofs.lemmas.List.Folds.{list_any-append}
use Rattle.rls_value.specs.declared.object.Object.{Object}
use Rattle.rls_catalog.specs.declared.change.Change.{Change}
use Rattle.rls_conflict.specs.Begun.{at_number}
use Rattle.rls_conflict.specs.Transactions.{Transaction, nobody}
use Rattle.rls_conflict.specs.Known.{Known, has_number, running_of, running_at, is_running, AreFound}
use Rattle.rls_conflict.specs.Written.{writes_object, concurrent_with, is_writer, IsWritten, IsFree}
use Rattle.rls_core.specs.Records.{Record, record_at, transaction_of}
use Rattle.rls_core.specs.Records as records
use Rattle.rls_core.specs.Events.{Running, World, changes_by, is_taken}
use Rattle.rls_core.specs.Headline.{IsTaken, PostsAreTested}
use Rattle.rls_core.specs.Opened.{Opened, joined}
use Rattle.rls_core.specs.Seen.{Seen, world_of}
use Rattle.rls_core.specs.Kept.{seen_of}
use Rattle.rls_core.specs.Calls.{IsWriting, WroteBeside}
use Rattle.rls_core.proofs.JoinedLemmas.{joined_there, found_number, is_found, some_of, held_there}

-- ---- searches

dropped_from : {X Y : Type 0} (p : Y → Bool) (f : X → Y) (xs : List X) (n i : ℕ) (d : X) → n ≤ i → i < length xs → p (f (get_or xs i d)) ≡ true → list_any p (drop n (map f xs)) ≡ true
dropped_from p f [] n i d from within is = (let none : ⊥ = omega arith in absurd none)
dropped_from p f (x ∷ xs) zero zero d from within is = or_left (p (f x)) (list_any p (map f xs)) is
dropped_from p f (x ∷ xs) zero (suc i) d from within is = or_right (p (f x)) (list_any p (map f xs)) (dropped_from p f xs zero i d (omega arith) (omega arith) is)
dropped_from p f (x ∷ xs) (suc n) zero d from within is = (let none : ⊥ = omega arith in absurd none)
dropped_from p f (x ∷ xs) (suc n) (suc i) d from within is = dropped_from p f xs n i d (omega arith) (omega arith) is

dropped_some : {X Y : Type 0} (p : Y → Bool) (f : X → Y) (xs : List X) (n : ℕ) (d : X) → list_any p (drop n (map f xs)) ≡ true → (i : ℕ) × (n ≤ i) × (i < length xs) × (p (f (get_or xs i d)) ≡ true)
dropped_some p f [] zero d is = absurd (true≢false (sym is))
dropped_some p f [] (suc n) d is = absurd (true≢false (sym is))
dropped_some p f (x ∷ xs) zero d is = elim (or_cases (p (f x)) (list_any p (map f xs)) is) [
  | inl here ↦ (0, omega arith, omega arith, here)
  | inr later ↦ (let r = dropped_some p f xs zero d later in (suc r.0, omega arith, (let less = r.2 in omega arith), r.3))
]
dropped_some p f (x ∷ xs) (suc n) d is = (let r = dropped_some p f xs n d is in (suc r.0, (let from = r.1 in omega arith), (let less = r.2 in omega arith), r.3))

same_txn : (a b : Transaction) → Some a ≡ Some b → a ≡ b
same_txn a b is = cc

filtered_from : (number : ℕ) (p q : Transaction → Bool) (all : List Transaction) (t : Transaction) → find (has_number number) all ≡ Some t → q t ≡ true → p t ≡ true → list_any p (filter q all) ≡ true
filtered_from number p q [] t there kept is = absurd (none-some t there)
filtered_from number p q (first ∷ all) t there kept is = by_found (filtered_from number p q all t) (has_number number first) there
  where
    passes : (b : Bool) → q first ≡ b → b ≡ true → p first ≡ true → list_any p (cond b (first ∷ filter q all) (filter q all)) ≡ true
    passes true here same it = or_left (p first) (list_any p (filter q all)) it
    passes false here same it = absurd (true≢false (sym same))

    later : (b : Bool) → list_any p (filter q all) ≡ true → list_any p (cond b (first ∷ filter q all) (filter q all)) ≡ true
    later true it = or_right (p first) (list_any p (filter q all)) it
    later false it = it

    by_found : (find (has_number number) all ≡ Some t → q t ≡ true → p t ≡ true → list_any p (filter q all) ≡ true) → (b : Bool) → cond b (Some first) (find (has_number number) all) ≡ Some t
        → list_any p (cond (q first) (first ∷ filter q all) (filter q all)) ≡ true
    by_found rest true found =
        let same : t ≡ first = same_txn t first (sym found) in
        passes (q first) refl (subst (λ (u : Transaction). q u ≡ true) same kept) (subst (λ (u : Transaction). p u ≡ true) same is)
    by_found rest false found = later (q first) (rest found kept is)

filtered_some : (P : Transaction → Type 0) (p q : Transaction → Bool) (all : List Transaction) → All P all → list_any p (filter q all) ≡ true → (t : Transaction) × P t × (q t ≡ true) × (p t ≡ true)
filtered_some P p q [] each is = absurd (true≢false (sym is))
filtered_some P p q (first ∷ all) each is = by_test (λ there. filtered_some P p q all (λ k d within. each (suc k) d (omega (arith, within))) there) (q first) refl is
  where
    by_test : (list_any p (filter q all) ≡ true → (t : Transaction) × P t × (q t ≡ true) × (p t ≡ true)) → (b : Bool) → q first ≡ b → list_any p (cond b (first ∷ filter q all) (filter q all)) ≡ true
        → (t : Transaction) × P t × (q t ≡ true) × (p t ≡ true)
    by_test rest true here there = elim (or_cases (p first) (list_any p (filter q all)) there) [
      | inl it ↦ (first, each 0 first (omega arith), here, it)
      | inr later ↦ rest later
    ]
    by_test rest false here there = rest there

-- ---- the two tests are one

module _ (committed : List Record) (known : Known) (opens : List (ℕ × Opened)) (next txn : ℕ) (changes : List Change) (known_is : known.committed ≡ map transaction_of committed) (runs : (q : ℕ) → is_some (at_number q opens) ≡ is_running known q)
    (below : (q : ℕ) → is_some (at_number q opens) ≡ true → q < next) (tested : PostsAreTested) where
  abbrev world : World
  world = world_of (seen_of committed known opens next)

  abbrev others : Transaction → Bool
  others other = not (nat_eq txn other.number)

  changes_there : (q : ℕ) (h : Opened) → at_number q opens ≡ Some h → changes_by (world.running q) ≡ (running_at known q).changes
  changes_there q h is = ap changes_by (joined_there known q opens (Some h) is)

  changes_none : (q : ℕ) → at_number q opens ≡ None → changes_by (world.running q) ≡ []
  changes_none q is = ap changes_by (joined_there known q opens None is)

  -- what is taken isn't free
  taken_meets : IsTaken world txn (running_at known txn).snap changes → (object : Object) × (writes_object changes object ≡ true) × (list_any (λ other. writes_object other.changes object) (concurrent_with known txn) ≡ true)
  taken_meets taken = elim taken [
    | inl it ↦ (
      it.3.0,
      it.3.1,
      list_any-append (λ (other : Transaction). writes_object other.changes it.3.0) (filter others known.running) (drop (running_at known txn).snap known.committed)
          ∙ or_right (list_any (λ (other : Transaction). writes_object other.changes it.3.0) (filter others known.running)) (list_any (λ (other : Transaction). writes_object other.changes it.3.0) (drop (running_at known txn).snap known.committed))
          (subst (λ (all : List Transaction). list_any (λ (other : Transaction). writes_object other.changes it.3.0) (drop (running_at known txn).snap all) ≡ true) (sym known_is)
          (dropped_from (λ (other : Transaction). writes_object other.changes it.3.0) transaction_of committed (running_at known txn).snap it.0 records.nobody it.1 it.2 it.3.2)),
    )
    | inr it ↦ (
      it.3.0,
      it.3.1,
      list_any-append (λ (other : Transaction). writes_object other.changes it.3.0) (filter others known.running) (drop (running_at known txn).snap known.committed)
          ∙ or_left (list_any (λ (other : Transaction). writes_object other.changes it.3.0) (filter others known.running)) (list_any (λ (other : Transaction). writes_object other.changes it.3.0) (drop (running_at known txn).snap known.committed))
          (beside it.0 it.2 it.3.0 it.3.2 (at_number it.0 opens) refl),
    )
  ]
    where
      beside : (q : ℕ) → (q ≡ txn → ⊥) → (object : Object) → writes_object (changes_by (world.running q)) object ≡ true → (o : Option Opened) → at_number q opens ≡ o
          → list_any (λ (other : Transaction). writes_object other.changes object) (filter others known.running) ≡ true
      beside q other object is None there =
          absurd (true≢false (sym (subst (λ (cs : List Change). writes_object cs object ≡ true) (changes_none q there) is)))
      beside q other object is (Some h) there =
          let found = is_found known q (sym (runs q) ∙ ap is_some there) in
          let number = found_number q known.running (running_at known q) found in
          filtered_from q (λ (one : Transaction). writes_object one.changes object) others known.running (running_at known q) found
          (not_from_false _ (differs (running_at known q).number number (nat_eq txn (running_at known q).number) refl))
          (subst (λ (cs : List Change). writes_object cs object ≡ true) (changes_there q h there) is)
        where
          differs : (n : ℕ) → n ≡ q → (b : Bool) → nat_eq txn n ≡ b → b ≡ false
          differs n same true is = absurd (other (sym (eqb-true txn n is ∙ same)))
          differs n same false is = refl

  pub free_isnt_taken : IsFree known txn changes → is_taken world txn (running_at known txn).snap changes ≡ false
  free_isnt_taken free = by_test (is_taken world txn (running_at known txn).snap changes) refl
    where
      by_test : (b : Bool) → is_taken world txn (running_at known txn).snap changes ≡ b → b ≡ false
      by_test true is =
          let met = taken_meets ((tested world txn (running_at known txn).snap changes).0 is) in
          absurd (true≢false (sym met.2 ∙ free met.0 met.1))
      by_test false is = refl

  abbrev wrote_as : Object → ℕ → Transaction → Bool
  wrote_as object number other = nat_eq number other.number && writes_object other.changes object

  -- who wrote it is another that runs, or committed since the snapshot
  pub wrote_beside : AreFound known → (object : Object) (number : ℕ) → is_writer (concurrent_with known txn) object number ≡ true → WroteBeside (seen_of committed known opens next) txn (running_at known txn).snap object number
  wrote_beside found object number is =
      elim (or_cases (list_any (wrote_as object number) (filter others known.running)) (list_any (wrote_as object number) (drop (running_at known txn).snap known.committed))
      (sym (list_any-append (wrote_as object number) (filter others known.running) (drop (running_at known txn).snap known.committed)) ∙ is)) [
        | inl running ↦
            (let it = filtered_some (λ t. running_of known t.number ≡ Some t) (wrote_as object number) others known.running found running in
            let both = and_parts (nat_eq number it.0.number) (writes_object it.0.changes object) it.3 in
            let same : number ≡ it.0.number = eqb-true number it.0.number both.0 in
            let there = some_of (at_number it.0.number opens) (runs it.0.number ∙ ap is_some it.1) in
            let changed : it.0.changes ≡ (running_at known it.0.number).changes = sym (ap (λ (o : Option Transaction). (unwrap_or o nobody).changes) it.1) in
            inr (subst (λ (n : ℕ). IsWriting (seen_of committed known opens next) txn object n) (sym same) (record {
              it = joined (running_at known it.0.number) there.0;
              another = λ its. true≢false (sym (eq-eqb txn it.0.number (sym its)) ∙ not-true _ it.2);
              runs = joined_there known it.0.number opens (Some there.0) there.1;
              wrote = subst (λ (cs : List Change). writes_object cs object ≡ true) changed both.1;
            })))
        | inr committed_one ↦
            (let it = dropped_some (wrote_as object number) transaction_of committed (running_at known txn).snap records.nobody (subst (λ (all : List Transaction). list_any (wrote_as object number) (drop (running_at known txn).snap all) ≡ true) known_is committed_one) in
            let both = and_parts (nat_eq number (record_at committed it.0).txn) (writes_object (record_at committed it.0).changes object) it.3 in
            inl (record { place = it.0; since = it.1; within = it.2; number = sym (eqb-true number (record_at committed it.0).txn both.0); wrote = both.1 }))
      ]

  -- what was written by another is taken
  pub written_is_taken : AreFound known → (object : Object) (number : ℕ) → IsWritten known txn changes object number → is_taken world txn (running_at known txn).snap changes ≡ true
  written_is_taken found object number written =
      (tested world txn (running_at known txn).snap changes).1
      (elim (wrote_beside found object number written.by_other) [
        | inl it ↦ inl (it.place, it.since, it.within, (object, written.written, it.wrote))
        | inr it ↦ inr (
          number,
          below number (ap is_some (held_there known number opens (ap is_some it.runs)).1),
          it.another,
          (object, written.written, subst (λ (o : Option Running). writes_object (changes_by o) object ≡ true) (sym it.runs) it.wrote),
        )
      ])
