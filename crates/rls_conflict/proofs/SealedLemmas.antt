-- What stands in the record stays where one that runs commits, as the last.
use Rattle.std.specs.Prelude.{◌≡◌, refl, ◌≤◌, ◌+◌, ◌⊎◌, ℕ, suc, List, [], ◌∷◌, ◌++◌, Bool, true, false, nat_eq, length, slice_get, cond, if◌then◌else◌, Option, Some, None}
use Rattle.std.specs.Option.{is_some}
use Rattle.std.proofs.Common.{ap, sym, subst, ◌∙◌, inl, inr, arith}
use Rattle.std.proofs.lemmas.Bool.{true≢false}
use Rattle.std.proofs.lemmas.List.{length_push}
use Rattle.std.proofs.lemmas.Option.{none-some}
use Rattle.rls_value.specs.declared.object.Object.{Object}
use Rattle.rls_catalog.specs.Bases.{covers_any}
use Rattle.rls_source.specs.Footprints.{is_among}
use Rattle.rls_siread.specs.Covering.{covered_of}
use Rattle.rls_siread.specs.Locks.{Locks, Notes, notes_at, objects_in, commit_in, noted_by, commit_of, has_notes, is_number_in, marked, HasCommitted}
use Rattle.rls_siread.specs.Index.{HolderList, held_at}
use Rattle.rls_siread.proofs.CoveringLaws.{among_covered_of}
use Rattle.rls_siread.proofs.LocksLaws.{same_number, number_itself}
use Rattle.rls_conflict.specs.declared.committed.Committed.{Committed}
use Rattle.rls_conflict.specs.Begun.{Begun, at_number}
use Rattle.rls_conflict.specs.Commits.{AreReadBy, AreReadersOf}
use Rattle.rls_conflict.specs.Kept.{running_seen, all_committed, IsRecent, IsIndexed, IsWhole, NumbersDiffer}
use Rattle.rls_conflict.proofs.RunningLemmas.{IsPutAt}
use Rattle.rls_conflict.proofs.EntryLemmas.{old_or_new, still_there, new_there, entries_pushed}

marked_there : (commit : ℕ) (notes : Option Notes) → is_some notes ≡ true → commit_in (marked commit notes) ≡ Some commit
marked_there commit (Some notes) is = refl
marked_there commit None is = absurd (true≢false (sym is))

marked_objects : (commit : ℕ) (notes : Option Notes) → objects_in (marked commit notes) ≡ objects_in notes
marked_objects commit (Some notes) = refl
marked_objects commit None = refl

marked_some : (commit : ℕ) (notes : Option Notes) → is_some (marked commit notes) ≡ is_some notes
marked_some commit (Some notes) = refl
marked_some commit None = refl

module _ (committed : List Committed) (new : Committed) (running running' : List (ℕ × Begun)) (locks locks' : Locks) (writers : List (Object × HolderList)) (floor txn : ℕ) (it : Begun)
    (ran : at_number txn running ≡ Some it) (puts : IsPutAt txn None running running') (marks : HasCommitted txn (suc (length committed)) locks locks')
    (is_it : new.transaction ≡ running_seen locks (txn, it)) (covered : new.covered ≡ covered_of new.transaction.changes) where
  number : new.transaction.number ≡ txn
  number = λ i. (is_it i).number

  -- one that committed has another number
  apart : NumbersDiffer committed running → (place : ℕ) (one : Committed) → slice_get committed place ≡ Some one → nat_eq txn one.transaction.number ≡ false
  apart differ place one there = case (nat_eq txn one.transaction.number) refl
    where
      case : (b : Bool) → nat_eq txn one.transaction.number ≡ b → b ≡ false
      case false is = refl
      case true is = absurd (none-some it (sym (differ.over place one there) ∙ ap (λ n. at_number n running) (sym (same_number txn one.transaction.number is)) ∙ ran))

  -- one that runs still is another that ran
  other_ran : (other : ℕ) (one : Begun) → at_number other running' ≡ Some one → (nat_eq txn other ≡ false) × (at_number other running ≡ Some one)
  other_ran other one is = case (nat_eq txn other) refl
    where
      case : (b : Bool) → nat_eq txn other ≡ b → (nat_eq txn other ≡ false) × (at_number other running ≡ Some one)
      case true same = absurd (none-some one (sym (ap (λ b. cond b None (at_number other running)) same) ∙ sym (puts other) ∙ is))
      case false differs = (differs, sym (ap (λ b. cond b None (at_number other running)) differs) ∙ sym (puts other) ∙ is)

  still_runs : (other : ℕ) → nat_eq txn other ≡ false → at_number other running' ≡ at_number other running
  still_runs other differs = puts other ∙ ap (λ b. cond b None (at_number other running)) differs

  notes_stay : (other : ℕ) → nat_eq txn other ≡ false → notes_at locks'.notes other ≡ notes_at locks.notes other
  notes_stay other differs = marks.notes other ∙ ap (λ b. if b then marked (suc (length committed)) (notes_at locks.notes other) else notes_at locks.notes other) differs

  notes_here : notes_at locks'.notes txn ≡ marked (suc (length committed)) (notes_at locks.notes txn)
  notes_here = marks.notes txn ∙ ap (λ b. if b then marked (suc (length committed)) (notes_at locks.notes txn) else notes_at locks.notes txn) (number_itself txn)

  -- what holds of those that committed, and of the new one, holds of all
  by_place : (P : ℕ → Committed → Type 0) → ((place : ℕ) (one : Committed) → slice_get committed place ≡ Some one → P place one) → P (length committed) new
      → (place : ℕ) (one : Committed) → slice_get (committed ++ new ∷ []) place ≡ Some one → P place one
  by_place P old last place one there = elim (old_or_new committed new place one there) [
    | inl was ↦ old place one was
    | inr is ↦ subst (λ n. P n one) (sym is.0) (subst (P (length committed)) (sym is.1) last)
  ]

  differ_still : NumbersDiffer committed running → NumbersDiffer (committed ++ new ∷ []) running'
  differ_still differ = record {
    places = λ i j one other first second same. by_place (λ i one. one.transaction.number ≡ other.transaction.number → i ≡ j)
        (λ i one was. by_place (λ j other. one.transaction.number ≡ other.transaction.number → i ≡ j)
        (λ j other there is. differ.places i j one other was there is)
        (λ is. absurd (true≢false (sym (ap (nat_eq txn) (is ∙ number) ∙ number_itself txn) ∙ apart differ i one was))) j other second)
        (by_place (λ j other. new.transaction.number ≡ other.transaction.number → length committed ≡ j)
        (λ j other there is. absurd (true≢false (sym (ap (nat_eq txn) (sym is ∙ number) ∙ number_itself txn) ∙ apart differ j other there)))
        (λ is. refl) j other second)
        i one first same;
    over = by_place (λ i one. at_number one.transaction.number running' ≡ None)
        (λ i one there. still_runs one.transaction.number (apart differ i one there) ∙ differ.over i one there)
        (ap (λ n. at_number n running') number ∙ puts txn ∙ ap (λ b. cond b None (at_number txn running)) (number_itself txn));
  }

  -- whoever is known runs or is recent
  holder : (P Q : ℕ → Type 0) → floor ≤ length committed → ((other : ℕ) → nat_eq txn other ≡ false → P other → Q other)
      → ((other : ℕ) → Q other → (is_some (at_number other running) ≡ true) ⊎ IsRecent committed floor other)
      → (other : ℕ) → P other → (is_some (at_number other running') ≡ true) ⊎ IsRecent (committed ++ new ∷ []) floor other
  holder P Q within passes were other is = case (nat_eq txn other) refl
    where
      case : (b : Bool) → nat_eq txn other ≡ b → (is_some (at_number other running') ≡ true) ⊎ IsRecent (committed ++ new ∷ []) floor other
      case true same = inr (record { place = length committed; it = new; recent = within; there = new_there committed new; number = number ∙ same_number txn other same })
      case false differs = elim (were other (passes other differs is)) [
        | inl runs ↦ inl (ap is_some (still_runs other differs) ∙ runs)
        | inr recent ↦ inr (record { place = recent.place; it = recent.it; recent = recent.recent; there = still_there committed new recent.place recent.it recent.there; number = recent.number })
      ]

  indexed_still : NumbersDiffer committed running → floor ≤ length committed → IsIndexed committed running locks writers floor → IsIndexed (committed ++ new ∷ []) running' locks' writers floor
  indexed_still differ within old = record {
    run = λ other one is. (
      ap is_some (notes_stay other (other_ran other one is).0) ∙ (old.run other one (other_ran other one is).1).0,
      ap commit_in (notes_stay other (other_ran other one is).0) ∙ (old.run other one (other_ran other one is).1).1,
    );
    written = λ other one is object. old.written other one (other_ran other one is).1 object;
    marked = by_place (λ place one. floor ≤ place → commit_of locks' one.transaction.number ≡ Some (suc place))
        (λ place one there above. ap commit_in (notes_stay one.transaction.number (apart differ place one there)) ∙ old.marked place one there above)
        (λ above. ap (commit_of locks') number ∙ ap commit_in notes_here ∙ marked_there (suc (length committed)) (notes_at locks.notes txn) (old.run txn it ran).0);
    noted = by_place (λ place one. floor ≤ place → noted_by locks' one.transaction.number ≡ one.transaction.noted)
        (λ place one there above. ap objects_in (notes_stay one.transaction.number (apart differ place one there)) ∙ old.noted place one there above)
        (λ above. ap (noted_by locks') number ∙ ap objects_in notes_here ∙ marked_objects (suc (length committed)) (notes_at locks.notes txn) ∙ sym (λ i. (is_it i).noted));
    covered = by_place (λ place one. floor ≤ place → (object : Object) → is_number_in (held_at writers object) one.transaction.number ≡ is_among one.covered object)
        (λ place one there above. old.covered place one there above)
        (λ above object.
        ap (is_number_in (held_at writers object)) number
        ∙ old.written txn it ran object
        ∙ sym (λ i. covers_any object (is_it i).changes)
        ∙ sym (among_covered_of new.transaction.changes object)
        ∙ ap (λ objects. is_among objects object) (sym covered));
    no_reader = holder (λ n. has_notes locks' n ≡ true) (λ n. has_notes locks n ≡ true) within (λ other differs is. ap is_some (sym (notes_stay other differs)) ∙ is) old.no_reader;
    no_writer = λ other object. holder (λ n. is_number_in (held_at writers object) n ≡ true) (λ n. is_number_in (held_at writers object) n ≡ true) within (λ n differs is. is) (λ n. old.no_writer n object) other;
  }

  pub sealed_kept : (len capacity len' capacity' : ℕ) → IsWhole committed len capacity running locks writers floor
      → AreReadBy (all_committed committed ++ new.transaction ∷ []) (length committed) new.read.items → AreReadersOf (all_committed committed ++ new.transaction ∷ []) (length committed) new.readers.items
      → len' + length running' ≤ capacity' → IsWhole (committed ++ new ∷ []) len' capacity' running' locks' writers floor
  sealed_kept len capacity len' capacity' whole read readers room =
      let more = length_push committed new in
      let within = whole.floor_within in record {
        entries = entries_pushed committed new whole.entries (subst (λ (n : ℕ). n ≤ length committed) (sym (λ i. (is_it i).snap)) (whole.snaps txn it ran).1) covered read readers;
        differ = differ_still whole.differ;
        snaps = λ other one is. (let snaps = whole.snaps other one (other_ran other one is).1 in let begun = snaps.1 in (snaps.0, omega arith));
        floor_within = omega arith;
        indexed = indexed_still whole.differ whole.floor_within whole.indexed;
        room = room;
      }
