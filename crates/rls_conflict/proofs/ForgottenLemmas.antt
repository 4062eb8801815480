-- What stands in the record stays where the indexes forget those that committed before all that run began.
use Rattle.std.specs.Prelude.{◌≡◌, refl, ◌≤◌, ◌⊎◌, ℕ, suc, List, Bool, true, false, length, map, slice_get, if◌then◌else◌, Option, Some, None}
use Rattle.std.specs.List.{find}
use Rattle.std.specs.Option.{is_some, option_map}
use Rattle.std.proofs.Common.{ap, sym, ◌∙◌, inl, inr, arith}
use Rattle.std.proofs.lemmas.Bool.{true≢false, cases_lt, le-leb, lt-leb}
use Rattle.std.proofs.lemmas.Option.{none-some}
use Rattle.rls_value.specs.declared.object.Object.{Object}
use Rattle.rls_source.specs.Footprints.{is_among}
use Rattle.rls_siread.specs.Locks.{Locks, Notes, notes_at, objects_in, commit_in, commit_of, has_notes, is_number_in, is_committed_by, HasForgotten}
use Rattle.rls_siread.specs.Index.{HolderList, held_at}
use Rattle.rls_conflict.specs.declared.committed.Committed.{Committed}
use Rattle.rls_conflict.specs.Begun.{Begun, at_number}
use Rattle.rls_conflict.specs.Known.{has_number}
use Rattle.rls_conflict.specs.Kept.{running_seen, IsRecent, IsIndexed, IsWhole, NumbersDiffer, IsReleased}
use Rattle.rls_conflict.proofs.RunningLemmas.{as_transaction, found_running}

module _ (committed : List Committed) (running : List (ℕ × Begun)) (locks locks' : Locks) (writers writers' : List (Object × HolderList)) (floor floor' : ℕ)
    (forgets : HasForgotten (λ txn. is_committed_by floor' (commit_of locks txn)) locks locks') (released : IsReleased committed floor floor' writers writers')
    (later : floor ≤ floor') (differ : NumbersDiffer committed running) (old : IsIndexed committed running locks writers floor) where
  left : Bool → Option Notes → Option Notes
  left b notes = if b then None else notes

  -- whoever isn't forgotten is known as before
  notes_stay : (txn : ℕ) → is_committed_by floor' (commit_of locks txn) ≡ false → notes_at locks'.notes txn ≡ notes_at locks.notes txn
  notes_stay txn is = forgets.notes txn ∙ ap (λ b. if b then None else notes_at locks.notes txn) is

  pub run_stays : (txn : ℕ) (it : Begun) → at_number txn running ≡ Some it → notes_at locks'.notes txn ≡ notes_at locks.notes txn
  run_stays txn it is = notes_stay txn (ap (is_committed_by floor') (old.run txn it is).1)

  late_stays : (place : ℕ) (it : Committed) → slice_get committed place ≡ Some it → floor' ≤ place → notes_at locks'.notes it.transaction.number ≡ notes_at locks.notes it.transaction.number
  late_stays place it there above =
      notes_stay it.transaction.number (ap (is_committed_by floor') (old.marked place it there (omega arith)) ∙ lt-leb (suc place) floor' (omega arith))

  -- one that runs didn't commit
  run_apart : (txn : ℕ) (it : Begun) → at_number txn running ≡ Some it → (place : ℕ) (one : Committed) → slice_get committed place ≡ Some one → one.transaction.number ≡ txn → ⊥
  run_apart txn it is place one there same = none-some it (sym (differ.over place one there) ∙ ap (λ n. at_number n running) same ∙ is)

  -- whoever is known still runs or is recent still
  reader : (txn : ℕ) → has_notes locks' txn ≡ true → (is_some (at_number txn running) ≡ true) ⊎ IsRecent committed floor' txn
  reader txn is = case (is_committed_by floor' (commit_of locks txn)) refl
    where
      case : (b : Bool) → is_committed_by floor' (commit_of locks txn) ≡ b → (is_some (at_number txn running) ≡ true) ⊎ IsRecent committed floor' txn
      case true gone = absurd (true≢false (sym is ∙ ap is_some (forgets.notes txn ∙ ap (λ b. if b then None else notes_at locks.notes txn) gone)))
      case false stays = elim (old.no_reader txn (ap is_some (sym (notes_stay txn stays)) ∙ is)) [
        | inl runs ↦ inl runs
        | inr recent ↦ elim (cases_lt recent.place floor') [
          | inl before ↦ absurd (true≢false (sym (le-leb (suc recent.place) floor' (omega arith)) ∙ ap (is_committed_by floor') (sym (old.marked recent.place recent.it recent.there recent.recent) ∙ ap (commit_of locks) recent.number) ∙ stays))
          | inr above ↦ inr (record { place = recent.place; it = recent.it; recent = above; there = recent.there; number = recent.number })
        ]
      ]

  writer : (txn : ℕ) (object : Object) → is_number_in (held_at writers' object) txn ≡ true → (is_some (at_number txn running) ≡ true) ⊎ IsRecent committed floor' txn
  writer txn object is = elim (old.no_writer txn object (released.fewer txn object is)) [
    | inl runs ↦ inl runs
    | inr recent ↦ elim (cases_lt recent.place floor') [
      | inl before ↦ (let among : is_among recent.it.covered object ≡ true =
          sym (old.covered recent.place recent.it recent.there recent.recent object) ∙ ap (is_number_in (held_at writers object)) recent.number ∙ released.fewer txn object is in
          absurd (true≢false (sym is ∙ ap (is_number_in (held_at writers' object)) (sym recent.number) ∙ released.gone recent.place recent.it recent.there recent.recent before object among)))
      | inr above ↦ inr (record { place = recent.place; it = recent.it; recent = above; there = recent.there; number = recent.number })
    ]
  ]

  forgot_indexed : IsIndexed committed running locks' writers' floor'
  forgot_indexed = record {
    run = λ txn it is. (ap is_some (run_stays txn it is) ∙ (old.run txn it is).0, ap commit_in (run_stays txn it is) ∙ (old.run txn it is).1);
    written = λ txn it is object. released.kept txn (λ place one there above below same. run_apart txn it is place one there same) object ∙ old.written txn it is object;
    marked = λ place it there above. ap commit_in (late_stays place it there above) ∙ old.marked place it there (omega arith);
    noted = λ place it there above. ap objects_in (late_stays place it there above) ∙ old.noted place it there (omega arith);
    covered = λ place it there above object.
        released.kept it.transaction.number (λ other one stands from to same. let both = differ.places other place one it stands there same in absurd (omega arith)) object
        ∙ old.covered place it there (omega arith) object;
    no_reader = reader;
    no_writer = writer;
  }

pub forgot_kept : (committed : List Committed) (len capacity : ℕ) (running : List (ℕ × Begun)) (locks locks' : Locks) (writers writers' : List (Object × HolderList)) (floor floor' : ℕ)
    → IsWhole committed len capacity running locks writers floor → floor ≤ floor' → floor' ≤ length committed → ((txn : ℕ) (it : Begun) → at_number txn running ≡ Some it → floor' ≤ it.snap)
    → HasForgotten (λ txn. is_committed_by floor' (commit_of locks txn)) locks locks' → IsReleased committed floor floor' writers writers' → IsWhole committed len capacity running locks' writers' floor'
forgot_kept committed len capacity running locks locks' writers writers' floor floor' whole later within begun forgets released = record {
  entries = whole.entries;
  differ = whole.differ;
  snaps = λ txn it is. (begun txn it is, (whole.snaps txn it is).1);
  floor_within = within;
  indexed = forgot_indexed committed running locks locks' writers writers' floor floor' forgets released later whole.differ whole.indexed;
  room = whole.room;
}

-- what is seen of those that run is as it was
pub forgot_seen : (running : List (ℕ × Begun)) (locks locks' : Locks) → ((txn : ℕ) (it : Begun) → at_number txn running ≡ Some it → notes_at locks'.notes txn ≡ notes_at locks.notes txn)
    → (txn : ℕ) → find (has_number txn) (map (running_seen locks') running) ≡ find (has_number txn) (map (running_seen locks) running)
forgot_seen running locks locks' stay txn =
    found_running locks' txn running ∙ here (at_number txn running) refl ∙ sym (found_running locks txn running)
  where
    here : (it : Option Begun) → at_number txn running ≡ it → option_map (λ it. running_seen locks' (txn, it)) it ≡ option_map (λ it. running_seen locks (txn, it)) it
    here None is = refl
    here (Some it) is = ap (λ objects. Some (as_transaction txn objects it)) (ap objects_in (stay txn it is))
