-- What a beginning leaves of the record.
use Rattle.std.specs.Prelude.{◌≡◌, refl, ◌≤◌, ◌+◌, ◌⊎◌, ℕ, zero, suc, List, [], ◌∷◌, ◌++◌, Bool, true, false, not, ◌&&◌, ◌||◌, nat_eq, length, map, if◌then◌else◌, Option, Some, None}
use Rattle.std.specs.List.{list_any, find}
use Rattle.std.specs.Option.{is_some, option_map}
use Rattle.std.proofs.Common.{ap, sym, subst, ◌∙◌, inl, inr, arith}
use Rattle.std.proofs.lemmas.Bool.{true≢false, or_parts, false_from_ne_true}
use Rattle.std.proofs.lemmas.List.{length-map, map_push}
use Rattle.std.proofs.lemmas.List.Folds.{list_any-append}
use Rattle.rls_value.specs.declared.object.Object.{Object}
use Rattle.rls_catalog.specs.declared.change.Change.{Change}
use Rattle.rls_catalog.specs.Bases.{covers, covers_any}
use Rattle.rls_source.specs.Footprints.{is_among}
use Rattle.rls_siread.specs.Covering.{covered_of}
use Rattle.rls_siread.specs.Locks.{Locks, marked, Notes, notes_at, objects_in, commit_in, noted_by, commit_of, has_notes, is_number_in, is_committed_by, arrived, without, HasNoted, HasForgotten, HasCommitted}
use Rattle.rls_siread.specs.Index.{HolderList, held_at}
use Rattle.rls_siread.specs.Promotion.{noted_with}
use Rattle.rls_siread.proofs.LocksLaws.{same_number, number_itself, number_turned, number_arrived, number_without}
use Rattle.rls_conflict.specs.declared.committed.Committed.{Committed}
use Rattle.rls_conflict.specs.declared.ready.Ready.{Ready}
use Rattle.rls_conflict.specs.Begun.{Begun, at_number, begun_at, with_changes, AreParts}
use Rattle.rls_conflict.specs.Transactions.{Transaction}
use Rattle.rls_conflict.specs.Commits.{IsReady, AreReadBy, AreReadersOf}
use Rattle.rls_conflict.specs.Known as known
use Rattle.rls_conflict.specs.Known.{Known, has_number, running_of, running_at, is_running, with_commit_of, beginning, posted, Becomes, IsNew}
use Rattle.rls_conflict.specs.Kept.{committed_seen, all_committed, running_seen, known_by, IsRecent, IsIndexed, IsWhole, NumbersDiffer}
use Rattle.rls_conflict.proofs.RunningLemmas.{some_there, none_there, IsPutAt, put_at, put_seen, same_seen, as_transaction, found_running, runs, running_is}
use Rattle.rls_conflict.proofs.OneLemmas.{IsApart, OthersStay, IsRunIn, IsGoneFrom, one_kept, running_apart}

-- the number of a new one is that of none that committed
pub new_apart : (committed : List Committed) (txn : ℕ) → list_any (has_number txn) (all_committed committed) ≡ false → IsApart committed txn
new_apart [] txn none place it there = cc
new_apart (x ∷ xs) txn none zero it there =
    let same : x ≡ it = cc in
    ap (λ (one : Committed). nat_eq txn one.transaction.number) (sym same) ∙ (or_parts (nat_eq txn x.transaction.number) (list_any (has_number txn) (all_committed xs)) none).0
new_apart (x ∷ xs) txn none (suc place) it there = new_apart xs txn (or_parts (nat_eq txn x.transaction.number) (list_any (has_number txn) (all_committed xs)) none).1 place it there

module _ (committed : List Committed) (running : List (ℕ × Begun)) (locks : Locks) (writers : List (Object × HolderList)) (floor txn : ℕ) (old : IsIndexed committed running locks writers floor)
    (apart : IsApart committed txn) (absent : at_number txn running ≡ None) where
  nowhere : (is_some (at_number txn running) ≡ true) ⊎ IsRecent committed floor txn → ⊥
  nowhere found = elim found [
    | inl ran ↦ true≢false (sym ran ∙ ap is_some absent)
    | inr recent ↦ true≢false (sym (number_itself txn) ∙ ap (nat_eq txn) (sym recent.number) ∙ apart recent.place recent.it recent.there)
  ]

  -- the indexes know nothing of it
  pub new_unnoted : notes_at locks.notes txn ≡ None
  new_unnoted = none_there (notes_at locks.notes txn) (false_from_ne_true (has_notes locks txn) (λ has. nowhere (old.no_reader txn has)))

  pub new_unwritten : (object : Object) → is_number_in (held_at writers object) txn ≡ false
  new_unwritten object = false_from_ne_true (is_number_in (held_at writers object) txn) (λ is. nowhere (old.no_writer txn object is))

pub begun_kept : (committed : List Committed) (len capacity len' capacity' : ℕ) (running running' : List (ℕ × Begun)) (locks locks' : Locks) (writers : List (Object × HolderList)) (floor txn snap : ℕ)
    → IsWhole committed len capacity running locks writers floor → IsApart committed txn → at_number txn running ≡ None → snap ≡ length committed
    → IsPutAt txn (Some (begun_at snap)) running running'
    → ((other : ℕ) → notes_at locks'.notes other ≡ (if nat_eq txn other then Some (record { commit = None; objects = [] }) else notes_at locks.notes other))
    → len' + length running' ≤ capacity' → IsWhole committed len' capacity' running' locks' writers floor
begun_kept committed len capacity len' capacity' running running' locks locks' writers floor txn snap whole apart absent at_end puts noted room =
    let within = whole.floor_within in
    one_kept committed running running' locks locks' writers writers floor txn (Some (begun_at snap)) puts
    (record {
      notes = λ other differs. noted other ∙ ap (λ b. if b then Some (record { commit = None; objects = [] }) else notes_at locks.notes other) differs;
      written = λ other object differs. refl;
    })
    (λ it is. subst (IsRunIn locks' writers floor (length committed) txn) (let same : begun_at snap ≡ it = cc in same) (record {
      noted = ap is_some here;
      unmarked = ap commit_in here;
      written = new_unwritten committed running locks writers floor txn whole.indexed apart absent;
      after_floor = omega arith;
      begun = omega arith;
    }))
    (λ none. let no : ⊥ = cc in absurd no)
    len capacity len' capacity' apart whole room
  where
    here : notes_at locks'.notes txn ≡ Some (record { commit = None; objects = [] })
    here = noted txn ∙ ap (λ b. if b then Some (record { commit = None; objects = [] }) else notes_at locks.notes txn) (number_itself txn)

pub begun_seen : (committed committed' : List Committed) (running running' : List (ℕ × Begun)) (locks locks' : Locks) (txn snap : ℕ) → committed' ≡ committed → snap ≡ length committed
    → IsPutAt txn (Some (begun_at snap)) running running'
    → ((other : ℕ) → notes_at locks'.notes other ≡ (if nat_eq txn other then Some (record { commit = None; objects = [] }) else notes_at locks.notes other))
    → Becomes txn (Some (beginning txn (length (all_committed committed)))) (known_by committed running locks) (known_by committed' running' locks')
begun_seen committed committed' running running' locks locks' txn snap same at_end puts noted = record {
  committed = ap all_committed same;
  running = λ other.
      put_seen locks locks' running running' txn (Some (begun_at snap)) [] puts
      (ap objects_in (noted txn) ∙ ap (λ b. objects_in (if b then Some (record { commit = None; objects = [] }) else notes_at locks.notes txn)) (number_itself txn))
      (λ n differs. ap objects_in (noted n) ∙ ap (λ b. objects_in (if b then Some (record { commit = None; objects = [] }) else notes_at locks.notes n)) differs) other
      ∙ ap (λ (n : ℕ). if nat_eq txn other then Some (beginning txn n) else find (has_number other) (map (running_seen locks) running)) (at_end ∙ sym (length-map committed committed_seen));
}
