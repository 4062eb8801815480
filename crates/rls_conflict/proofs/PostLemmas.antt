-- What a post leaves of the record.
use Rattle.std.specs.Prelude.{◌≡◌, refl, ℕ, List, Bool, true, false, ◌||◌, nat_eq, length, map, if◌then◌else◌, Option, Some, None}
use Rattle.std.specs.List.{find}
use Rattle.std.specs.Option.{is_some, option_map}
use Rattle.std.proofs.Common.{ap, sym, subst, ◌∙◌, arith}
use Rattle.std.proofs.lemmas.Bool.{true≢false}
use Rattle.std.proofs.lemmas.List.Folds.{list_any-append}
use Rattle.rls_value.specs.declared.object.Object.{Object}
use Rattle.rls_catalog.specs.declared.change.Change.{Change}
use Rattle.rls_catalog.specs.Bases.{covers, covers_any}
use Rattle.rls_source.specs.Footprints.{is_among}
use Rattle.rls_siread.specs.Locks.{Locks, notes_at, objects_in, commit_in, noted_by, commit_of, is_number_in, arrived, HasNoted}
use Rattle.rls_siread.specs.Index.{HolderList, held_at}
use Rattle.rls_siread.specs.Promotion.{noted_with}
use Rattle.rls_siread.proofs.LocksLaws.{number_itself, number_turned, number_arrived}
use Rattle.rls_conflict.specs.declared.committed.Committed.{Committed}
use Rattle.rls_conflict.specs.Begun.{Begun, at_number, with_changes}
use Rattle.rls_conflict.specs.Transactions.{Transaction}
use Rattle.rls_conflict.specs.Known.{has_number, running_of, posted, Becomes}
use Rattle.rls_conflict.specs.Kept.{running_seen, known_by, IsWhole}
use Rattle.rls_conflict.proofs.RunningLemmas.{IsPutAt, put_seen, as_transaction, found_running}
use Rattle.rls_conflict.proofs.OneLemmas.{IsRunIn, one_kept, running_apart}

or_turned : (a b : Bool) → (a || b) ≡ (b || a)
or_turned true true = refl
or_turned true false = refl
or_turned false true = refl
or_turned false false = refl

-- who holds an object, once one holds those that are covered
held_case : (covered same : Bool) (txns : List ℕ) (txn other : ℕ) → nat_eq other txn ≡ same
    → is_number_in (if covered then arrived txns txn else txns) other ≡ (if same then covered || is_number_in txns other else is_number_in txns other)
held_case true true txns txn other is = number_arrived txns txn other ∙ ap (λ b. b || is_number_in txns other) is
held_case true false txns txn other is = number_arrived txns txn other ∙ ap (λ b. b || is_number_in txns other) is
held_case false true txns txn other is = refl
held_case false false txns txn other is = refl

module _ (writers writers' : List (Object × HolderList)) (txn : ℕ) (covered : List Object)
    (holds : (object : Object) → held_at writers' object ≡ (if is_among covered object then arrived (held_at writers object) txn else held_at writers object)) where
  pub held_other : (other : ℕ) (object : Object) → nat_eq txn other ≡ false → is_number_in (held_at writers' object) other ≡ is_number_in (held_at writers object) other
  held_other other object differs =
      ap (λ txns. is_number_in txns other) (holds object)
      ∙ held_case (is_among covered object) (nat_eq other txn) (held_at writers object) txn other refl
      ∙ ap (λ b. if b then is_among covered object || is_number_in (held_at writers object) other else is_number_in (held_at writers object) other) (number_turned other txn ∙ differs)

  pub held_here : (object : Object) → is_number_in (held_at writers' object) txn ≡ (is_among covered object || is_number_in (held_at writers object) txn)
  held_here object =
      ap (λ txns. is_number_in txns txn) (holds object)
      ∙ held_case (is_among covered object) (nat_eq txn txn) (held_at writers object) txn txn refl
      ∙ ap (λ b. if b then is_among covered object || is_number_in (held_at writers object) txn else is_number_in (held_at writers object) txn) (number_itself txn)

with_changes_there : (more : List Change) (found : Option Begun) (it : Begun) → option_map (with_changes more) found ≡ Some it → (was : Begun) × (found ≡ Some was) × (with_changes more was ≡ it)
with_changes_there more None it is = let no : ⊥ = cc in absurd no
with_changes_there more (Some was) it is = let same : with_changes more was ≡ it = cc in (was, refl, same)

with_changes_none : (more : List Change) (found : Option Begun) → option_map (with_changes more) found ≡ None → is_some found ≡ true → ⊥
with_changes_none more None is there = true≢false (sym there)
with_changes_none more (Some was) is there = let no : ⊥ = cc in no

pub posted_kept : (committed : List Committed) (len capacity : ℕ) (running running' : List (ℕ × Begun)) (locks locks' : Locks) (writers writers' : List (Object × HolderList)) (floor txn : ℕ)
    (more : List Change) (covered objects : List Object)
    → IsWhole committed len capacity running locks writers floor → is_some (at_number txn running) ≡ true → ((object : Object) → is_among covered object ≡ covers_any object more)
    → IsPutAt txn (option_map (with_changes more) (at_number txn running)) running running' → length running' ≡ length running → HasNoted txn objects locks locks'
    → ((object : Object) → held_at writers' object ≡ (if is_among covered object then arrived (held_at writers object) txn else held_at writers object))
    → IsWhole committed len capacity running' locks' writers' floor
posted_kept committed len capacity running running' locks locks' writers writers' floor txn more covered objects whole ran told puts size noted holds =
    let room = whole.room in
    one_kept committed running running' locks locks' writers writers' floor txn (option_map (with_changes more) (at_number txn running)) puts
    (record {
      notes = λ other differs. noted.notes other ∙ ap (λ b. if b then Some (record { commit = commit_of locks txn; objects = objects }) else notes_at locks.notes other) differs;
      written = held_other writers writers' txn covered holds;
    })
    (λ it is. (
    let was = with_changes_there more (at_number txn running) it is in
    subst (IsRunIn locks' writers' floor (length committed) txn) was.2 (record {
      noted = ap is_some here;
      unmarked = ap commit_in here ∙ (whole.indexed.run txn was.0 was.1).1;
      written = λ object.
          held_here writers writers' txn covered holds object
          ∙ (λ i. told object i || whole.indexed.written txn was.0 was.1 object i)
          ∙ or_turned (covers_any object more) (covers_any object was.0.changes)
          ∙ sym (list_any-append (covers object) was.0.changes more);
      after_floor = (whole.snaps txn was.0 was.1).0;
      begun = (whole.snaps txn was.0 was.1).1;
    })
    ))
    (λ none. absurd (with_changes_none more (at_number txn running) none ran))
    len capacity len capacity (running_apart committed running txn whole.differ ran) whole (omega arith)
  where
    here : notes_at locks'.notes txn ≡ Some (record { commit = commit_of locks txn; objects = objects })
    here = noted.notes txn ∙ ap (λ b. if b then Some (record { commit = commit_of locks txn; objects = objects }) else notes_at locks.notes txn) (number_itself txn)

pub posted_seen : (committed : List Committed) (running running' : List (ℕ × Begun)) (locks locks' : Locks) (txn limit : ℕ) (reads : List Object) (more : List Change)
    → IsPutAt txn (option_map (with_changes more) (at_number txn running)) running running' → HasNoted txn (noted_with limit (noted_by locks txn) reads) locks locks'
    → Becomes txn (option_map (posted limit reads more) (running_of (known_by committed running locks) txn)) (known_by committed running locks) (known_by committed running' locks')
posted_seen committed running running' locks locks' txn limit reads more puts noted = record {
  committed = refl;
  running = λ other.
      put_seen locks locks' running running' txn (option_map (with_changes more) (at_number txn running)) (noted_with limit (noted_by locks txn) reads) puts
      (ap objects_in (noted.notes txn)
      ∙ ap (λ b. objects_in (if b then Some (record { commit = commit_of locks txn; objects = noted_with limit (noted_by locks txn) reads }) else notes_at locks.notes txn)) (number_itself txn))
      (λ n differs.
      ap objects_in (noted.notes n)
      ∙ ap (λ b. objects_in (if b then Some (record { commit = commit_of locks txn; objects = noted_with limit (noted_by locks txn) reads }) else notes_at locks.notes n)) differs) other
      ∙ ap (λ (it : Option Transaction). if nat_eq txn other then it else find (has_number other) (map (running_seen locks) running))
      (mapped (at_number txn running) ∙ sym (ap (option_map (posted limit reads more)) (found_running locks txn running)));
}
  where
    mapped : (it : Option Begun) → option_map (as_transaction txn (noted_with limit (noted_by locks txn) reads)) (option_map (with_changes more) it) ≡ option_map (posted limit reads more) (option_map (λ it. running_seen locks (txn, it)) it)
    mapped None = refl
    mapped (Some it) = refl
