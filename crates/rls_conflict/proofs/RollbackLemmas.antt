-- What a rollback leaves of the record.
use Rattle.std.specs.Prelude.{◌≡◌, refl, ◌≤◌, ◌+◌, ◌⊎◌, ℕ, zero, suc, List, [], ◌∷◌, ◌++◌, Bool, true, false, not, ◌&&◌, ◌||◌, nat_eq, length, map, if◌then◌else◌, Option, Some, None}
use Rattle.std.specs.List.{list_any, find}
use Rattle.std.specs.Option.{is_some, option_map}
use Rattle.std.proofs.Common.{ap, sym, subst, ◌∙◌, inl, inr, arith}
use Rattle.std.proofs.lemmas.Bool.{true≢false, or_parts, false_from_ne_true}
use Rattle.std.proofs.lemmas.List.{length-map, map_push}
use Rattle.std.proofs.lemmas.List.Folds.{list_any-append}
use Rattle.rls_value.specs.declared.object.Object.{Object}
use Rattle.rls_catalog.specs.declared.change.Change.{Change}
use Rattle.rls_catalog.specs.Bases.{covers, covers_any}
use Rattle.rls_source.specs.Footprints.{is_among}
use Rattle.rls_siread.specs.Covering.{covered_of}
use Rattle.rls_siread.specs.Locks.{Locks, marked, Notes, notes_at, objects_in, commit_in, noted_by, commit_of, has_notes, is_number_in, is_committed_by, arrived, without, HasNoted, HasForgotten, HasCommitted}
use Rattle.rls_siread.specs.Index.{HolderList, held_at}
use Rattle.rls_siread.specs.Promotion.{noted_with}
use Rattle.rls_siread.proofs.LocksLaws.{same_number, number_itself, number_turned, number_arrived, number_without}
use Rattle.rls_conflict.specs.declared.committed.Committed.{Committed}
use Rattle.rls_conflict.specs.declared.ready.Ready.{Ready}
use Rattle.rls_conflict.specs.Begun.{Begun, at_number, begun_at, with_changes, AreParts}
use Rattle.rls_conflict.specs.Transactions.{Transaction}
use Rattle.rls_conflict.specs.Commits.{IsReady, AreReadBy, AreReadersOf}
use Rattle.rls_conflict.specs.Known as known
use Rattle.rls_conflict.specs.Known.{Known, has_number, running_of, running_at, is_running, with_commit_of, beginning, posted, Becomes, IsNew}
use Rattle.rls_conflict.specs.Kept.{committed_seen, all_committed, running_seen, known_by, IsRecent, IsIndexed, IsWhole, NumbersDiffer}
use Rattle.rls_conflict.proofs.RunningLemmas.{some_there, none_there, IsPutAt, put_at, put_seen, same_seen, as_transaction, found_running, runs, running_is}
use Rattle.rls_conflict.proofs.OneLemmas.{IsApart, OthersStay, IsRunIn, IsGoneFrom, one_kept, running_apart}

-- who holds an object, once one holds none of those that are covered
left_case : (covered same : Bool) (txns : List ℕ) (txn other : ℕ) → nat_eq other txn ≡ same
    → is_number_in (if covered then without txns txn else txns) other ≡ (if same then not covered && is_number_in txns other else is_number_in txns other)
left_case true true txns txn other is = number_without txns txn other ∙ ap (λ b. not b && is_number_in txns other) is
left_case true false txns txn other is = number_without txns txn other ∙ ap (λ b. not b && is_number_in txns other) is
left_case false true txns txn other is = refl
left_case false false txns txn other is = refl

not_and_same : (a b : Bool) → b ≡ a → (not a && b) ≡ false
not_and_same true b is = refl
not_and_same false b is = is

module _ (writers writers' : List (Object × HolderList)) (txn : ℕ) (parts : List (List Object))
    (leaves : (object : Object) → held_at writers' object ≡ (if list_any (λ part. is_among part object) parts then without (held_at writers object) txn else held_at writers object)) where
  pub left_other : (other : ℕ) (object : Object) → nat_eq txn other ≡ false → is_number_in (held_at writers' object) other ≡ is_number_in (held_at writers object) other
  left_other other object differs =
      ap (λ txns. is_number_in txns other) (leaves object)
      ∙ left_case (list_any (λ part. is_among part object) parts) (nat_eq other txn) (held_at writers object) txn other refl
      ∙ ap (λ b. if b then not (list_any (λ part. is_among part object) parts) && is_number_in (held_at writers object) other else is_number_in (held_at writers object) other) (number_turned other txn ∙ differs)

  pub left_here : (object : Object) → is_number_in (held_at writers object) txn ≡ list_any (λ part. is_among part object) parts → is_number_in (held_at writers' object) txn ≡ false
  left_here object is =
      ap (λ txns. is_number_in txns txn) (leaves object)
      ∙ left_case (list_any (λ part. is_among part object) parts) (nat_eq txn txn) (held_at writers object) txn txn refl
      ∙ ap (λ b. if b then not (list_any (λ part. is_among part object) parts) && is_number_in (held_at writers object) txn else is_number_in (held_at writers object) txn) (number_itself txn)
      ∙ not_and_same (list_any (λ part. is_among part object) parts) (is_number_in (held_at writers object) txn) is

pub away_kept : (committed : List Committed) (len capacity : ℕ) (running running' : List (ℕ × Begun)) (locks locks' : Locks) (writers writers' : List (Object × HolderList)) (floor txn : ℕ) (it : Begun) (parts : List (List Object))
    → IsWhole committed len capacity running locks writers floor → at_number txn running ≡ Some it → AreParts parts it.changes
    → IsPutAt txn None running running' → length running' ≤ length running → HasForgotten (nat_eq txn) locks locks'
    → ((object : Object) → held_at writers' object ≡ (if list_any (λ part. is_among part object) parts then without (held_at writers object) txn else held_at writers object))
    → IsWhole committed len capacity running' locks' writers' floor
away_kept committed len capacity running running' locks locks' writers writers' floor txn it parts whole ran are puts size forgotten leaves =
    let room = whole.room in
    one_kept committed running running' locks locks' writers writers' floor txn None puts
    (record {
      notes = λ other differs. forgotten.notes other ∙ ap (λ b. if b then None else notes_at locks.notes other) differs;
      written = left_other writers writers' txn parts leaves;
    })
    (λ it is. let no : ⊥ = cc in absurd no)
    (λ none. record {
      unnoted = ap is_some (forgotten.notes txn) ∙ ap (λ b. is_some (if b then None else notes_at locks.notes txn)) (number_itself txn);
      unwritten = λ object. left_here writers writers' txn parts leaves object (whole.indexed.written txn it ran object ∙ sym (are object));
    })
    len capacity len capacity (running_apart committed running txn whole.differ (ap is_some ran)) whole (omega arith)

pub away_seen : (committed : List Committed) (running running' : List (ℕ × Begun)) (locks locks' : Locks) (txn : ℕ)
    → IsPutAt txn None running running' → HasForgotten (nat_eq txn) locks locks' → Becomes txn None (known_by committed running locks) (known_by committed running' locks')
away_seen committed running running' locks locks' txn puts forgotten = record {
  committed = refl;
  running = put_seen locks locks' running running' txn None (noted_by locks' txn) puts refl
      (λ other differs. ap objects_in (forgotten.notes other) ∙ ap (λ b. objects_in (if b then None else notes_at locks.notes other)) differs);
}

-- where it doesn't run, nothing changes
pub absent_seen : (committed : List Committed) (running running' : List (ℕ × Begun)) (locks : Locks) (txn : ℕ) → IsPutAt txn None running running' → Becomes txn None (known_by committed running locks) (known_by committed running' locks)
absent_seen committed running running' locks txn puts = record {
  committed = refl;
  running = put_seen locks locks running running' txn None (noted_by locks txn) puts refl (λ other differs. refl);
}
