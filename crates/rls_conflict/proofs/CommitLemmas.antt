-- What a commit leaves of the record.
use Rattle.std.specs.Prelude.{◌≡◌, refl, ◌≤◌, ◌+◌, ◌⊎◌, ℕ, zero, suc, List, [], ◌∷◌, ◌++◌, Bool, true, false, not, ◌&&◌, ◌||◌, nat_eq, length, map, if◌then◌else◌, Option, Some, None}
use Rattle.std.specs.List.{list_any, find}
use Rattle.std.specs.Option.{is_some, option_map}
use Rattle.std.proofs.Common.{ap, sym, subst, ◌∙◌, inl, inr, arith}
use Rattle.std.proofs.lemmas.Bool.{true≢false, or_parts, false_from_ne_true}
use Rattle.std.proofs.lemmas.List.{length-map, map_push}
use Rattle.std.proofs.lemmas.List.Folds.{list_any-append}
use Rattle.rls_value.specs.declared.object.Object.{Object}
use Rattle.rls_catalog.specs.declared.change.Change.{Change}
use Rattle.rls_catalog.specs.Bases.{covers, covers_any}
use Rattle.rls_source.specs.Footprints.{is_among}
use Rattle.rls_siread.specs.Covering.{covered_of}
use Rattle.rls_siread.specs.Locks.{Locks, marked, Notes, notes_at, objects_in, commit_in, noted_by, commit_of, has_notes, is_number_in, is_committed_by, arrived, without, HasNoted, HasForgotten, HasCommitted}
use Rattle.rls_siread.specs.Index.{HolderList, held_at}
use Rattle.rls_siread.specs.Promotion.{noted_with}
use Rattle.rls_siread.proofs.LocksLaws.{same_number, number_itself, number_turned, number_arrived, number_without}
use Rattle.rls_conflict.specs.declared.committed.Committed.{Committed}
use Rattle.rls_conflict.specs.declared.ready.Ready.{Ready}
use Rattle.rls_conflict.specs.Begun.{Begun, at_number, begun_at, with_changes, AreParts}
use Rattle.rls_conflict.specs.Transactions.{Transaction}
use Rattle.rls_conflict.specs.Commits.{IsReady, AreReadBy, AreReadersOf}
use Rattle.rls_conflict.specs.Known as known
use Rattle.rls_conflict.specs.Known.{Known, has_number, running_of, running_at, is_running, with_commit_of, beginning, posted, Becomes, IsNew}
use Rattle.rls_conflict.specs.Kept.{committed_seen, all_committed, running_seen, known_by, IsRecent, IsIndexed, IsWhole, NumbersDiffer}
use Rattle.rls_conflict.proofs.RunningLemmas.{some_there, none_there, IsPutAt, put_at, put_seen, same_seen, as_transaction, found_running, runs, running_is}
use Rattle.rls_conflict.proofs.OneLemmas.{IsApart, OthersStay, IsRunIn, IsGoneFrom, one_kept, running_apart}
use Rattle.rls_conflict.proofs.SealedLemmas.{sealed_kept}

-- the map has one entry less
pub one_less : (n m : ℕ) (b : Bool) → b ≡ true → n + (if b then 1 else 0) ≡ m → n + 1 ≡ m
one_less n m true is size = size
one_less n m false is size = absurd (true≢false (sym is))

-- what is kept of it
abbrev pub entry_of : Ready → Committed
entry_of ready = record { transaction = ready.transaction; covered = ready.covered; read = ready.read; readers = ready.readers }

module _ (committed : List Committed) (running running' : List (ℕ × Begun)) (locks locks' : Locks) (txn commit : ℕ) (ready : Ready)
    (ran : is_running (known_by committed running locks) txn ≡ true) (is_ready : IsReady (known_by committed running locks) txn ready)
    (puts : IsPutAt txn None running running') (next : commit ≡ suc (length committed)) (marks : HasCommitted txn commit locks locks') where
  marks_next : HasCommitted txn (suc (length committed)) locks locks'
  marks_next = subst (λ n. HasCommitted txn n locks locks') next marks

  pub closed_kept : (len capacity len' capacity' : ℕ) (writers : List (Object × HolderList)) (floor : ℕ) → IsWhole committed len capacity running locks writers floor → len' + length running' ≤ capacity'
      → IsWhole (committed ++ entry_of ready ∷ []) len' capacity' running' locks' writers floor
  closed_kept len capacity len' capacity' writers floor whole room =
      let it = some_there (at_number txn running) (sym (runs committed running locks txn) ∙ ran) in
      let is : ready.transaction ≡ running_seen locks (txn, it.0) = is_ready.transaction ∙ running_is committed running locks txn it.0 it.1 in
      let count = length-map committed committed_seen in
      sealed_kept committed (entry_of ready) running running' locks locks' writers floor txn it.0 it.1 puts marks_next is
      (is_ready.covered ∙ ap (λ (txn : Transaction). covered_of txn.changes) (sym is_ready.transaction))
      len capacity len' capacity' whole
      (subst (λ (last : Transaction). AreReadBy (all_committed committed ++ last ∷ []) (length committed) ready.read.items) (sym is_ready.transaction)
      (subst (λ n. AreReadBy (with_commit_of (known_by committed running locks) txn) n ready.read.items) count is_ready.read))
      (subst (λ (last : Transaction). AreReadersOf (all_committed committed ++ last ∷ []) (length committed) ready.readers.items) (sym is_ready.transaction)
      (subst (λ n. AreReadersOf (with_commit_of (known_by committed running locks) txn) n ready.readers.items) count is_ready.readers))
      room

  pub closed_seen : known.HasCommitted txn (known_by committed running locks) (known_by (committed ++ entry_of ready ∷ []) running' locks')
  closed_seen = record {
    committed = map_push committed_seen committed (entry_of ready) ∙ ap (λ last. all_committed committed ++ last ∷ []) is_ready.transaction;
    running = put_seen locks locks' running running' txn None (noted_by locks' txn) puts refl
        (λ other differs.
        ap objects_in (marks.notes other)
        ∙ ap (λ b. objects_in (if b then marked commit (notes_at locks.notes other) else notes_at locks.notes other)) differs);
  }
