-- What is ready for a commit, by the parts that the record keeps.
use Rattle.std.specs.Prelude.{◌≡◌, ℕ, List, [], ◌∷◌, ◌++◌, ◌≤◌, length, Some}
use Rattle.std.proofs.Common.{ap, sym, ◌∙◌, subst}
use Rattle.std.proofs.lemmas.List.{length-map}
use Rattle.rls_value.specs.declared.object.Object.{Object}
use Rattle.rls_catalog.specs.declared.change.Change.{Change}
use Rattle.rls_source.specs.Footprints.{is_among}
use Rattle.rls_siread.specs.Covering.{covered_of}
use Rattle.rls_siread.specs.Locks.{Locks, held_by, noted_by, is_number_in}
use Rattle.rls_siread.specs.Index.{HolderList}
use Rattle.rls_conflict.specs.declared.committed.Committed.{Committed}
use Rattle.rls_conflict.specs.declared.ready.Ready.{Ready}
use Rattle.rls_conflict.specs.Transactions.{Transaction}
use Rattle.rls_conflict.specs.Known.{running_at, with_commit_of}
use Rattle.rls_conflict.specs.Begun.{Begun, at_number}
use Rattle.rls_conflict.specs.Commits.{is_place_in, AreReadBy, AreReadersOf, IsReady}
use Rattle.rls_conflict.specs.Kept.{committed_seen, all_committed, running_seen, known_by, AreEntries, IsIndexed}
use Rattle.rls_conflict.specs.Concurrent.{is_place_of_reader, is_place_of_writer}
use Rattle.rls_conflict.specs.Dangers.{with_last, HasEdges}
use Rattle.rls_conflict.proofs.UpdaterLemmas.{running_is}
use Rattle.rls_conflict.proofs.ReadLemmas.{are_readers, are_read}

-- the transaction is the running one
pub transaction_is : (locks : Locks) (txn : ℕ) (it : Begun) (transaction : Transaction) (snap : ℕ) (noted : List Object) (changes : List Change) → transaction ≡ record { number = txn; snap = snap; noted = noted; changes = changes }
    → snap ≡ it.snap → noted ≡ noted_by locks txn → changes ≡ it.changes → transaction ≡ running_seen locks (txn, it)
transaction_is locks txn it transaction snap noted changes is snap_is noted_is changes_are =
    is ∙ (λ i. record { number = txn; snap = snap_is i; noted = noted_is i; changes = changes_are i })

size : (committed : List Committed) → length (all_committed committed) ≡ length committed
size committed = length-map committed committed_seen

pub is_ready : (committed : List Committed) (running : List (ℕ × Begun)) (locks : Locks) (writers : List (Object × HolderList)) (floor : ℕ) → AreEntries committed → IsIndexed committed running locks writers floor
    → ((object : Object) (number : ℕ) → is_number_in (held_by locks object) number ≡ is_among (noted_by locks number) object)
    → (txn : ℕ) (it : Begun) → at_number txn running ≡ Some it → floor ≤ it.snap → (ready : Ready) → ready.transaction ≡ running_seen locks (txn, it) → ready.covered ≡ covered_of it.changes
    → (noted covered : List Object) → noted ≡ noted_by locks txn → covered ≡ covered_of it.changes
    → ((place : ℕ) → is_place_in ready.read.items place ≡ is_place_of_writer writers locks it.snap noted place)
    → ((place : ℕ) → is_place_in ready.readers.items place ≡ is_place_of_reader locks it.snap covered place)
    → IsReady (known_by committed running locks) txn ready
is_ready committed running locks writers floor entries indexed noting txn it runs within ready is has_covered noted covered noted_is covered_is read readers =
    let last = running_seen locks (txn, it) in
    let same : running_at (known_by committed running locks) txn ≡ last = running_is committed running locks txn it runs in
    let many = sym (size committed) in
    record {
      transaction = is ∙ sym same;
      covered = has_covered ∙ ap (λ (t : Transaction). covered_of t.changes) (sym same);
      read = subst (λ (n : ℕ). AreReadBy (with_commit_of (known_by committed running locks) txn) n ready.read.items) many
          (subst (λ (t : Transaction). AreReadBy (all_committed committed ++ t ∷ []) (length committed) ready.read.items) (sym same)
          (are_read committed running locks writers floor entries indexed last within noted noted_is ready.read.items read));
      readers = subst (λ (n : ℕ). AreReadersOf (with_commit_of (known_by committed running locks) txn) n ready.readers.items) many
          (subst (λ (t : Transaction). AreReadersOf (all_committed committed ++ t ∷ []) (length committed) ready.readers.items) (sym same)
          (are_readers committed running locks writers floor entries indexed last within noting covered covered_is ready.readers.items readers));
    }

-- it has the rw-antidependencies of its transaction
pub has_edges : (committed : List Committed) (running : List (ℕ × Begun)) (locks : Locks) (txn : ℕ) (ready : Ready) → IsReady (known_by committed running locks) txn ready → HasEdges committed ready
has_edges committed running locks txn ready is = record {
  covered = is.covered ∙ ap (λ (t : Transaction). covered_of t.changes) (sym is.transaction);
  read = subst (λ (n : ℕ). AreReadBy (with_last committed ready.transaction) n ready.read.items) (size committed)
      (subst (λ (t : Transaction). AreReadBy (all_committed committed ++ t ∷ []) (length (all_committed committed)) ready.read.items) (sym is.transaction) is.read);
  readers = subst (λ (n : ℕ). AreReadersOf (with_last committed ready.transaction) n ready.readers.items) (size committed)
      (subst (λ (t : Transaction). AreReadersOf (all_committed committed ++ t ∷ []) (length (all_committed committed)) ready.readers.items) (sym is.transaction) is.readers);
}

-- what holds of the committed ones with the transaction holds of them as though it committed now
pub told : (P : List Transaction → ℕ → Type 0) (committed : List Committed) (running : List (ℕ × Begun)) (locks : Locks) (txn : ℕ) (ready : Ready) → IsReady (known_by committed running locks) txn ready
    → P (with_last committed ready.transaction) (length committed) → P (with_commit_of (known_by committed running locks) txn) (length (all_committed committed))
told P committed running locks txn ready is holds =
    subst (λ (n : ℕ). P (with_commit_of (known_by committed running locks) txn) n) (sym (size committed))
    (subst (λ (t : Transaction). P (all_committed committed ++ t ∷ []) (length committed)) is.transaction holds)
