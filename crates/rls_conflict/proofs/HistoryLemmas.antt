-- What rls_history says of transactions and of changes, in the catalogue's words.
use Rattle.std.specs.Prelude.{◌≡◌, refl, ℕ, zero, suc, Bool, true, not, List, [], ◌∷◌, ◌||◌, map}
use Rattle.std.specs.BTreeMap.{is_at}
use Rattle.std.specs.List.{list_any}
use Rattle.std.specs.Ordering.{is_eq}
use Rattle.std.proofs.Common.{ap, sym, subst, ◌∙◌}
use Rattle.std.proofs.lemmas.Bool.{and_parts, and_from}
use Rattle.std.proofs.lemmas.Cmp.{tied_itself}
use Rattle.std.proofs.lemmas.List.{length-map}
use Rattle.rls_value.specs.{declared.object.Object.Object, Objects.object_order, ObjectOrder.objects_total}
use Rattle.rls_value.proofs.ObjectOrderLaws.{objects_same}
use Rattle.rls_catalog.specs.declared.change.Change.{Change}
use Rattle.rls_catalog.specs.Bases as bases
use Rattle.rls_catalog.specs.Writes.{writes, is_written}
use Rattle.rls_history.specs.States.{IsAmong, covers_any, meet}
use Rattle.rls_history.specs.Transactions as histories
use Rattle.rls_history.specs.Transactions.{is_empty}
use Rattle.rls_conflict.specs.Transactions.{Transaction, at, reads_from}
use Rattle.rls_conflict.specs.Written.{WriteCommonObject, write_common, write_one_object, is_no_key, is_updated}
use Rattle.rls_conflict.specs.States.{states, known_of}
use Rattle.rls_conflict.specs.Laws.{HistoriesAreTold, ReadsAreCovered, CommonObjectsAreWritten}
use Rattle.rls_conflict.proofs.CoverageLemmas.{covers_same}
use Rattle.rls_conflict.proofs.WritingLemmas.{equal_if, any_from_in, in_from_any}

-- ---- histories

-- an object that one of the changes covers
any_same : (object : Object) (changes : List Change) → covers_any states object changes ≡ bases.covers_any object changes
any_same object [] = refl
any_same object (change ∷ changes) = λ i. covers_same object change i || any_same object changes i

pub reads_covered : ReadsAreCovered
reads_covered [] changes = refl
reads_covered (object ∷ noted) changes = λ i. any_same object changes i || reads_covered noted changes i

-- the transaction at a place
known_at : (transactions : List Transaction) (place : ℕ) → histories.nth states (map known_of transactions) place ≡ known_of (at transactions place)
known_at [] place = refl
known_at (txn ∷ transactions) zero = refl
known_at (txn ∷ transactions) (suc place) = known_at transactions place

has_read_is : (transactions : List Transaction) (one other : ℕ)
    → (histories.history_of states (map known_of transactions)).has_read one other ≡ reads_from (at transactions one).noted (at transactions other).changes
has_read_is transactions one other =
    let first : histories.Transaction states → Bool = λ txn. meet states txn.noted (histories.nth states (map known_of transactions) other).changes in
    ap first (known_at transactions one)
    ∙ ap (λ (txn : histories.Transaction states). meet states (at transactions one).noted txn.changes) (known_at transactions other)
    ∙ reads_covered (at transactions one).noted (at transactions other).changes

pub histories_told : HistoriesAreTold
histories_told transactions = λ i. record {
  count = length-map transactions known_of i;
  snap = λ place. (known_at transactions place i).snap;
  has_read = λ one other. has_read_is transactions one other i;
  has_written = λ place. not (is_empty (known_at transactions place i).changes);
}

-- ---- what both write

-- from the test for a common object to the object
common_from : (changes others : List Change) → write_common changes others ≡ true → WriteCommonObject changes others
common_from changes others is =
    let change = in_from_any (λ (one : Change). list_any (write_one_object one) others) changes is in
    let other = in_from_any (write_one_object change.0) others change.2 in
    let object = in_from_any (λ x. is_updated x other.0) (writes change.0) other.2 in
    let parts = and_parts (not (is_no_key object.0)) (is_written object.0 other.0) object.2 in (
      object.0,
      any_from_in (is_updated object.0) change.0 changes change.1
          (and_from (not (is_no_key object.0)) (is_written object.0 change.0) parts.0
          (any_from_in (is_at (object_order object.0)) object.0 (writes change.0) object.1 (ap is_eq (tied_itself objects_total object.0)))),
      any_from_in (is_updated object.0) other.0 others other.1 object.2,
    )

-- and back
common_to : (changes others : List Change) → WriteCommonObject changes others → write_common changes others ≡ true
common_to changes others both =
    let change = in_from_any (is_updated both.0) changes both.1 in
    let other = in_from_any (is_updated both.0) others both.2 in
    let parts = and_parts (not (is_no_key both.0)) (is_written both.0 change.0) change.2 in
    let own = in_from_any (is_at (object_order both.0)) (writes change.0) parts.1 in
    let same : both.0 ≡ own.0 = objects_same both.0 own.0 (equal_if (object_order both.0 own.0) own.2) in
    any_from_in (λ (one : Change). list_any (write_one_object one) others) change.0 changes change.1
    (any_from_in (write_one_object change.0) other.0 others other.1
    (any_from_in (λ x. is_updated x other.0) both.0 (writes change.0) (subst (λ x. IsAmong x (writes change.0)) (sym same) own.1) other.2))

pub common_written : CommonObjectsAreWritten
common_written changes others = (common_from changes others, common_to changes others)
