-- Changes are free, or a transaction is named that wrote an object of theirs first.
use Rattle.std.specs.Prelude.{◌≡◌, ℕ, Bool, true, ◌&&◌, nat_eq, List}
use Rattle.std.specs.List.{list_any}
use Rattle.std.proofs.Common.{sym, ◌∙◌}
use Rattle.std.proofs.lemmas.Bool.{true≢false, and_parts, and_from}
use Rattle.std.proofs.lemmas.Cmp.{nat_eq_equiv}
use Rattle.rls_value.specs.declared.object.Object.{Object}
use Rattle.rls_catalog.specs.declared.change.Change.{Change}
use Rattle.rls_conflict.specs.Transactions.{Transaction}
use Rattle.rls_conflict.specs.Known.{Known}
use Rattle.rls_conflict.specs.Written.{writes_object, concurrent_with, IsWritten, IsFree}
use Rattle.rls_conflict.proofs.WritingLemmas.{any_from_in, in_from_any}

-- it wrote the object
abbrev wrote : Object → Transaction → Bool
wrote object other = writes_object other.changes object

-- and has that number
abbrev is_that : Object → ℕ → Transaction → Bool
is_that object number other = nat_eq number other.number && writes_object other.changes object

pub free_or_written : (known : Known) (txn : ℕ) (changes : List Change) (object : Object) (number : ℕ) → IsFree known txn changes → IsWritten known txn changes object number → ⊥
free_or_written known txn changes object number free is =
    let other = in_from_any (is_that object number) (concurrent_with known txn) is.by_other in
    let parts = and_parts (nat_eq number other.0.number) (wrote object other.0) other.2 in
    true≢false (sym (any_from_in (wrote object) other.0 (concurrent_with known txn) other.1 parts.1) ∙ free object is.written)

pub writer_named : (known : Known) (txn : ℕ) (changes : List Change) (object : Object) → writes_object changes object ≡ true
    → list_any (λ other. writes_object other.changes object) (concurrent_with known txn) ≡ true → (number : ℕ) × IsWritten known txn changes object number
writer_named known txn changes object own is =
    let other = in_from_any (wrote object) (concurrent_with known txn) is in (
      other.0.number,
      record {
        written = own;
        by_other = any_from_in (is_that object other.0.number) other.0 (concurrent_with known txn) other.1 (and_from (nat_eq other.0.number other.0.number) (wrote object other.0) (nat_eq_equiv.refl other.0.number) other.2);
      },
    )
