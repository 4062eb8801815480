use Rattle.std.proofs.Common.{◌≡◌, ℕ, true, false}
use Rattle.std.specs.Option.{is_some}
use Rattle.rls_siread.specs.Locks.{is_number_in, notes_at}
use Rattle.rls_siread.proofs.sireads.copy_notes.Given as goal

-- who is left has notes; those of the others are copied
abbrev pub invariant-loop-txn : goal.invariant-loop-txn
invariant-loop-txn l = record {
  has : (number : ℕ) → is_number_in l.txn-iterator number ≡ true → is_some (notes_at l.notes.entries number) ≡ true;
  copied : (number : ℕ) → is_number_in l.txn-iterator number ≡ false → notes_at l.copied.entries number ≡ notes_at l.notes.entries number;
}
