use Rattle.std.proofs.Common.{◌≡◌, ℕ}
use Rattle.std.specs.Prelude.{◌&&◌}
use Rattle.rls_siread.specs.Locks.{is_number_in, is_left, notes_at}
use Rattle.rls_siread.proofs.sireads.first_left.Given as goal

-- who stays is among those that are left
abbrev pub invariant-loop-txn : goal.invariant-loop-txn
invariant-loop-txn l = (number : ℕ) → (is_number_in l.txn-iterator number && is_left l.last (notes_at l.notes.entries number)) ≡ is_left l.last (notes_at l.notes.entries number)
