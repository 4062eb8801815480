use Rattle.std.proofs.Common.{◌≡◌, ℕ}
use Rattle.std.specs.Prelude.{◌&&◌}
use Rattle.rls_siread.specs.Locks.{is_number_in, is_committed_by, commit_in, notes_at}
use Rattle.rls_siread.proofs.sireads.first_committed.Given as goal

-- who committed by the number is left
abbrev pub invariant-loop-txn : goal.invariant-loop-txn
invariant-loop-txn l = (number : ℕ) → (is_number_in l.txn-iterator number && is_committed_by l.last (commit_in (notes_at l.notes.entries number))) ≡ is_committed_by l.last (commit_in (notes_at l.notes.entries number))
