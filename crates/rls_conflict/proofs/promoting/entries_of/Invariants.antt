use Rattle.std.proofs.Common.{◌≡◌, ◌≤◌, take}
use Rattle.std.specs.Prelude.{map}
use Rattle.std.specs.Vec.{vec_capacity}
use Rattle.rls_conflict.specs.Kept.{all_committed}
use Rattle.rls_conflict.specs.Promoted.{covered_in, AreEntriesOf}
use Rattle.rls_conflict.proofs.promoting.entries_of.Given as goal

-- the first are there
abbrev pub invariant-loop-place : goal.invariant-loop-place
invariant-loop-place l = record {
  transactions : all_committed l.entries.items ≡ take l.place l.transactions;
  covered : map covered_in l.entries.items ≡ map covered_in (take l.place l.committed);
  entries : AreEntriesOf l.transactions l.entries.items;
  room : l.room ≤ vec_capacity l.entries;
}
