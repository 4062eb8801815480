use Rattle.std.proofs.Common.{◌≡◌, ℕ, length, take}
use Rattle.std.specs.Prelude.{slice_get}
use Rattle.rls_conflict.specs.Ordering.{list_at, readers_in}
use Rattle.rls_conflict.proofs.ordering.earlier_readers.Given as goal

-- those so far have their lists
abbrev pub invariant-loop-it : goal.invariant-loop-it
invariant-loop-it l = record {
  size : length l.lists.items ≡ l.it-index;
  lists : (place : ℕ) → list_at l.lists.items place ≡ readers_in (slice_get (take l.it-index l.committed) place);
}
