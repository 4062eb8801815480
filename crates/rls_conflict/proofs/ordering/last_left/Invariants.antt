use Rattle.std.proofs.Common.{◌≡◌, ℕ, true, false, length}
use Rattle.rls_conflict.specs.Ordering.{placed_in}
use Rattle.rls_conflict.specs.Commits.{is_place_in}
use Rattle.rls_conflict.proofs.ordering.last_left.Given as goal

-- only placed ones are dropped
abbrev pub invariant-loop-reader : goal.invariant-loop-reader
invariant-loop-reader l = record {
  only : (reader : ℕ) → is_place_in l.readers.items reader ≡ true → is_place_in l.fn.readers.items reader ≡ true;
  left : (reader : ℕ) → is_place_in l.fn.readers.items reader ≡ true → placed_in l.placed reader ≡ false → is_place_in l.readers.items reader ≡ true;
}

abbrev pub decreases-loop-reader : goal.decreases-loop-reader
decreases-loop-reader l = length l.readers.items
