use Rattle.std.proofs.Common.{◌≡◌, ℕ, length}
use Rattle.std.specs.Prelude.{◌||◌, ◌&&◌, nat_lt, slice_get}
use Rattle.rls_conflict.specs.Commits.{is_place_in}
use Rattle.rls_conflict.specs.Ordering.{is_listed, readers_in, read_in}
use Rattle.rls_conflict.proofs.ordering.readers_of_all.Given as goal

-- the earlier readers of each stand in its list, and those later ones that came so far
abbrev pub invariant-loop-place : goal.invariant-loop-place
invariant-loop-place l = record {
  size : length l.lists.items ≡ length l.committed;
  listed : (place reader : ℕ)
      → is_listed l.lists.items place reader ≡ (is_place_in (readers_in (slice_get l.committed place)) reader || (nat_lt reader l.place && is_place_in (read_in (slice_get l.committed reader)) place));
}
