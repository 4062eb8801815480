use Rattle.std.proofs.Common.{◌≡◌, ℕ, length, take}
use Rattle.std.specs.Prelude.{◌||◌, ◌&&◌, nat_eq}
use Rattle.rls_conflict.specs.Commits.{is_place_in}
use Rattle.rls_conflict.specs.Ordering.{is_listed}
use Rattle.rls_conflict.proofs.ordering.add_reader.Given as goal

-- the reader stands in the lists of those so far
abbrev pub invariant-loop-place : goal.invariant-loop-place
invariant-loop-place l = record {
  size : length l.lists.items ≡ length l.fn.lists.items;
  listed : (place other : ℕ) → is_listed l.lists.items place other ≡ (is_listed l.fn.lists.items place other || (nat_eq other l.reader && is_place_in (take l.place-index l.read) place));
}
