use Rattle.std.proofs.Common.{◌≡◌, ℕ, length}
use Rattle.rls_conflict.specs.Ordering.{is_listed}
use Rattle.rls_conflict.proofs.ordering.put_least_last.Given as goal

-- the same stand in the lists
abbrev pub invariant-loop-place : goal.invariant-loop-place
invariant-loop-place l = record {
  size : length l.lists.items ≡ length l.fn.lists.items;
  same : (place reader : ℕ) → is_listed l.lists.items place reader ≡ is_listed l.fn.lists.items place reader;
}
