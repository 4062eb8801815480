use Rattle.std.proofs.Common.{◌≡◌, length, false}
use Rattle.std.specs.List.{All}
use Rattle.rls_check.proofs.ordering.Placing.new.Given as goal

-- none of those so far is placed
abbrev pub invariant-loop-i : goal.invariant-loop-i
invariant-loop-i l = record {
  size : length l.placed.items ≡ l.i;
  none : All (λ placed. placed ≡ false) l.placed.items;
}
