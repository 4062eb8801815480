use Rattle.std.proofs.Common.{◌≡◌, ◌++◌, ◌-◌}
use Rattle.std.specs.List.{range_with_len}
use Rattle.rls_check.proofs.neighbours.numbers_between.Given as goal

-- what is made, with what is made of those that are left, is the whole
abbrev pub invariant-loop-number : goal.invariant-loop-number
invariant-loop-number l = l.numbers ++ range_with_len l.number (l.to - l.number) ≡ range_with_len l.from (l.to - l.from)
