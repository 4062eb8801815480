use Rattle.std.proofs.Common.{◌≡◌, ◌++◌}
use Rattle.rls_role.specs.Holdings.{held_under}
use Rattle.rls_role.proofs.holding.Holdings.into_items.Given as goal

-- what is left leads to the whole
abbrev pub invariant-loop-member : goal.invariant-loop-member
invariant-loop-member l = l.items ++ held_under l.member-iterator ≡ l.fn.self
