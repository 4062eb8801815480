use Rattle.std.proofs.Common.{◌≡◌}
use Rattle.large_stack.proofs.starting.start.Given as goal

-- the closure comes back as it was
abbrev pub invariant-loop-stack : goal.invariant-loop-stack
invariant-loop-stack g l = l.f ≡ l.fn.f
