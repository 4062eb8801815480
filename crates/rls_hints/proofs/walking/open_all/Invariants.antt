use Rattle.std.proofs.Common.{◌≡◌, ◌-◌}
use Rattle.rls_hints.specs.Walking.{coming_of, opened, ready_of}
use Rattle.rls_hints.proofs.walking.open_all.Given as goal

-- what is opened as often as is left is all
abbrev pub invariant-loop-turn : goal.invariant-loop-turn
invariant-loop-turn l = ready_of (coming_of l.next) l.stacks ≡ opened (16 - l._turn) (coming_of l.next) l.ready.items
