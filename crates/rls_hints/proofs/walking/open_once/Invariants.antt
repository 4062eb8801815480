use Rattle.std.proofs.Common.{◌≡◌, ◌++◌, drop}
use Rattle.std.specs.List.{flat_map}
use Rattle.rls_hints.specs.Walking.{coming_of, opened_one}
use Rattle.rls_hints.proofs.walking.open_once.Given as goal

-- those so far, and those of what is left, are all
abbrev pub invariant-loop-stack : goal.invariant-loop-stack
invariant-loop-stack l = l.opened.items ++ flat_map (opened_one (coming_of l.next)) (drop l.stack-index l.stacks) ≡ flat_map (opened_one (coming_of l.next)) l.stacks
