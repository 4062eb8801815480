use Rattle.std.proofs.Common.{◌≡◌, ◌++◌, drop}
use Rattle.std.specs.List.{flat_map}
use Rattle.rls_hints.specs.Walking.{behind_one}
use Rattle.rls_hints.proofs.walking.behind_ready.Given as goal

-- those so far, and those of what is left, are all
abbrev pub invariant-loop-stack : goal.invariant-loop-stack
invariant-loop-stack l = l.behind.items ++ flat_map (behind_one l.token) (drop l.stack-index l.ready) ≡ flat_map (behind_one l.token) l.ready
