use Rattle.std.proofs.Common.{take}
use Rattle.rls_audit.specs.ShownParts.{Adds}
use Rattle.rls_audit.proofs.showing.push_changes.Given as goal

-- those so far show the first changes besides
abbrev pub invariant-loop-change : goal.invariant-loop-change
invariant-loop-change l = Adds l.initial.all l.all (take l.change-index l.changes)
