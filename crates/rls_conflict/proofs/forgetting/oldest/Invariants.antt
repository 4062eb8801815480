use Rattle.std.proofs.Common.{◌≡◌}
use Rattle.std.specs.Map.{values_of}
use Rattle.rls_conflict.specs.Begun.{least_snap}
use Rattle.rls_conflict.proofs.forgetting.oldest.Given as goal

-- those that are left lead to the least of all
abbrev pub invariant-loop-it : goal.invariant-loop-it
invariant-loop-it l = least_snap l.least l.it-iterator ≡ least_snap l.commits (values_of l.running.entries)
