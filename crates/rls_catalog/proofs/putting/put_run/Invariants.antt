use Rattle.std.proofs.Common.{◌≡◌, ◌≤◌, length}
use Rattle.rls_catalog.specs.Changed.{changed_all, with_rows}
use Rattle.rls_catalog.specs.State.{State}
use Rattle.rls_catalog.proofs.putting.put_run.Given as goal

-- the changes that are left lead to what all lead to
abbrev pub invariant-loop-change : goal.invariant-loop-change
invariant-loop-change l =
    ((s : State) → changed_all (with_rows l.table l.rows s) l.changes ≡ changed_all (with_rows l.table l.initial.rows s) l.initial.changes)
    × (length l.changes ≤ length l.initial.changes)

abbrev pub decreases-loop-change : goal.decreases-loop-change
decreases-loop-change l = length l.changes
