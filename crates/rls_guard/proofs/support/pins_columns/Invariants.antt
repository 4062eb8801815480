use Rattle.std.proofs.Common.{◌≡◌, drop, is_some}
use Rattle.rls_evaluation.specs.Keys.{pinned}
use Rattle.rls_guard.specs.Support.{nowhere}
use Rattle.rls_guard.proofs.support.pins_columns.Given as goal

-- the columns passed are pinned: what is left decides
abbrev pub invariant-loop-column : goal.invariant-loop-column
invariant-loop-column l = is_some (pinned (drop l.column-index l.columns) l.condition nowhere) ≡ is_some (pinned l.columns l.condition nowhere)
