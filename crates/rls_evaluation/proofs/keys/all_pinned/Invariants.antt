use Rattle.std.proofs.Common.{◌≡◌, drop}
use Rattle.rls_evaluation.specs.Keys.{pinned}
use Rattle.rls_evaluation.specs.Scoping.{env_of}
use Rattle.rls_evaluation.proofs.KeyLemmas.{behind}
use Rattle.rls_evaluation.proofs.keys.all_pinned.Given as goal

-- the values so far, with those of the columns that are left behind them, are those of all
abbrev pub invariant-loop-column : goal.invariant-loop-column
invariant-loop-column l = behind l.values.items (pinned (drop l.column-index l.columns) l.condition (env_of l.env)) ≡ pinned l.columns l.condition (env_of l.env)
