use Rattle.std.proofs.Common.{◌≡◌, ◌++◌, drop, map}
use Rattle.rls_guard.specs.rls_catalog.specs.rls_expr.specs.Naming.{step_of}
use Rattle.rls_expansion.specs.Used as spec
use Rattle.rls_expansion.proofs.used.put_entered.Given as goal

-- the tables so far, and those of the steps that are left, are all
abbrev pub invariant-loop-step : goal.invariant-loop-step
invariant-loop-step l = l.tables ++ spec.entered (map step_of (drop l.step-index l.steps)) ≡ l.fn.tables ++ spec.entered (map step_of l.steps)
