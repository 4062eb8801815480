use Rattle.std.proofs.Common.{drop, map}
use Rattle.rls_evaluation.specs.rls_catalog.specs.rls_expr.specs.Naming.{step_of}
use Rattle.rls_evaluation.specs.rls_source.specs.Answering.{Leads}
use Rattle.rls_guard.specs.Naming.{named}
use Rattle.rls_guard.proofs.naming.look_for.Given as goal

abbrev pub invariant-loop-step : goal.invariant-loop-step
invariant-loop-step l = Leads (named (map step_of l.steps) l.fn.tables.items l.fn.found) (named (map step_of (drop l.step-index l.steps)) l.tables.items l.found) l.fn.asker l.asker
