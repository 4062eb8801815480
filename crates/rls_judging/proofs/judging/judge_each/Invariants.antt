use Rattle.std.proofs.Common.{◌≡◌, ◌++◌, ◌&&◌, drop}
use Rattle.rls_evaluation.specs.rls_source.specs.Askings.{followed_by, known}
use Rattle.std.specs.Prelude.{Ok, List}
use Rattle.rls_evaluation.specs.Holding.{Holds}
use Rattle.rls_evaluation.specs.Showing.{shows}
use Rattle.rls_evaluation.proofs.Telling.{Leads}
use Rattle.rls_guard.specs.declared.reply.Decision.{Decision}
use Rattle.rls_judging.specs.Judging.{decisions_on, are_allowed}
use Rattle.rls_judging.specs.Handed.{allowing}
use Rattle.rls_judging.proofs.judging.judge_each.Given as goal

-- what was said, and what is left to ask, lead to the whole; what was shown is kept
abbrev pub invariant-loop-row_check : goal.invariant-loop-row_check
invariant-loop-row_check g l =
    let sees = shows l.check_context.relations.now l.check_context.role.now in
    let now = g.T.Tables.state l.fn.tables in
    record {
      stands : g.T.Tables.state l.tables ≡ now;
      leads : Leads (followed_by (decisions_on l.check_context.row_checks.now sees l.check_context.role.now l.id l.row) (λ said. known (Ok (allowing l.fn.decisions.items said))))
          (decisions_on (drop l.row_check-index l.check_context.row_checks.now) sees l.check_context.role.now l.id l.row) (λ (rest : List Decision). (l.decisions.items ++ rest, l.allowed && are_allowed rest)) now l.fn.execution.read_set l.execution.read_set;
      holds : Holds l.check_context.relations.now l.check_context.role.now (g.T.Tables.state l.tables) l.execution;
    }
