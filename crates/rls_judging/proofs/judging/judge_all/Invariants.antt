use Rattle.std.proofs.Common.{◌≡◌, ◌++◌, drop}
use Rattle.std.specs.Prelude.{List}
use Rattle.rls_evaluation.specs.CachedVerdicts.{AreVerdicts}
use Rattle.rls_evaluation.specs.Holding.{Holds}
use Rattle.rls_evaluation.proofs.Telling.{Leads}
use Rattle.rls_guard.specs.rls_catalog.specs.declared.stored.Stored.{Stored}
use Rattle.rls_guard.specs.declared.reply.Decision.{Decision}
use Rattle.rls_judging.specs.Alike.{first_quals}
use Rattle.rls_judging.specs.Judging.{judged_all}
use Rattle.rls_judging.specs.Handed.{rows_borrowed}
use Rattle.rls_judging.proofs.judging.judge_all.Given as goal

-- what was found, and what is left to judge, lead to the whole; what was shown and said is kept
abbrev pub invariant-loop-stored : goal.invariant-loop-stored
invariant-loop-stored g l =
    let now = g.T.Tables.state l.fn.tables in
    record {
      stands : g.T.Tables.state l.tables ≡ now;
      leads : Leads (judged_all l.check_context.row_checks.now l.check_context.relations.now l.check_context.role.now l.condition l.scanned_rows) (judged_all l.check_context.row_checks.now l.check_context.relations.now l.check_context.role.now l.condition (drop l.stored-index l.scanned_rows))
          (λ (rest : List Decision × List Stored). (l.decisions.items ++ rest.0, rows_borrowed l.qualifying_rows ++ rest.1)) now l.fn.execution.read_set l.execution.read_set;
      kept : AreVerdicts (first_quals l.check_context.row_checks.now) l.check_context.relations.now l.check_context.role.now (g.T.Tables.state l.tables) l.execution.read_set l.verdicts;
      holds : Holds l.check_context.relations.now l.check_context.role.now (g.T.Tables.state l.tables) l.execution;
    }
