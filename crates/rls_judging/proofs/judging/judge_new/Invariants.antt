use Rattle.std.proofs.Common.{◌≡◌, ◌++◌, drop}
use Rattle.std.specs.Prelude.{List}
use Rattle.rls_evaluation.specs.CachedVerdicts.{AreVerdicts}
use Rattle.rls_evaluation.specs.Holding.{Holds}
use Rattle.rls_evaluation.proofs.Telling.{Leads}
use Rattle.rls_guard.specs.declared.reply.Decision.{Decision}
use Rattle.rls_judging.specs.Alike.{first_quals}
use Rattle.rls_judging.specs.Judging.{judged_new}
use Rattle.rls_judging.proofs.judging.judge_new.Given as goal

-- the decisions so far, and those that are left to make, lead to the whole; what was shown and said is kept
abbrev pub invariant-loop-stored : goal.invariant-loop-stored
invariant-loop-stored g l =
    let now = g.T.Tables.state l.fn.tables in
    record {
      stands : g.T.Tables.state l.tables ≡ now;
      leads : Leads (judged_new l.check_context.row_checks.now l.check_context.relations.now l.check_context.role.now l.rows) (judged_new l.check_context.row_checks.now l.check_context.relations.now l.check_context.role.now (drop l.stored-index l.rows))
          (λ (rest : List Decision). l.decisions.items ++ rest) now l.fn.execution.read_set l.execution.read_set;
      kept : AreVerdicts (first_quals l.check_context.row_checks.now) l.check_context.relations.now l.check_context.role.now (g.T.Tables.state l.tables) l.execution.read_set l.verdicts;
      holds : Holds l.check_context.relations.now l.check_context.role.now (g.T.Tables.state l.tables) l.execution;
    }
