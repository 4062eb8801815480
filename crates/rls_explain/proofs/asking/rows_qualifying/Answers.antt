use Rattle.std.proofs.Common.{ap, ◌∙◌}
use Rattle.rls_explain.specs.Found.{qualifying_found}
use Rattle.rls_explain.proofs.AskingLemmas.{qualifying_given}
use Rattle.rls_explain.proofs.asking.rows_qualifying.Goals as goal

-- they are those that were told, in the state that the asker was made of
pub returns : goal.returns
returns c =
    qualifying_given c.new-asker.result.state c.args.expansion.now c.args.role.now c.old_rows.result.role.now c.old_rows.result.row_checks.now c.old_rows.result.relations.now c.args.condition.now c.args.scanned.now
    c.qualifying_rows_of-judged.result c.in_ok-decisions.decisions c.in_ok-decisions.rows c.old_rows.ensures.checks c.old_rows.ensures.relations c.old_rows.ensures.role c.in_ok-decisions.was c.qualifying_rows_of-judged.ensures.given
    ∙ ap (λ s. qualifying_found s c.args.expansion.now c.args.role.now c.args.condition.now c.args.scanned.now) (ap (λ asked. asked.state) c.new-asker.ensures)
