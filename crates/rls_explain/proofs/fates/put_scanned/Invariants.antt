use Rattle.std.proofs.Common.{◌≡◌, ◌++◌, drop}
use Rattle.rls_meaning.specs.rls_guard.specs.rls_evaluation.specs.Showing.{shows}
use Rattle.rls_explain.specs.FoundOutcomes.{scanned_found}
use Rattle.rls_explain.specs.Outcomes.{met_as}
use Rattle.rls_explain.proofs.fates.put_scanned.Given as goal

-- what is told so far, and of the rows that are left, is all
abbrev pub invariant-loop-stored : goal.invariant-loop-stored
invariant-loop-stored l =
    let found = scanned_found l.catalog (shows l.context.relations.now l.context.role.now) l.context.role.now l.context.row_checks.now l.table l.condition (met_as l.table l.met) in
    l.outcomes.items ++ found (drop l.stored-index l.rows) ≡ l.fn.outcomes.items ++ found l.rows
