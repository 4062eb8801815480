use Rattle.std.proofs.Common.{◌≡◌, ◌++◌, drop}
use Rattle.rls_meaning.specs.rls_guard.specs.rls_evaluation.specs.Showing.{shows}
use Rattle.rls_explain.specs.Found.{rows_found}
use Rattle.rls_explain.proofs.judging.put_rows.Given as goal

-- what is explained so far, and what of the rows that are left, is all
abbrev pub invariant-loop-stored : goal.invariant-loop-stored
invariant-loop-stored l =
    let found = rows_found l.catalog (shows l.context.relations.now l.context.role.now) l.context.role.now l.context.row_checks.now l.wanted in
    l.explained.items ++ found (drop l.stored-index l.rows) ≡ l.fn.explained.items ++ found l.rows
