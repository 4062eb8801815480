use Rattle.std.proofs.Common.{◌≡◌, ◌++◌, drop, map}
use Rattle.rls_meaning.specs.rls_guard.specs.rls_evaluation.specs.Showing.{shows}
use Rattle.rls_explain.specs.Found.{explained_check}
use Rattle.rls_explain.proofs.judging.put_row.Given as goal

-- what is explained so far, and by the checks that are left, is all
abbrev pub invariant-loop-row_check : goal.invariant-loop-row_check
invariant-loop-row_check l =
    let explains = explained_check l.catalog (shows l.context.relations.now l.context.role.now) l.context.role.now l.id l.row in
    l.explained.items ++ map explains (drop l.row_check-index l.context.row_checks.now) ≡ l.fn.explained.items ++ map explains l.context.row_checks.now
