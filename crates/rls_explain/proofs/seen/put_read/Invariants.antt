use Rattle.std.proofs.Common.{◌≡◌, ◌++◌, drop}
use Rattle.rls_meaning.specs.rls_guard.specs.rls_evaluation.specs.Showing.{shows}
use Rattle.rls_explain.specs.FoundOutcomes.{seen_by}
use Rattle.rls_explain.proofs.seen.put_read.Given as goal

-- what is told so far, and of the rows that are left, is all
abbrev pub invariant-loop-stored : goal.invariant-loop-stored
invariant-loop-stored l =
    let found = seen_by l.catalog (shows l.context.relations.now l.context.role.now) l.context.role.now l.context.row_checks.now l.read l.name in
    l.outcomes.items ++ found (drop l.stored-index l.rows) ≡ l.fn.outcomes.items ++ found l.rows
