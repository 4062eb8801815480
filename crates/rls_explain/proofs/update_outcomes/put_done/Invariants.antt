use Rattle.std.proofs.Common.{◌≡◌, ◌++◌, drop}
use Rattle.rls_meaning.specs.rls_guard.specs.rls_evaluation.specs.Showing.{shows}
use Rattle.rls_explain.specs.FoundOutcomes.{changed_by, scanned_found, version_found}
use Rattle.rls_explain.proofs.update_outcomes.put_done.Given as goal

-- what is told so far, and of the rows that are left, is all
abbrev pub invariant-loop-stored : goal.invariant-loop-stored
invariant-loop-stored l =
    let s = l.catalog in
    let role = l.context.role.now in
    let sees = shows l.context.relations.now role in
    let found = scanned_found s sees role l.context.row_checks.now l.from.name.now l.parts.condition (λ stored. changed_by l.from.name.now l.returning stored (version_found s sees role l.from.table.now.columns l.parts.places.items l.parts.values stored)) in
    l.outcomes.items ++ found (drop l.stored-index l.rows) ≡ l.fn.outcomes.items ++ found l.rows
