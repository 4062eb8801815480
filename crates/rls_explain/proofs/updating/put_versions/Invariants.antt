use Rattle.std.proofs.Common.{◌≡◌, ◌++◌, drop, map}
use Rattle.rls_meaning.specs.rls_guard.specs.rls_evaluation.specs.Showing.{shows}
use Rattle.rls_explain.specs.Found.{versions_found}
use Rattle.rls_explain.proofs.updating.put_versions.Given as goal

-- what is explained so far, and what of the rows that are left, is all
abbrev pub invariant-loop-stored : goal.invariant-loop-stored
invariant-loop-stored l =
    let found = versions_found l.catalog (shows l.context.relations.now l.context.role.now) l.context.role.now l.context.row_checks.now l.columns l.parts.places.items l.parts.values l.wanted in
    l.explained.items ++ found (map (λ row. row.now) (drop l.stored-index l.rows)) ≡ l.fn.explained.items ++ found (map (λ row. row.now) l.rows)
