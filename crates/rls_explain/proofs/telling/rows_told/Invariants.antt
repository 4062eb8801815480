use Rattle.std.proofs.Common.{◌≡◌, ◌++◌, drop, map}
use Rattle.rls_expr.specs.Terms.{maybe_term}
use Rattle.rls_meaning.specs.rls_guard.specs.rls_evaluation.specs.Environments.{over}
use Rattle.rls_explain.specs.{Details.seen_row, Found.sight_found}
use Rattle.rls_explain.proofs.telling.rows_told.Given as goal

-- those that are told so far, and those that are left, are all
abbrev pub invariant-loop-stored : goal.invariant-loop-stored
invariant-loop-stored l =
    let tells = seen_row (sight_found l.catalog l.judged.relations.now l.judged.role.now) (over l.judged.role.now l.judged.row.now) (maybe_term l.condition) in
    l.told.items ++ map tells (map (λ row. row.now) (drop l.stored-index l.rows)) ≡ map tells (map (λ row. row.now) l.rows)
