use Rattle.std.proofs.Common.{◌≡◌, ◌++◌, drop}
use Rattle.std.specs.Prelude.{filter}
use Rattle.rls_meaning.specs.rls_guard.specs.rls_evaluation.specs.Showing.{shows}
use Rattle.rls_judging.specs.Handed.{rows_borrowed}
use Rattle.rls_explain.specs.Found.{is_allowed}
use Rattle.rls_explain.proofs.seeing.rows_allowed.Given as goal

-- those that are allowed so far, and those that are left to ask for, are all
abbrev pub invariant-loop-stored : goal.invariant-loop-stored
invariant-loop-stored l =
    let test = is_allowed l.catalog (shows l.context.relations.now l.context.role.now) l.context.role.now l.context.row_checks.now in
    rows_borrowed l.allowed ++ filter test (drop l.stored-index l.rows) ≡ filter test l.rows
