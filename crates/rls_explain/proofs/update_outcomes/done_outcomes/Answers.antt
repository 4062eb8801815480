use Rattle.std.proofs.Common.{◌≡◌, ◌++◌, ◌∙◌}
use Rattle.rls_meaning.specs.rls_guard.specs.rls_catalog.specs.declared.stored.Stored.{Stored}
use Rattle.rls_meaning.specs.rls_guard.specs.rls_evaluation.specs.Showing.{shows}
use Rattle.rls_explain.specs.FoundOutcomes.{changed_by, scanned_found, version_found}
use Rattle.rls_explain.proofs.update_outcomes.done_outcomes.Goals as goal

-- under the checks of the old rows
pub returns : goal.returns
returns c =
    let s = c.args.catalog.now in
    let name = c.args.from.name.now in
    let columns = c.args.from.table.now.columns in
    let parts = c.args.parts.now in
    let under = c.old_rows.ensures in
    c.from_vec.ensures ∙ c.in_ok-put_done.ensures
    ∙ (λ i. c.new-outcomes.ensures.items i ++ scanned_found s (shows (under.relations i) (under.role i)) (under.role i) (under.checks i) name parts.condition
    (λ (stored : Stored). changed_by name c.args.returning stored (version_found s (shows (under.relations i) (under.role i)) (under.role i) columns parts.places.items parts.values stored)) c.args.rows.now)
