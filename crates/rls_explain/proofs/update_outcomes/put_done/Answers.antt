use Rattle.std.proofs.Common.{arith, ◌≡◌, ◌+◌, ◌∷◌, drop}
use Rattle.std.proofs.lemmas.Grind.{common_steps}
use Rattle.rls_meaning.specs.rls_guard.specs.rls_catalog.specs.declared.stored.Stored.{Stored}
use Rattle.rls_meaning.specs.rls_guard.specs.rls_evaluation.specs.{Eval.Shows, Showing.shows}
use Rattle.rls_explain.specs.{FoundOutcomes.changed_by, FoundOutcomes.fate_found, FoundOutcomes.version_found, Outcomes.scanned_as}
use Rattle.rls_explain.proofs.Lists.{put_on}
use Rattle.rls_explain.proofs.update_outcomes.put_done.Goals as goal

-- one row more is told of
pub loop-stored-preserved : goal.loop-stored-preserved
loop-stored-preserved c =
    let s = c.args.catalog.now in
    let context = c.args.context in
    let role = context.role.now in
    let sees : Shows = shows context.relations.now role in
    let name = c.args.from.name.now in
    let columns = c.args.from.table.now.columns in
    let parts = c.args.parts.now in
    let left : drop c.loop-stored.stored-index c.args.rows.now ≡ c.stored-item.result ∷ drop (c.loop-stored.stored-index + 1) c.args.rows.now = grind (arith, common_steps) in
    put_on
    (λ (stored : Stored).
    scanned_as name (fate_found s sees role context.row_checks.now parts.condition stored) stored (changed_by name c.args.returning stored (version_found s sees role columns parts.places.items parts.values stored)))
    c.stored-item.result (drop c.loop-stored.stored-index c.args.rows.now) (drop (c.loop-stored.stored-index + 1) c.args.rows.now) _ _ _ left c.in_ok-put_updated.ensures c.loop-stored.invariant
