use Rattle.std.proofs.Common.{◌≡◌, ap, sym, ◌∙◌, subst, IfOk}
use Rattle.std.specs.Prelude.{List, Bool}
use Rattle.rls_judging.specs.ScannedRows.{pinned_key}
use Rattle.rls_meaning.specs.Showing.{rows_at_key}
use Rattle.rls_explain.specs.declared.outcome.RowOutcome.{RowOutcome}
use Rattle.rls_explain.specs.FoundOutcomes.{ended_told, update_told}
use Rattle.rls_explain.proofs.update_outcomes.ended_outcomes.Goals as goal

-- in the state
pub returns-then-ended : goal.returns-then-ended
returns-then-ended c =
    let s = c.args.catalog.now in
    let role = c.args.role.now in
    let name = c.args.from.name.now in
    let table = c.args.from.table.now in
    let parts = c.args.parts.now in
    let returning = c.args.ended.returning in
    let scanned = c.as_slice.ensures ∙ c.in_ok-rows.ensures in
    subst (λ (all : List RowOutcome). IfOk c.done_outcomes.result (λ rows. rows ≡ all))
    ((λ i. update_told c.args.catalog.now role name table.columns parts.places.items parts.values parts.condition returning (scanned i) c.args.expansion.now)
    ∙ ap (λ (done : Bool). ended_told s role name table.columns parts.places.items parts.values parts.condition returning done (rows_at_key s name (pinned_key role table.key parts.condition)) c.args.expansion.now) (sym c.if-ended.true))
    c.done_outcomes.ensures
