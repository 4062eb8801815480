use Rattle.std.proofs.Common.{◌≡◌, ◌∙◌, subst, IfOk}
use Rattle.std.specs.Prelude.{List, ◌++◌}
use Rattle.rls_value.specs.declared.verb.Kind.TheVariants as k
use Rattle.rls_judging.specs.ScannedRows.{pinned_key}
use Rattle.rls_meaning.specs.Showing.{rows_at_key}
use Rattle.rls_meaning.specs.rls_expansion.specs.Used.{all_tables, tables_if}
use Rattle.rls_explain.specs.declared.outcome.RowOutcome.{RowOutcome}
use Rattle.rls_explain.specs.Found.{expansion_found}
use Rattle.rls_explain.specs.FoundOutcomes.{updated_told}
use Rattle.rls_explain.proofs.update_outcomes.updated_outcomes.Goals as goal

-- by the law
pub returns : goal.returns
returns c =
    let role = c.args.ctx.now.role in
    let table = c.args.table.now in
    let name = c.args.update.now.table in
    let parts = c.in_ok-parts.parts in
    subst (λ (all : List RowOutcome). IfOk c.outcomes_by-rows.result (λ rows. rows ≡ all))
    ((λ i. updated_told c.args.catalog.now role name table.columns parts.places.items parts.values parts.condition (c.is_some-returning.ensures i) c.args.done c.args.read.now (all_tables parts.values ++ tables_if parts.condition)
    (rows_at_key c.args.catalog.now name (pinned_key role table.key parts.condition)) (expansion_found c.args.catalog.now role (name, table) k.Update c.args.reads (all_tables parts.values ++ tables_if parts.condition)))
    ∙ c.outcomes_found.ensures.update c.args.catalog.now c.args.ctx.now c.args.update.now c.args.id table parts.places.items parts.values parts.condition c.args.reads c.args.done c.args.read.now c.requires.there c.requires.decides c.requires.reads
    c.in_ok-parts.ensures.places c.in_ok-parts.ensures.values c.in_ok-parts.ensures.condition)
    c.outcomes_by-rows.ensures
