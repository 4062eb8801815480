use Rattle.std.proofs.Common.{◌≡◌, ◌∙◌, subst, IfOk}
use Rattle.std.specs.Prelude.{List}
use Rattle.rls_value.specs.declared.verb.Kind.TheVariants as k
use Rattle.rls_judging.specs.ScannedRows.{pinned_key}
use Rattle.rls_meaning.specs.Showing.{rows_at_key}
use Rattle.rls_meaning.specs.rls_expansion.specs.Used.{tables_if}
use Rattle.rls_explain.specs.declared.outcome.RowOutcome.{RowOutcome}
use Rattle.rls_explain.specs.declared.outcome.RowWord.TheVariants as w
use Rattle.rls_explain.specs.Found.{expansion_found}
use Rattle.rls_explain.specs.FoundOutcomes.{scan_told}
use Rattle.rls_explain.proofs.scan_outcomes.deleted_outcomes.Goals as goal

-- by the law
pub returns : goal.returns
returns c =
    let role = c.args.ctx.now.role in
    let condition = c.in_ok-condition.condition in
    let name = c.args.delete.now.table in
    subst (λ (all : List RowOutcome). IfOk c.scan_outcomes-rows.result (λ rows. rows ≡ all))
    ((λ i. scan_told c.args.catalog.now role name condition (record { word = w.Deleted; returning = c.is_some-returning.ensures i }) c.args.read.now (tables_if condition)
    (rows_at_key c.args.catalog.now name (pinned_key role c.args.table.now.key condition)) (expansion_found c.args.catalog.now role (name, c.args.table.now) k.Delete c.args.reads (tables_if condition)))
    ∙ c.outcomes_found.ensures.delete c.args.catalog.now c.args.ctx.now c.args.delete.now c.args.id c.args.table.now condition c.args.reads c.args.done c.args.read.now c.requires.there c.requires.decides c.requires.reads c.in_ok-condition.ensures)
    c.scan_outcomes-rows.ensures
