use Rattle.std.proofs.Common.{◌≡◌, ap, ◌∙◌, subst, IfOk}
use Rattle.std.specs.Prelude.{ℕ, List, [], ◌∷◌, false, option_map}
use Rattle.rls_value.specs.declared.verb.Kind.TheVariants as k
use Rattle.rls_judging.specs.ScannedRows.{pinned_key}
use Rattle.rls_meaning.specs.{Resolving.resolved, Showing.rows_at_key}
use Rattle.rls_meaning.specs.rls_expansion.specs.Used.{tables_if}
use Rattle.rls_explain.specs.declared.outcome.RowOutcome.{RowOutcome}
use Rattle.rls_explain.specs.Found.{expansion_found}
use Rattle.rls_explain.specs.FoundOutcomes.{scan_told}
use Rattle.rls_explain.proofs.scan_outcomes.selected_outcomes.Goals as goal

-- by the law
pub returns : goal.returns
returns c =
    let s = c.args.catalog.now in
    let role = c.args.ctx.now.role in
    let condition = c.in_ok-condition.condition in
    let name = c.args.select.now.table in
    subst (λ (all : List RowOutcome). IfOk c.scan_outcomes-rows.result (λ rows. rows ≡ all))
    ((λ i. scan_told s role name condition (c.listed_as-met.ensures i) c.args.read.now (tables_if condition) (rows_at_key s name (pinned_key role c.args.table.now.key condition)) (expansion_found s role (name, c.args.table.now) k.Select false (tables_if condition)))
    ∙ c.outcomes_found.ensures.select s c.args.ctx.now c.args.select.now c.args.id c.args.table.now condition c.args.done c.args.read.now c.requires.there c.requires.decides
    (c.in_ok-condition.ensures ∙ ap (λ (qualifier : List ℕ). option_map (resolved s ((qualifier, c.args.table.now) ∷ [])) c.args.select.now.condition) c.qualifier_of.ensures))
    c.scan_outcomes-rows.ensures
