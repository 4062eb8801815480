use Rattle.std.proofs.Common.{◌≡◌, ◌∙◌, subst, IfOk}
use Rattle.std.specs.Prelude.{List}
use Rattle.rls_value.specs.declared.verb.Kind.TheVariants as k
use Rattle.rls_meaning.specs.rls_dml.specs.Inserting.{tuples_tables}
use Rattle.rls_explain.specs.declared.outcome.RowOutcome.{RowOutcome}
use Rattle.rls_explain.specs.Found.{expansion_found}
use Rattle.rls_explain.specs.FoundOutcomes.{insert_told}
use Rattle.rls_explain.proofs.insert_outcomes.inserted_outcomes.Goals as goal

-- by the law
pub returns : goal.returns
returns c =
    let ctx = c.args.ctx.now in
    let table = c.args.table.now in
    let name = c.args.insert.now.table in
    let parts = c.in_ok-parts.parts in
    subst (λ (all : List RowOutcome). IfOk c.outcomes_by-rows.result (λ rows. rows ≡ all))
    ((λ i. insert_told c.args.catalog.now ctx.role name ctx.txn ctx.next table.columns parts.places.items (c.is_some-returning.ensures i) c.args.done c.args.read.now (tuples_tables parts.tuples) parts.tuples
    (expansion_found c.args.catalog.now ctx.role (name, table) k.Insert c.args.reads (tuples_tables parts.tuples)))
    ∙ c.outcomes_found.ensures.insert c.args.catalog.now ctx c.args.insert.now c.args.id table parts.places.items parts.tuples c.args.reads c.args.done c.args.read.now c.requires.there c.requires.decides c.requires.reads
    c.in_ok-parts.ensures.places c.in_ok-parts.ensures.tuples)
    c.outcomes_by-rows.ensures
