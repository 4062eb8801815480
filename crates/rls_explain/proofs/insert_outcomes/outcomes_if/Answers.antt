use Rattle.std.proofs.Common.{◌≡◌, ap, sym, ◌∙◌, subst, IfOk}
use Rattle.std.specs.Prelude.{List, ◌++◌, Option}
use Rattle.rls_meaning.specs.rls_guard.specs.rls_evaluation.specs.Showing.{shows}
use Rattle.rls_meaning.specs.rls_expansion.specs.declared.expansion.PolicyExpansion.{PolicyExpansion}
use Rattle.rls_explain.specs.declared.outcome.RowOutcome.{RowOutcome}
use Rattle.rls_explain.specs.FoundOutcomes.{insert_told, names_listed, seen_found, tells_new, tuple_written, tuples_told}
use Rattle.rls_explain.proofs.insert_outcomes.outcomes_if.Goals as goal

-- the rows as they are told by what new rows are judged by, and those that could be seen
pub returns-in_ok-outcomes-in-Some : goal.returns-in_ok-outcomes-in-Some
returns-in_ok-outcomes-in-Some c =
    let s = c.args.catalog.now in
    let ctx = c.args.ctx.now in
    let name = c.args.from.name.now in
    let columns = c.args.from.table.now.columns in
    let parts = c.args.parts.now in
    let ended = c.args.ended in
    let looks = c.args.looks in
    let context = c.new_rows-context.ensures in
    subst (λ (all : List RowOutcome). IfOk c.with_seen.result (λ rows. rows ≡ all))
    ((λ i. (c.in_ok-outcomes-in-Some.ensures
    ∙ (λ j. tuples_told (tells_new s (shows (context.relations j) (context.role j)) (context.role j) (context.checks j) name ended.returning ended.done) (tuple_written s (shows (context.relations j) (context.role j)) (context.role j) columns parts.places.items) ctx.txn ctx.next parts.tuples)) i
    ++ seen_found s ctx.role looks.read.now (names_listed c.in-Some.expansion looks.queries.now))
    ∙ ap (λ (found : Option PolicyExpansion). insert_told s ctx.role name ctx.txn ctx.next columns parts.places.items ended.returning ended.done looks.read.now looks.queries.now parts.tuples found) (sym c.in-Some.is))
    c.with_seen.ensures
