use Rattle.std.proofs.Common.{◌≡◌, subst, IfOk}
use Rattle.std.specs.Prelude.{List}
use Rattle.rls_explain.specs.declared.explanation.Explained.{Explained}
use Rattle.rls_explain.proofs.inserting.explain_inserted.Goals as goal

-- by the law
pub returns : goal.returns
returns c =
    let ctx = c.args.ctx.now in
    let table = c.args.table.now in
    let parts = c.in_ok-parts.parts in
    subst (λ (all : List Explained). IfOk c.explain_parts-explained.result (λ explained. explained ≡ all))
    (c.decisions_found.ensures.insert c.args.catalog.now ctx c.args.insert.now c.args.wanted table parts.places.items parts.tuples c.args.reads c.requires.there c.requires.decided c.requires.reads c.in_ok-parts.ensures.places c.in_ok-parts.ensures.tuples)
    c.explain_parts-explained.ensures

pub explain_parts-explained-requires : goal.explain_parts-explained-requires
explain_parts-explained-requires c =
    c.decisions_found.ensures.room c.args.catalog.now c.args.ctx.now c.args.insert.now c.args.wanted c.args.table.now c.in_ok-parts.parts.tuples c.requires.there c.requires.decided c.in_ok-parts.ensures.tuples
