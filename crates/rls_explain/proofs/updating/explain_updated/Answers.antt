use Rattle.std.proofs.Common.{◌≡◌, subst, IfOk}
use Rattle.std.specs.Prelude.{List}
use Rattle.rls_explain.specs.declared.explanation.Explained.{Explained}
use Rattle.rls_explain.proofs.updating.explain_updated.Goals as goal

-- by the law
pub returns : goal.returns
returns c =
    let table = c.args.table.now in
    let parts = c.in_ok-parts.parts in
    subst (λ (all : List Explained). IfOk c.explain_parts-explained.result (λ explained. explained ≡ all))
    (c.decisions_found.ensures.update c.args.catalog.now c.args.ctx.now c.args.update.now c.args.wanted table parts.places.items parts.values parts.condition c.args.reads c.requires.there c.requires.decided c.requires.reads
    c.in_ok-parts.ensures.places c.in_ok-parts.ensures.values c.in_ok-parts.ensures.condition)
    c.explain_parts-explained.ensures
