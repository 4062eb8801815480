use Rattle.std.proofs.Common.{◌≡◌, subst, IfOk}
use Rattle.std.specs.Prelude.{List}
use Rattle.rls_explain.specs.declared.explanation.Explained.{Explained}
use Rattle.rls_explain.proofs.scanning.explain_deleted.Goals as goal

-- by the law
pub returns : goal.returns
returns c =
    let condition = c.in_ok-condition.condition in
    subst (λ (all : List Explained). IfOk c.explain_scanned-explained.result (λ explained. explained ≡ all))
    (c.decisions_found.ensures.delete c.args.catalog.now c.args.ctx.now c.args.delete.now c.args.wanted c.args.table.now condition c.args.reads c.requires.there c.requires.decided c.requires.reads c.in_ok-condition.ensures)
    c.explain_scanned-explained.ensures
