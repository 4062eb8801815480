use Rattle.std.proofs.Common.{◌≡◌, ap, ◌∙◌, subst, IfOk}
use Rattle.std.specs.Prelude.{ℕ, List, [], ◌∷◌, option_map}
use Rattle.rls_meaning.specs.{Resolving.resolved}
use Rattle.rls_explain.specs.declared.explanation.Explained.{Explained}
use Rattle.rls_explain.proofs.scanning.explain_selected.Goals as goal

-- by the law
pub returns : goal.returns
returns c =
    let condition = c.in_ok-condition.condition in
    subst (λ (all : List Explained). IfOk c.explain_scanned-explained.result (λ explained. explained ≡ all))
    (c.decisions_found.ensures.select c.args.catalog.now c.args.ctx.now c.args.select.now c.args.wanted c.args.table.now condition c.requires.there c.requires.decided
    (c.in_ok-condition.ensures ∙ ap (λ (qualifier : List ℕ). option_map (resolved c.args.catalog.now ((qualifier, c.args.table.now) ∷ [])) c.args.select.now.condition) c.qualifier_of.ensures))
    c.explain_scanned-explained.ensures
