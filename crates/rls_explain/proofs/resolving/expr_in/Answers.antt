use Rattle.std.proofs.Common.{◌≡◌, ◌∙◌, subst, IfOk}
use Rattle.rls_expr.specs.{Scopes.in_scope, Terms.Term}
use Rattle.rls_explain.proofs.ResolvingLemmas.{expr_resolved}
use Rattle.rls_explain.proofs.resolving.expr_in.Goals as goal

-- over the tables that were found it is resolved as over those of the state
pub returns : goal.returns
returns c =
    subst (λ (resolved : Term). IfOk c.expr_over-resolved.result (λ it. it ≡ resolved))
    (expr_resolved c.args.catalog.now (in_scope c.args.from) c.args.expr.now c.as_slice.result.now c.as_slice-2.result.now (c.as_slice.ensures ∙ c.in_ok-names.ensures) (c.as_slice-2.ensures ∙ c.in_ok-found.ensures))
    c.expr_over-resolved.ensures
