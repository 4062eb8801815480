use Rattle.std.proofs.Common.{◌≡◌, ◌∙◌, subst, IfOk}
use Rattle.std.specs.Prelude.{Option}
use Rattle.rls_expr.specs.{Scopes.in_scope, Terms.Term}
use Rattle.rls_explain.proofs.ResolvingLemmas.{condition_resolved}
use Rattle.rls_explain.proofs.resolving.condition_in.Goals as goal

-- over the tables that were found it is resolved as over those of the state
pub returns : goal.returns
returns c =
    subst (λ (resolved : Option Term). IfOk c.condition_over-condition.result (λ it. it ≡ resolved))
    (condition_resolved c.args.catalog.now (in_scope c.args.from) c.args.condition.now c.as_slice.result.now c.as_slice-2.result.now (c.as_slice.ensures ∙ c.in_ok-names.ensures) (c.as_slice-2.ensures ∙ c.in_ok-found.ensures))
    c.condition_over-condition.ensures
