use Rattle.std.proofs.Common.{◌≡◌, ◌∙◌, map, subst, IfOk}
use Rattle.std.specs.Prelude.{List, Option}
use Rattle.rls_expr.specs.{Scopes.in_scope, Terms.Term}
use Rattle.rls_explain.proofs.ResolvingLemmas.{values_resolved, where_resolved}
use Rattle.rls_explain.proofs.resolving.update_parts.Goals as goal

-- over the tables that were found they are resolved as over those of the state
pub returns-clause-values : goal.returns-clause-values
returns-clause-values c =
    subst (λ (resolved : List Term). IfOk c.update_over-parts.result (λ parts. parts.values ≡ resolved))
    (values_resolved c.args.catalog.now (in_scope c.args.from) c.args.update.now.assignments c.args.update.now.condition c.as_slice.result.now c.as_slice-2.result.now (c.as_slice.ensures ∙ c.in_ok-names.ensures) (c.as_slice-2.ensures ∙ c.in_ok-found.ensures))
    c.update_over-parts.ensures.values

pub returns-clause-condition : goal.returns-clause-condition
returns-clause-condition c =
    subst (λ (resolved : Option Term). IfOk c.update_over-parts.result (λ parts. parts.condition ≡ resolved))
    (where_resolved c.args.catalog.now (in_scope c.args.from) (map (λ assignment. assignment.value) c.args.update.now.assignments) c.args.update.now.condition c.as_slice.result.now c.as_slice-2.result.now (c.as_slice.ensures ∙ c.in_ok-names.ensures) (c.as_slice-2.ensures ∙ c.in_ok-found.ensures))
    c.update_over-parts.ensures.condition
