use Rattle.std.proofs.Common.{◌≡◌, ◌||◌, IfOk, Bool, ap, subst, sym, ◌∙◌}
use Rattle.std.specs.List.{list_any}
use Rattle.rls_verdict.specs.rls_expr.specs.declared.policy.Grantee.{Grantee}
use Rattle.rls_grant.specs.GrantedTo.{has_whole}
use Rattle.rls_grant.proofs.SideBySide.{granted_is}
use Rattle.rls_grant.proofs.holding.is_granted.Goals as goal

pub returns-then-branch : goal.returns-then-branch
returns-then-branch c =
    let by_names = ap (list_any (λ role. has_whole c.args.privilege (Grantee.Role role) c.args.grants.now)) (sym c.as_slice.ensures) ∙ sym c.in_ok-is_granted_to_some.ensures ∙ c.if-branch.true in
    sym (granted_is c.args.effective_roles.now.superuser c.args.privilege c.args.grants.now c.args.effective_roles.now.names c.if-effective_roles.false
    ∙ ap (λ b. b || has_whole c.args.privilege Grantee.Public c.args.grants.now) by_names)

pub returns : goal.returns
returns c =
    let by_names = ap (list_any (λ role. has_whole c.args.privilege (Grantee.Role role) c.args.grants.now)) (sym c.as_slice.ensures) ∙ sym c.in_ok-is_granted_to_some.ensures ∙ c.if-branch.false in
    subst (λ (b : Bool). IfOk c.has_whole.result (λ granted. granted ≡ b))
    (sym (granted_is c.args.effective_roles.now.superuser c.args.privilege c.args.grants.now c.args.effective_roles.now.names c.if-effective_roles.false
    ∙ ap (λ b. b || has_whole c.args.privilege Grantee.Public c.args.grants.now) by_names)) c.has_whole.ensures
