use Rattle.std.proofs.Common.{◌≡◌, ◌++◌, ℕ, List, [], codes, string_bytes, IfOk, ap, subst, ◌∙◌}
use Rattle.rls_check.specs.LongTexts.{roles_text}
use Rattle.rls_check.proofs.long_texts.other_roles_line.Goals as goal

-- the roles are those of the policy
pub returns : goal.returns
returns c =
    subst (λ (roles : List ℕ). IfOk c.format.result (λ line. string_bytes line ≡ codes "  policy " ++ (c.args.policy.now.policy ++ (codes " is not asked: it is TO " ++ roles)))) (c.in_ok-roles.ensures ∙ ap (roles_text []) c.as_slice.ensures) c.format.ensures.ok
