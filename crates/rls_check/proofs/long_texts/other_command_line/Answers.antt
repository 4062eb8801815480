use Rattle.std.proofs.Common.{◌≡◌, ◌++◌, ℕ, List, codes, string_bytes, IfOk, subst}
use Rattle.rls_check.proofs.long_texts.other_command_line.Goals as goal

-- the word is that of the commands
pub returns : goal.returns
returns c =
    subst (λ (word : List ℕ). IfOk c.format.result (λ line. string_bytes line ≡ codes "  policy " ++ (c.args.policy.now.policy ++ (codes " is not asked: it is FOR " ++ word)))) c.policy_kind_word-kind.ensures c.format.ensures.ok
