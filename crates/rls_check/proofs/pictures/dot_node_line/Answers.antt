use Rattle.std.proofs.Common.{◌≡◌, ◌++◌, ℕ, List, codes, string_bytes, IfOk, subst}
use Rattle.std.specs.Fmt.{decimal}
use Rattle.rls_check.proofs.pictures.dot_node_line.Goals as goal

-- the tooltip has the statements
pub returns : goal.returns
returns c =
    subst (λ (tooltip : List ℕ). IfOk c.format.result (λ line. string_bytes line ≡ codes "  t" ++ (decimal c.args.txn ++ (codes " [label=\"" ++ (string_bytes c.args.name ++ (codes "\", tooltip=\"" ++ (tooltip ++ codes "\"];"))))))) c.in_ok-tooltip.ensures c.format.ensures.ok
