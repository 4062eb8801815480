use Rattle.std.proofs.Common.{◌≡◌, ◌++◌, drop, flat_map}
use Rattle.rls_check.specs.GraphTexts.{ended, rw_arrow_line}
use Rattle.rls_check.proofs.pictures.Drawing.push_rw_arrows.Given as goal

-- what is made, with what is made of those that are left, is the whole
abbrev pub invariant-loop-edge : goal.invariant-loop-edge
invariant-loop-edge l = l.text.items ++ flat_map (λ it. ended (rw_arrow_line l.self.picture l.self.transactions.now it)) (drop l.edge-index l.edges) ≡ l.fn.text.items ++ flat_map (λ it. ended (rw_arrow_line l.self.picture l.self.transactions.now it)) l.edges
