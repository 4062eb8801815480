use Rattle.std.proofs.Common.{◌≡◌, ◌++◌, length, filter, flat_map}
use Rattle.rls_check.specs.GraphSteps.{is_at}
use Rattle.rls_check.specs.GraphTexts.{are_drawn, arrow_line, ended}
use Rattle.rls_check.proofs.pictures.Drawing.push_arrows.Given as goal

-- what is made, with what is made of those that are left, is the whole
abbrev pub invariant-loop-edges : goal.invariant-loop-edges
invariant-loop-edges l = l.text.items ++ flat_map (λ it. ended (arrow_line l.self.picture l.self.transactions.now it)) (filter (are_drawn (is_at l.self.drawn.items)) l.edges) ≡ l.fn.text.items ++ flat_map (λ it. ended (arrow_line l.self.picture l.self.transactions.now it)) (filter (are_drawn (is_at l.self.drawn.items)) l.fn.edges)

abbrev pub decreases-loop-edges : goal.decreases-loop-edges
decreases-loop-edges l = length l.edges
