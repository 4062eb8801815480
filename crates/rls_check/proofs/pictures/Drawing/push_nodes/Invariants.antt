use Rattle.std.proofs.Common.{◌≡◌, ◌++◌, drop, filter, flat_map}
use Rattle.rls_check.specs.Audited.{transaction_at}
use Rattle.rls_check.specs.GraphSteps.{is_at}
use Rattle.rls_check.specs.GraphTexts.{ended, node_line}
use Rattle.rls_check.proofs.pictures.Drawing.push_nodes.Given as goal

-- what is made, with what is made of those that are left, is the whole
abbrev pub invariant-loop-place : goal.invariant-loop-place
invariant-loop-place l = l.text.items ++ flat_map (λ place. ended (node_line l.self.picture (transaction_at l.self.transactions.now place))) (filter (is_at l.self.drawn.items) (drop l.place-index l.places)) ≡ l.fn.text.items ++ flat_map (λ place. ended (node_line l.self.picture (transaction_at l.self.transactions.now place))) (filter (is_at l.self.drawn.items) l.places)
