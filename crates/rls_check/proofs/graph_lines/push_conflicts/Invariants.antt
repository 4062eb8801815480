use Rattle.std.proofs.Common.{◌≡◌, ◌++◌, length, flat_map}
use Rattle.rls_audit.specs.rls_printing.specs.Escaped.{escaped_line}
use Rattle.rls_check.specs.GraphTexts.{rw_line}
use Rattle.rls_check.proofs.graph_lines.push_conflicts.Given as goal

-- what is made, with what is made of those that are left, is the whole
abbrev pub invariant-loop-edges : goal.invariant-loop-edges
invariant-loop-edges l = l.text.items ++ flat_map (λ it. escaped_line (rw_line l.transactions it)) l.edges ≡ l.fn.text.items ++ flat_map (λ it. escaped_line (rw_line l.transactions it)) l.fn.edges

abbrev pub decreases-loop-edges : goal.decreases-loop-edges
decreases-loop-edges l = length l.edges
