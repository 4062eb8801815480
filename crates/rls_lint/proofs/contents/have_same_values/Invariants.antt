use Rattle.std.proofs.Common.{◌≡◌, ◌↔◌, length, map}
use Rattle.rls_lint.proofs.contents.have_same_values.Given as goal

-- those that are left decide
abbrev pub invariant-loop-left : goal.invariant-loop-left
invariant-loop-left l = (map (λ stored. stored.row) l.left ≡ map (λ stored. stored.row) l.right) ↔ (map (λ stored. stored.row) l.fn.left ≡ map (λ stored. stored.row) l.fn.right)

abbrev pub decreases-loop-left : goal.decreases-loop-left
decreases-loop-left l = length l.left
