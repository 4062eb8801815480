use Rattle.std.proofs.Common.{◌≡◌, length}
use Rattle.std.specs.Cmp.Lexicographic.{slice_cmp}
use Rattle.rls_value.specs.Values.{listed}
use Rattle.rls_value.proofs.row.cmp_lists.Given as goal

-- the values passed are the same: what is left is ordered as the whole
abbrev pub invariant-loop-left : goal.invariant-loop-left
invariant-loop-left l = slice_cmp listed l.left l.right ≡ slice_cmp listed l.fn.left l.fn.right

abbrev pub decreases-loop-left : goal.decreases-loop-left
decreases-loop-left l = length l.left
