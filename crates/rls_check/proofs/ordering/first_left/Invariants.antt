use Rattle.std.proofs.Common.{◌≡◌, ◌<◌, ℕ, get_or, true, false}
use Rattle.rls_check.proofs.ordering.first_left.Given as goal

-- all before are placed
abbrev pub invariant-loop-left : goal.invariant-loop-left
invariant-loop-left l = (i : ℕ) → i < l.left → get_or l.placed i false ≡ true
