use Rattle.std.proofs.Common.{◌≡◌, ◌+◌, length}
use Rattle.std.specs.Prelude.{not}
use Rattle.std.specs.List.{position_or_len}
use Rattle.rls_audit.specs.Lines.{comes_before}
use Rattle.rls_audit.proofs.ordering.place_for.Given as goal

-- those before, and the place in what is left
abbrev pub invariant-loop-rest : goal.invariant-loop-rest
invariant-loop-rest l = (l.place + position_or_len (λ other. not (comes_before other l.change)) l.rest ≡ position_or_len (λ other. not (comes_before other l.change)) l.ordered) × (l.place + length l.rest ≡ length l.ordered)

abbrev pub decreases-loop-rest : goal.decreases-loop-rest
decreases-loop-rest l = length l.rest
