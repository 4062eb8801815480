use Rattle.std.proofs.Common.{◌≡◌, ◌+◌, length}
use Rattle.rls_audit.specs.FirstKeys.{place_of}
use Rattle.rls_check.proofs.keeping.place_of.Given as goal

-- those before, and the place in what is left
abbrev pub invariant-loop-rest : goal.invariant-loop-rest
invariant-loop-rest l = (l.place + place_of l.rest l.name ≡ place_of l.columns l.name) × (l.place + length l.rest ≡ length l.columns)

abbrev pub decreases-loop-rest : goal.decreases-loop-rest
decreases-loop-rest l = length l.rest
