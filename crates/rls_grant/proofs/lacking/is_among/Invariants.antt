use Rattle.std.proofs.Common.{◌≡◌, length}
use Rattle.rls_value.specs.Names.{one_of}
use Rattle.rls_grant.proofs.lacking.is_among.Given as goal

-- what is left has the name as the whole has it
abbrev pub invariant-loop-rest : goal.invariant-loop-rest
invariant-loop-rest l = one_of l.names l.name ≡ one_of l.rest l.name

abbrev pub decreases-loop-rest : goal.decreases-loop-rest
decreases-loop-rest l = length l.rest
