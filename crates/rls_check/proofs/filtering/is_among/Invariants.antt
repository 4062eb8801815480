use Rattle.std.proofs.Common.{◌≡◌, length}
use Rattle.rls_value.specs.Names.{one_of}
use Rattle.rls_check.proofs.filtering.is_among.Given as goal

-- what is left leads to the answer
abbrev pub invariant-loop-names : goal.invariant-loop-names
invariant-loop-names l = one_of l.names l.name ≡ one_of l.fn.names l.name

abbrev pub decreases-loop-names : goal.decreases-loop-names
decreases-loop-names l = length l.names
