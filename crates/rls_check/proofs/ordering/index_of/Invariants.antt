use Rattle.rls_check.specs.Placing.{IsIndex}
use Rattle.rls_check.proofs.ordering.index_of.Given as goal

-- those so far are in it
abbrev pub invariant-loop-place : goal.invariant-loop-place
invariant-loop-place l = IsIndex l.transactions l.place l.index
