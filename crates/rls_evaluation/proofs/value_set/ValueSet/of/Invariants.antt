use Rattle.rls_evaluation.specs.ValueSets.{IsSetOf}
use Rattle.rls_evaluation.proofs.value_set.ValueSet.of.Given as goal

-- the set has the values passed
abbrev pub invariant-loop-value : goal.invariant-loop-value
invariant-loop-value l = IsSetOf l.set l.yielded
