use Rattle.std.proofs.Common.{◌≡◌, take}
use Rattle.rls_evaluation.specs.OuterColumns.{outer_values}
use Rattle.rls_evaluation.specs.Scoping.{env_of}
use Rattle.rls_evaluation.proofs.outer_values.values_of.Given as goal

-- the values of the columns passed
abbrev pub invariant-loop-outer : goal.invariant-loop-outer
invariant-loop-outer l = l.values.items ≡ outer_values (take l.outer-index l.columns) (env_of l.env)
