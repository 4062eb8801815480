use Rattle.std.proofs.Common.{◌≡◌, map, take}
use Rattle.rls_evaluation.specs.{Environments.over, Tableless.value_in}
use Rattle.rls_dml.proofs.replying.values_over.Given as goal

-- the first items give their values
abbrev pub invariant-loop-item : goal.invariant-loop-item
invariant-loop-item l = l.values.items ≡ map (λ item. value_in item (over l.role l.row)) (take l.item-index l.items)
