use Rattle.std.proofs.Common.{rules, ◌-◌}
use Rattle.std.specs.List.{range_with_len}
use Rattle.rls_check.proofs.GraphSetLemmas.{between_on}
use Rattle.rls_check.proofs.neighbours.numbers_between.Goals as goal

-- one number more, and one fewer is left
pub loop-number-preserved : goal.loop-number-preserved
loop-number-preserved c =
    between_on c.loop-number.number c.args.to c.loop-number.numbers c.push.new.self (range_with_len c.args.from (c.args.to - c.args.from)) (search rules) (search rules) c.loop-number.invariant
