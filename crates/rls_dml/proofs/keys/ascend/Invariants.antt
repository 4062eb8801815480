use Rattle.std.proofs.Common.{◌≡◌, length}
use Rattle.rls_dml.specs.Writing.{ascend}
use Rattle.rls_dml.proofs.keys.ascend.Given as goal

-- what is left tells it for all
abbrev pub invariant-loop-keys : goal.invariant-loop-keys
invariant-loop-keys l = ascend l.fn.keys ≡ ascend l.keys

abbrev pub decreases-loop-keys : goal.decreases-loop-keys
decreases-loop-keys l = length l.keys
