use Rattle.std.proofs.Common.{◌≡◌, length}
use Rattle.rls_expr.specs.rls_value.specs.Names.{one_of}
use Rattle.rls_statement.proofs.privileges.is_one_of.Given as goal

-- what is left has the name as the whole has it
abbrev pub invariant-loop-names : goal.invariant-loop-names
invariant-loop-names l = one_of l.fn.names l.name ≡ one_of l.names l.name

abbrev pub decreases-loop-names : goal.decreases-loop-names
decreases-loop-names l = length l.names
