use Rattle.std.proofs.Common.{◌≡◌, length}
use Rattle.rls_value.specs.Names.{one_of}
use Rattle.rls_recursion.proofs.progress.is_among.Given as goal

-- what is left has the table as the whole has it
abbrev pub invariant-loop-rest : goal.invariant-loop-rest
invariant-loop-rest l = one_of l.rest l.table ≡ one_of l.tables l.table

abbrev pub decreases-loop-rest : goal.decreases-loop-rest
decreases-loop-rest l = length l.rest
