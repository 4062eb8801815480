use Rattle.std.proofs.Common.{◌↔◌, length}
use Rattle.rls_check.specs.Checking.{ArePuts}
use Rattle.rls_check.proofs.matching.are_puts.Given as goal

-- what is left decides
abbrev pub invariant-loop-puts : goal.invariant-loop-puts
invariant-loop-puts l = ArePuts l.puts l.changes ↔ ArePuts l.fn.puts l.fn.changes

abbrev pub decreases-loop-puts : goal.decreases-loop-puts
decreases-loop-puts l = length l.puts
