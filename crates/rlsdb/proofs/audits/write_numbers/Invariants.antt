use Rattle.std.proofs.Common.{◌≡◌, ◌++◌, length}
use Rattle.rlsdb.specs.Answers.{order_text}
use Rattle.rlsdb.proofs.audits.write_numbers.Given as goal

-- what is written, and what is left, make the whole
abbrev pub invariant-loop-numbers : goal.invariant-loop-numbers
invariant-loop-numbers g l = g.O.ScriptOut.taken l.output ++ order_text l.numbers ≡ g.O.ScriptOut.taken l.initial.output ++ order_text l.fn.numbers

abbrev pub decreases-loop-numbers : goal.decreases-loop-numbers
decreases-loop-numbers g l = length l.numbers
