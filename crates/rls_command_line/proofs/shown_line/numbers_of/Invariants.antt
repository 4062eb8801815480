use Rattle.std.proofs.Common.{ℕ, List, ◌++◌, length, map}
use Rattle.std.specs.List.{AllZip}
use Rattle.rls_command_line.specs.CommandLine.{IsNumberOf}
use Rattle.rls_command_line.proofs.shown_line.numbers_of.Given as goal

-- whatever the texts that are left are completes those so far
abbrev pub invariant-loop-texts : goal.invariant-loop-texts
invariant-loop-texts l = (more : List ℕ) → AllZip IsNumberOf (map (λ text. text.now) l.texts) more → AllZip IsNumberOf (map (λ text. text.now) l.fn.texts) (l.numbers ++ more)

abbrev pub decreases-loop-texts : goal.decreases-loop-texts
decreases-loop-texts l = length l.texts
