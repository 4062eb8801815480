use Rattle.std.proofs.Common.{◌≡◌, length}
use Rattle.rls_text.specs.Values as values
use Rattle.rls_text.proofs.columns.marked_once.Given as goal

-- what is left passes as the whole does
abbrev pub invariant-loop-marks : goal.invariant-loop-marks
invariant-loop-marks l = values.marked_once l.marks ≡ values.marked_once l.initial.marks

abbrev pub decreases-loop-marks : goal.decreases-loop-marks
decreases-loop-marks l = length l.marks
