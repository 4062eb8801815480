use Rattle.std.proofs.Common.{◌≡◌, length}
use Rattle.rls_text.specs.Values as values
use Rattle.rls_text.proofs.columns.has_mark.Given as goal

-- what is left has it as the whole does
abbrev pub invariant-loop-marks : goal.invariant-loop-marks
invariant-loop-marks l = values.has_mark l.mark l.marks ≡ values.has_mark l.mark l.initial.marks

abbrev pub decreases-loop-marks : goal.decreases-loop-marks
decreases-loop-marks l = length l.marks
