use Rattle.std.proofs.Common.{◌≡◌, length}
use Rattle.rls_text.specs.Values as values
use Rattle.rls_text.proofs.tables.has_no_key.Given as goal

-- what is left passes as the whole does
abbrev pub invariant-loop-columns : goal.invariant-loop-columns
invariant-loop-columns l = values.has_no_key l.columns ≡ values.has_no_key l.initial.columns

abbrev pub decreases-loop-columns : goal.decreases-loop-columns
decreases-loop-columns l = length l.columns
