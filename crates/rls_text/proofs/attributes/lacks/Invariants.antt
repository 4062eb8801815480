use Rattle.std.proofs.Common.{◌≡◌, length}
use Rattle.rls_text.specs.Values as values
use Rattle.rls_text.proofs.attributes.lacks.Given as goal

-- what is left lacks it as the whole does
abbrev pub invariant-loop-others : goal.invariant-loop-others
invariant-loop-others l = values.lacks l.attribute l.others ≡ values.lacks l.attribute l.initial.others

abbrev pub decreases-loop-others : goal.decreases-loop-others
decreases-loop-others l = length l.others
