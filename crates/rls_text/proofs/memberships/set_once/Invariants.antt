use Rattle.std.proofs.Common.{◌≡◌, length}
use Rattle.rls_text.specs.Values as values
use Rattle.rls_text.proofs.memberships.set_once.Given as goal

-- what is left passes as the whole does
abbrev pub invariant-loop-settings : goal.invariant-loop-settings
invariant-loop-settings l = values.set_once l.settings ≡ values.set_once l.initial.settings

abbrev pub decreases-loop-settings : goal.decreases-loop-settings
decreases-loop-settings l = length l.settings
