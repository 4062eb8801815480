use Rattle.std.proofs.Common.{◌≡◌, length}
use Rattle.rls_text.specs.Values as values
use Rattle.rls_text.specs.Lang.{put_in}
use Rattle.rls_text.proofs.naming.privileges_of.Given as goal

-- what is left leads to what the whole leads to
abbrev pub invariant-loop-named : goal.invariant-loop-named
invariant-loop-named l = put_in values.with_privilege l.privileges l.named ≡ values.privileges_of l.initial.named

abbrev pub decreases-loop-named : goal.decreases-loop-named
decreases-loop-named l = length l.named
