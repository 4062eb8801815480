use Rattle.std.proofs.Common.{◌≡◌, length}
use Rattle.rls_text.specs.Values as values
use Rattle.rls_text.specs.Lang.{put_in}
use Rattle.rls_text.proofs.attributes.gathered.Given as goal

-- what is left leads to what the whole leads to
abbrev pub invariant-loop-written : goal.invariant-loop-written
invariant-loop-written l = put_in values.with_attribute l.attributes l.written ≡ put_in values.with_attribute l.fn.opening l.initial.written

abbrev pub decreases-loop-written : goal.decreases-loop-written
decreases-loop-written l = length l.written
