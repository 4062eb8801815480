use Rattle.std.proofs.Common.{◌≡◌, ◌||◌, length}
use Rattle.rls_dml.specs.Writing.{has_doubles}
use Rattle.rls_dml.proofs.DoubleLemmas.{any_seen}
use Rattle.rls_dml.proofs.keys.have_doubles_anywhere.Given as goal

-- the whole has doubles where what is left has, or some of it was seen
abbrev pub invariant-loop-keys : goal.invariant-loop-keys
invariant-loop-keys l = has_doubles l.fn.keys ≡ (any_seen l.seen.keys l.keys || has_doubles l.keys)

abbrev pub decreases-loop-keys : goal.decreases-loop-keys
decreases-loop-keys l = length l.keys
