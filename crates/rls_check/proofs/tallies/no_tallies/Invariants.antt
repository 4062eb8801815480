use Rattle.std.proofs.Common.{◌≡◌, replicate}
use Rattle.rls_check.specs.Tallies.{no_tally}
use Rattle.rls_check.proofs.tallies.no_tallies.Given as goal

-- so many so far
abbrev pub invariant-loop-i : goal.invariant-loop-i
invariant-loop-i l = l.tallies.items ≡ replicate l.i no_tally
