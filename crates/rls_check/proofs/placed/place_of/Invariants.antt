use Rattle.std.proofs.Common.{◌≡◌, drop}
use Rattle.rls_check.specs.Placed.{place_from}
use Rattle.rls_check.proofs.placed.place_of.Given as goal

-- what is found among those that are left is what is found
abbrev pub invariant-loop-place : goal.invariant-loop-place
invariant-loop-place l = place_from l.place (drop l.place l.numbers) l.txn ≡ place_from 0 l.numbers l.txn
