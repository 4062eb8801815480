use Rattle.std.proofs.Common.{◌≡◌, drop}
use Rattle.rls_check.specs.Placed.{commit_from}
use Rattle.rls_check.proofs.placed.commit_of.Given as goal

-- what is found among those that are left is what is found
abbrev pub invariant-loop-place : goal.invariant-loop-place
invariant-loop-place l = commit_from l.place (drop l.place l.transactions) l.txn ≡ commit_from 0 l.transactions l.txn
