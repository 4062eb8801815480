use Rattle.std.proofs.Common.{◌≡◌, drop}
use Rattle.rls_catalog.specs.Changed.{opening}
use Rattle.rls_check.specs.Explaining.{met}
use Rattle.rls_check.proofs.explaining.explain_along.Given as goal

-- what is met among those that are left is what is met
abbrev pub invariant-loop-place : goal.invariant-loop-place
invariant-loop-place l = met l.transactions l.state (drop l.place-index l.places) l.txn ≡ met l.transactions opening l.places l.txn
