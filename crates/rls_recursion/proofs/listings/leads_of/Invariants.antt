use Rattle.std.proofs.Common.{◌≡◌, drop}
use Rattle.rls_recursion.specs.Listings as spec
use Rattle.rls_recursion.proofs.listings.leads_of.Given as goal

-- what is left has the table
abbrev pub invariant-loop-one : goal.invariant-loop-one
invariant-loop-one l = spec.leads_of (drop l.one-index l.policies) l.table ≡ spec.leads_of l.policies l.table
