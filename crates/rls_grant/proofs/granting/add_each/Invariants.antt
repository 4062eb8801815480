use Rattle.std.proofs.Common.{◌≡◌, ◌++◌, drop}
use Rattle.rls_grant.specs.Granting.{grants_on}
use Rattle.rls_grant.proofs.granting.add_each.Given as goal

-- what is left leads to the whole
abbrev pub invariant-loop-grantee : goal.invariant-loop-grantee
invariant-loop-grantee l = l.grants ++ grants_on l.columns l.option l.grantor (drop l.grantee-index l.grantees) l.on ≡ l.fn.grants ++ grants_on l.columns l.option l.grantor l.grantees l.on
