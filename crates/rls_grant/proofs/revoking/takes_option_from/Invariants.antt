use Rattle.std.proofs.Common.{◌≡◌, drop}
use Rattle.std.specs.List.{list_any}
use Rattle.rls_grant.specs.Revoking.{takes_option_of}
use Rattle.rls_grant.proofs.revoking.takes_option_from.Given as goal

-- what is left tells the whole
abbrev pub invariant-loop-grantee : goal.invariant-loop-grantee
invariant-loop-grantee l =
    list_any (takes_option_of l.revoke l.grants l.grantor) (drop l.grantee-index l.grantees) ≡ list_any (takes_option_of l.revoke l.grants l.grantor) l.grantees
