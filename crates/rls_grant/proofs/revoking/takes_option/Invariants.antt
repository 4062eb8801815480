use Rattle.std.proofs.Common.{◌≡◌, drop}
use Rattle.std.specs.List.{list_any}
use Rattle.rls_grant.specs.Revoking.{takes_option_by}
use Rattle.rls_grant.proofs.revoking.takes_option.Given as goal

-- what is left tells the whole
abbrev pub invariant-loop-grantor : goal.invariant-loop-grantor
invariant-loop-grantor l = list_any (takes_option_by l.revoke l.grants) (drop l.grantor-index l.grantors) ≡ list_any (takes_option_by l.revoke l.grants) l.grantors
