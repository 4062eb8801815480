use Rattle.std.proofs.Common.{◌≡◌, ◌++◌, drop}
use Rattle.std.specs.List.{flat_map}
use Rattle.rls_grant.specs.Granting.{grants_by}
use Rattle.rls_grant.proofs.granting.new_grants.Given as goal

-- what is left leads to the whole
abbrev pub invariant-loop-grantor : goal.invariant-loop-grantor
invariant-loop-grantor l = l.grants ++ flat_map (grants_by l.columns l.grant) (drop l.grantor-index l.grantors) ≡ flat_map (grants_by l.columns l.grant) l.grantors
