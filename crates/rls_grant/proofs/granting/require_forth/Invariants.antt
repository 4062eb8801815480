use Rattle.std.proofs.Common.{◌≡◌, drop}
use Rattle.rls_role.specs.rls_source.specs.Sequences.{each_or_refused}
use Rattle.rls_grant.specs.Granting.{forth_or_refused}
use Rattle.rls_grant.proofs.granting.require_forth.Given as goal

-- what is left leads to the whole
abbrev pub invariant-loop-grantor : goal.invariant-loop-grantor
invariant-loop-grantor l = each_or_refused (forth_or_refused l.owner l.grants l.grantee) l.grantors ≡ each_or_refused (forth_or_refused l.owner l.grants l.grantee) (drop l.grantor-index l.grantors)
