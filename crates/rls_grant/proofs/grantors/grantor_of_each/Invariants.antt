use Rattle.std.proofs.Common.{◌≡◌}
use Rattle.rls_role.specs.rls_source.specs.Sequences.{each_of}
use Rattle.rls_grant.specs.Grantors.{granted_by}
use Rattle.rls_role.specs.rls_source.proofs.EachLemmas.{left}
use Rattle.rls_grant.proofs.grantors.grantor_of_each.Given as goal

-- what is left, behind what is found, gives what the whole gives
abbrev pub invariant-loop-privilege : goal.invariant-loop-privilege
invariant-loop-privilege l = each_of (granted_by l.effective_roles l.role l.name l.table l.grants) l.privileges ≡ left (granted_by l.effective_roles l.role l.name l.table l.grants) l.grantors l.privileges l.privilege-index
