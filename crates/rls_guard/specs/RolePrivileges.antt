-- What the current role may do with a table, by its attributes and whose privileges it has.
use Rattle.std.specs.Prelude.{ℕ, List, ◌∷◌, Bool, ◌||◌, Option, Some, None, Result, Ok, Err, if◌then◌else◌}
use Rattle.rls_evaluation.specs.rls_catalog.specs.rls_expr.specs.rls_value.specs.{Names.one_of, declared.object.Object.Object, declared.refusal.Refusal.Refusal, declared.refusal.Refusal.TheVariants.Denied, declared.refusal.Why.Why}
use Rattle.rls_evaluation.specs.rls_catalog.specs.rls_expr.specs.rls_value.specs.declared.object.Object.TheVariants as o
use Rattle.rls_evaluation.specs.rls_catalog.specs.rls_expr.specs.rls_value.specs.declared.refusal.Why.TheVariants as why
use Rattle.rls_evaluation.specs.rls_catalog.specs.rls_expr.specs.declared.table.TableDef.{TableDef}
use Rattle.rls_evaluation.specs.rls_catalog.specs.State.{State}
use Rattle.rls_grant.specs.Missing.{missing_in}
use Rattle.rls_evaluation.specs.rls_catalog.specs.Membership.{attributes_of, walked_by, effective_roles_reads}
use Rattle.rls_evaluation.specs.rls_catalog.proofs.Frames.{attributes_frame, walked_frame, effective_roles_reads_frame}
use Rattle.rls_guard.specs.declared.role_privileges.RolePrivileges.{RolePrivileges}
use Rattle.rls_guard.specs.declared.permission_check.PermissionCheck.{PermissionCheck}
use Rattle.rls_evaluation.specs.rls_source.specs.Askings.{Asking, IsFramed, known, asked_if, followed_by}
use Rattle.rls_evaluation.specs.rls_source.specs.Asked.{asked_grants}

-- what tells a role's attributes and whose privileges it has
unfoldable pub role_privileges_reads : State → List ℕ → List Object
role_privileges_reads s role = o.Role role ∷ effective_roles_reads s role

-- the role's attributes, and whose privileges it has
unfoldable pub role_privileges_in : State → List ℕ → RolePrivileges
role_privileges_in s role = record { attributes = attributes_of s role; effective_roles = record { superuser = (attributes_of s role).superuser; names = walked_by s role } }

pub role_privileges_framed : (role : List ℕ) → IsFramed (λ s. record { gives = Ok (role_privileges_in s role); reads = role_privileges_reads s role })
unfolding role_privileges_in role_privileges_reads
role_privileges_framed role s other agrees i = record {
  gives = Ok (record {
    attributes = attributes_frame s other role agrees.0 i;
    effective_roles = record { superuser = (attributes_frame s other role agrees.0 i).superuser; names = walked_frame s other role agrees.1 i };
  });
  reads = o.Role role ∷ effective_roles_reads_frame s other role agrees.1 i;
}

-- who the role is
abbrev pub role_privileges_of : List ℕ → Asking RolePrivileges
role_privileges_of role = record { in_state = λ s. record { gives = Ok (role_privileges_in s role); reads = role_privileges_reads s role }; framed = role_privileges_framed role }

-- the role has the privileges of the table's owner
abbrev pub has_owner : RolePrivileges → TableDef → Bool
has_owner role_privileges table = role_privileges.effective_roles.superuser || one_of role_privileges.effective_roles.names table.owner

-- what is lacked is refused
abbrev pub refused_for : Option Why → Result (Unit {0}) Refusal
refused_for None = Ok tt
refused_for (Some why) = Err (Denied why)

-- the privilege has to be held for these columns: a superuser holds each, another role what is granted to it
abbrev pub permission_or_denied : RolePrivileges → PermissionCheck → Asking (Unit {0})
permission_or_denied role_privileges check =
    asked_if role_privileges.effective_roles.superuser (known (Ok tt))
    (followed_by (asked_grants check.table) (λ grants. known (refused_for (missing_in role_privileges.effective_roles.superuser role_privileges.effective_roles.names grants check.privilege check.table check.columns))))

-- the role has to have the owner's privileges
abbrev pub owner_or_denied : RolePrivileges → List ℕ → TableDef → Result (Unit {0}) Refusal
owner_or_denied role_privileges name table = if has_owner role_privileges table then Ok tt else Err (Denied (why.Owner name))

-- to change a table's definition the role has to have its owner's privileges
unfoldable pub ownership : List ℕ → List ℕ → TableDef → Asking (Unit {0})
ownership role name table = followed_by (role_privileges_of role) (λ role_privileges. known (owner_or_denied role_privileges name table))
