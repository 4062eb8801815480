-- What a role's privileges tell is what the rules over a state say.
use Rattle.std.specs.Prelude.{◌≡◌, refl, ℕ, List}
use Rattle.rls_evaluation.specs.rls_catalog.specs.rls_expr.specs.rls_value.specs.declared.verb.Privilege.{Privilege}
use Rattle.rls_evaluation.specs.rls_catalog.specs.rls_expr.specs.rls_value.specs.declared.verb.Kind.{Kind}
use Rattle.rls_evaluation.specs.rls_catalog.specs.rls_expr.specs.declared.table.TableDef.{TableDef}
use Rattle.rls_evaluation.specs.rls_catalog.specs.declared.verdict.Side.{Side}
use Rattle.rls_evaluation.specs.rls_catalog.specs.State.{State, grants_of, policies_of}
use Rattle.rls_evaluation.specs.rls_catalog.specs.Membership.{has_privileges_of}
use Rattle.rls_evaluation.specs.rls_catalog.specs.Privileges.{missing}
use Rattle.rls_evaluation.specs.rls_catalog.specs.Verdict.{exempts, is_exempt, chosen, applying_of}
use Rattle.rls_grant.specs.Missing.{missing_in}
use Rattle.rls_guard.specs.RolePrivileges.{role_privileges_in, has_owner}

-- the owner's privileges
pub owner_means : (s : State) (role : List ℕ) (table : TableDef) → has_owner (role_privileges_in s role) table ≡ has_privileges_of s role table.owner
unfolding role_privileges_in
owner_means s role table = refl

-- what is lacked of a privilege on a table
pub missing_means : (s : State) (role : List ℕ) (privilege : Privilege) (table : List ℕ) (columns : List (List ℕ))
    → missing_in (role_privileges_in s role).effective_roles.superuser (role_privileges_in s role).effective_roles.names (grants_of s table) privilege table columns ≡ missing s role privilege table columns
unfolding role_privileges_in
missing_means s role privilege table columns = refl

-- exemption
pub exempt_means : (s : State) (role : List ℕ) (table : TableDef) → exempts (role_privileges_in s role).attributes table (has_owner (role_privileges_in s role) table) ≡ is_exempt s role table
unfolding role_privileges_in
exempt_means s role table = refl

-- the policies that apply
pub applying_means : (s : State) (role table : List ℕ) (kind : Kind) (which : Side)
    → chosen (role_privileges_in s role).effective_roles.superuser (role_privileges_in s role).effective_roles.names kind which (policies_of s table) ≡ applying_of s role table kind which
unfolding role_privileges_in
applying_means s role table kind which = refl
