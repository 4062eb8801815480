-- What a statement names has to be there (PostgreSQL manual, appendix A: 42P01, 42704).
use Rattle.std.specs.Prelude.{ℕ, List, [], ◌∷◌, Option, Some, None, Result, Ok, Err}
use Rattle.rls_catalog.specs.rls_value.specs.declared.refusal.Refusal.{Refusal}
use Rattle.rls_catalog.specs.rls_value.specs.declared.refusal.Refusal.TheVariants.{Undefined}
use Rattle.rls_catalog.specs.rls_value.specs.declared.refusal.NameKind.TheVariants as kind
use Rattle.rls_catalog.specs.rls_expr.specs.declared.table.TableDef.{TableDef}
use Rattle.rls_catalog.specs.rls_expr.specs.declared.policy.Grantee.{Grantee}
use Rattle.rls_catalog.specs.rls_expr.specs.declared.policy.Grantee.TheVariants.{Public, Role}
use Rattle.rls_catalog.specs.declared.role.RoleDef.{RoleDef}
use Rattle.rls_source.specs.Askings.{Asking, known, followed_by}
use Rattle.rls_source.specs.Asked.{asked_table, asked_role}

-- what is there, or the refusal
abbrev pub found_or : {A : Type 0} → Refusal → Option A → Result A Refusal
found_or refusal (Some a) = Ok a
found_or refusal None = Err refusal

-- the table of that name, which has to be there
abbrev pub table_or_undefined : List ℕ → Asking TableDef
table_or_undefined name = followed_by (asked_table name) (λ found. known (found_or (Undefined kind.Relation name) found))

-- the role of that name, which has to be there
abbrev pub role_or_undefined : List ℕ → Asking RoleDef
role_or_undefined name = followed_by (asked_role name) (λ found. known (found_or (Undefined kind.Role name) found))

-- each of the roles has to be there, in order
abbrev pub roles_or_undefined : List (List ℕ) → Asking (Unit {0})
roles_or_undefined [] = known (Ok tt)
roles_or_undefined (name ∷ names) = followed_by (role_or_undefined name) (λ _. roles_or_undefined names)

-- each role among the grantees has to be there, in order
abbrev pub grantees_or_undefined : List Grantee → Asking (Unit {0})
grantees_or_undefined [] = known (Ok tt)
grantees_or_undefined (Public ∷ grantees) = grantees_or_undefined grantees
grantees_or_undefined (Role name ∷ grantees) = followed_by (role_or_undefined name) (λ _. grantees_or_undefined grantees)
