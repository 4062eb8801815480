-- The questions that one object answers. What stands in an object is opaque here: whoever asks has to know no more than
-- which object is asked, and the noted look-ups alone open it.
use Rattle.std.specs.Prelude.{ℕ, List, Option}
use Rattle.std.proofs.Common.{ap, sym}
use Rattle.rls_catalog.specs.rls_value.specs.declared.value.Value.{Value}
use Rattle.rls_catalog.specs.rls_value.specs.declared.object.Object.TheVariants as o
use Rattle.rls_catalog.specs.rls_expr.specs.{declared.table.TableDef.TableDef, declared.policy.Policy.Policy}
use Rattle.rls_catalog.specs.{declared.role.RoleDef.RoleDef, declared.role.Membership.Membership, declared.grant.Grant.Grant, declared.stored.Stored.Stored}
use Rattle.rls_catalog.specs.State.{State, role_of, members_of, table_of, grants_of, policies_of, rows_of, rows_with_key}
use Rattle.rls_source.specs.Readings.{told}
use Rattle.rls_source.specs.Askings.{Asking, IsFramed}

-- the role, if there is one
unfoldable pub role_at : State → List ℕ → Option RoleDef
role_at s name = role_of s name

pub role_framed : (name : List ℕ) → IsFramed (λ s. told (o.Role name) (role_at s name))
unfolding role_at
role_framed name s other agrees = ap (told (o.Role name)) (sym agrees.0)

-- asks for the role
abbrev pub asked_role : List ℕ → Asking (Option RoleDef)
asked_role name = record { in_state = λ s. told (o.Role name) (role_at s name); framed = role_framed name }

-- the memberships that the role has
unfoldable pub members_at : State → List ℕ → List Membership
members_at s member = members_of s member

pub members_framed : (member : List ℕ) → IsFramed (λ s. told (o.Members member) (members_at s member))
unfolding members_at
members_framed member s other agrees = ap (told (o.Members member)) (sym agrees.0)

abbrev pub asked_members : List ℕ → Asking (List Membership)
asked_members member = record { in_state = λ s. told (o.Members member) (members_at s member); framed = members_framed member }

-- the table, if there is one
unfoldable pub table_at : State → List ℕ → Option TableDef
table_at s name = table_of s name

pub table_framed : (name : List ℕ) → IsFramed (λ s. told (o.Table name) (table_at s name))
unfolding table_at
table_framed name s other agrees = ap (told (o.Table name)) (sym agrees.0)

-- asks for the table
abbrev pub asked_table : List ℕ → Asking (Option TableDef)
asked_table name = record { in_state = λ s. told (o.Table name) (table_at s name); framed = table_framed name }

-- the grants on the table
unfoldable pub grants_at : State → List ℕ → List Grant
grants_at s table = grants_of s table

pub grants_framed : (table : List ℕ) → IsFramed (λ s. told (o.Grants table) (grants_at s table))
unfolding grants_at
grants_framed table s other agrees = ap (told (o.Grants table)) (sym agrees.0)

-- asks for the grants on the table
abbrev pub asked_grants : List ℕ → Asking (List Grant)
asked_grants table = record { in_state = λ s. told (o.Grants table) (grants_at s table); framed = grants_framed table }

-- the policies of the table
unfoldable pub policies_at : State → List ℕ → List Policy
policies_at s table = policies_of s table

pub policies_framed : (table : List ℕ) → IsFramed (λ s. told (o.Policies table) (policies_at s table))
unfolding policies_at
policies_framed table s other agrees = ap (told (o.Policies table)) (sym agrees.0)

-- asks for the policies of the table
abbrev pub asked_policies : List ℕ → Asking (List Policy)
asked_policies table = record { in_state = λ s. told (o.Policies table) (policies_at s table); framed = policies_framed table }

-- the rows of the table
unfoldable pub rows_at : State → List ℕ → List Stored
rows_at s table = rows_of s table

pub rows_framed : (table : List ℕ) → IsFramed (λ s. told (o.Rows table) (rows_at s table))
unfolding rows_at
rows_framed table s other agrees = ap (told (o.Rows table)) (sym agrees.0)

-- asks for the rows of the table
abbrev pub asked_rows : List ℕ → Asking (List Stored)
asked_rows table = record { in_state = λ s. told (o.Rows table) (rows_at s table); framed = rows_framed table }

-- the rows of the table that have the key
unfoldable pub keyed_at : State → List ℕ → List Value → List Stored
keyed_at s table key = rows_with_key s table key

pub key_framed : (table : List ℕ) (key : List Value) → IsFramed (λ s. told (o.Key table key) (keyed_at s table key))
unfolding keyed_at
key_framed table key s other agrees = ap (told (o.Key table key)) (sym agrees.0)

-- asks for the rows with the key
abbrev pub asked_key : List ℕ → List Value → Asking (List Stored)
asked_key table key = record { in_state = λ s. told (o.Key table key) (keyed_at s table key); framed = key_framed table key }
