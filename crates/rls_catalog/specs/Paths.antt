-- Paths over memberships by their options (PostgreSQL manual, 22.3, "Role Membership", SET ROLE and GRANT): which roles
-- a login may set, who is a member of whom, and who may grant a membership. A role that is absent has no memberships.
use Rattle.std.specs.Prelude.{◌≡◌, ℕ, List, [], ◌∷◌, Option, Some, None, Bool, true, ◌&&◌, ◌||◌, if◌then◌else◌, map, filter}
use Rattle.std.specs.List.{list_any}
use Rattle.std.specs.Str.{bytes_eq}
use Rattle.std.proofs.Common.{◌⊎◌}
use Rattle.rls_expr.specs.rls_value.specs.Names.{one_of}
use Rattle.rls_expr.specs.rls_value.specs.declared.object.Object.{Object}
use Rattle.rls_expr.specs.rls_value.specs.declared.object.Object.TheVariants as o
use Rattle.rls_catalog.specs.declared.role.RoleDef.{RoleDef}
use Rattle.rls_catalog.specs.declared.role.Membership.{Membership}
use Rattle.rls_catalog.specs.State.{State, role_of, members_of}
use Rattle.rls_catalog.specs.Membership.{attributes_of, Inherits, reached_of, walked_by, walk_reads}

-- what a role has that is there
abbrev pub held_if : Option RoleDef → List Membership → List Membership
held_if (Some def) memberships = memberships
held_if None memberships = []

-- the memberships of a role; one that is absent has none
abbrev pub held_by : State → List ℕ → List Membership
held_by s role = held_if (role_of s role) (members_of s role)

-- the roles of those memberships that pass the test
abbrev pub granted_where : (Membership → Bool) → List Membership → List (List ℕ)
granted_where test memberships = map (λ m. m.role) (filter test memberships)

-- the least reflexive, transitive relation that contains the memberships that pass the test
pub data Reaches (test : Membership → Bool) (s : State) (role : List ℕ) : List ℕ → Type 0 where
  Itself : Reaches test s role role
  Through : (between granted : List ℕ) → Reaches test s role between → one_of (granted_where test (held_by s between)) granted ≡ true → Reaches test s role granted

-- a membership that has the SET option
abbrev pub has_set : Membership → Bool
has_set m = m.set

-- a membership, whatever its options
abbrev pub is_any : Membership → Bool
is_any m = true

-- ---- what a login may set

-- itself, each role that it reaches through memberships whose SET option is true, and as a superuser any role
abbrev pub MaySet : State → List ℕ → List ℕ → Type 0
MaySet s login role = ((attributes_of s login).superuser ≡ true) ⊎ Reaches has_set s login role

-- ---- who is a member

-- a path of one or more memberships leads from the member to the role, whatever their options
abbrev pub IsMember : State → List ℕ → List ℕ → Type 0
IsMember s member role = (first : List ℕ) × (one_of (granted_where is_any (held_by s member)) first ≡ true) × Reaches is_any s first role

-- ---- who may grant a membership

-- the role is a direct member of the other, with the ADMIN option
abbrev pub holds_admin : State → List ℕ → List ℕ → Bool
holds_admin s member role = list_any (λ m. bytes_eq m.role role && m.admin) (held_by s member)

-- a superuser, and a role that has the privileges of a member who holds ADMIN on the role that is granted
abbrev pub MayGrant : State → List ℕ → List ℕ → Type 0
MayGrant s role granted = ((attributes_of s role).superuser ≡ true) ⊎ ((member : List ℕ) × Inherits s role member × (holds_admin s member granted ≡ true))

-- ---- the same as tests

-- the membership, handing on privileges where it passes the test
abbrev pub marked : (Membership → Bool) → Membership → Membership
marked test m = record m { inherit = test m }

-- the state where those memberships, and no others, hand on privileges
abbrev pub inheriting : (Membership → Bool) → State → State
inheriting test s = record s { members = map (λ entry. (entry.0, map (marked test) entry.1)) s.members }

-- the role and those that it reaches through memberships that pass the test, each once
abbrev pub reached_where : (Membership → Bool) → State → List ℕ → List (List ℕ)
reached_where test s role = reached_of (inheriting test s) role

-- a login may set a role where it is a superuser, or reaches it over memberships with SET (PostgreSQL manual, SET ROLE)
abbrev pub can_set : State → List ℕ → List ℕ → Bool
can_set s login role = (attributes_of s login).superuser || one_of (reached_where has_set s login) role

-- one role is a member of another over one membership or more, whatever their options
abbrev pub is_member : State → List ℕ → List ℕ → Bool
is_member s member role = list_any (λ first. one_of (reached_where is_any s first) role) (granted_where is_any (held_by s member))

-- a role may grant another where it is a superuser, or has the privileges of one that has ADMIN on it (PostgreSQL manual, GRANT)
abbrev pub may_grant : State → List ℕ → List ℕ → Bool
may_grant s role granted = (attributes_of s role).superuser || list_any (λ member. holds_admin s member granted) (walked_by s role)

-- a role may not become a member of itself, nor of one that is its member already
abbrev pub closes_circle : State → List ℕ → List ℕ → Bool
closes_circle s granted member = bytes_eq granted member || is_member s granted member

-- ---- what is read to tell it

-- the role and each that is met, with its memberships
abbrev pub path_reads : (Membership → Bool) → State → List ℕ → List Object
path_reads test s role = walk_reads (reached_where test s role)

-- which roles a login may set: a superuser's memberships aren't asked
abbrev pub can_set_reads : State → List ℕ → List Object
can_set_reads s login = o.Role login ∷ (if (attributes_of s login).superuser then [] else path_reads has_set s login)

-- whether a membership closes a circle: the whole walk up from the role that is granted
abbrev pub circle_reads : State → List ℕ → List Object
circle_reads s granted = path_reads is_any s granted
