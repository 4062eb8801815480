-- Membership (PostgreSQL manual, 22.3, "Role Membership"): a role has the privileges of itself and, transitively, of
-- each role that it is a member of through memberships whose INHERIT option is true. A superuser has those of every
-- role. Neither SUPERUSER nor another attribute is inherited.
use Rattle.std.specs.Prelude.{◌≡◌, ℕ, zero, suc, List, [], ◌∷◌, ◌++◌, Option, Some, None, Bool, true, false, ◌||◌, if◌then◌else◌, map, filter, length, slice_get}
use Rattle.std.specs.List.{flat_map}
use Rattle.rls_expr.specs.rls_value.specs.Names.{one_of}
use Rattle.rls_expr.specs.rls_value.specs.declared.object.Object.{Object}
use Rattle.rls_expr.specs.rls_value.specs.declared.object.Object.TheVariants as o
use Rattle.rls_catalog.specs.declared.role.RoleDef.{RoleDef}
use Rattle.rls_catalog.specs.declared.role.Membership.{Membership}
use Rattle.rls_catalog.specs.State.{State, role_of, members_of}

-- no attribute
abbrev pub nobody : RoleDef
nobody = record { superuser = false; login = false; bypass_rls = false }

-- those of a role that is there
abbrev pub attributes_in : Option RoleDef → RoleDef
attributes_in (Some def) = def
attributes_in None = nobody

-- the role's attributes; one that is absent has none
abbrev pub attributes_of : State → List ℕ → RoleDef
attributes_of s role = attributes_in (role_of s role)

-- the roles of the memberships whose INHERIT option is true
abbrev pub granted_inherited : List Membership → List (List ℕ)
granted_inherited memberships = map (λ m. m.role) (filter (λ m. m.inherit) memberships)

-- the roles of those memberships, of a role that is there
abbrev pub inherited_if : Option RoleDef → List Membership → List (List ℕ)
inherited_if (Some def) memberships = granted_inherited memberships
inherited_if None memberships = []

-- the roles whose privileges the role has by one membership; one that is absent has none
abbrev pub inherited_by : State → List ℕ → List (List ℕ)
inherited_by s role = inherited_if (role_of s role) (members_of s role)

-- the least reflexive, transitive relation that contains the memberships whose INHERIT option is true
pub data Inherits (s : State) (role : List ℕ) : List ℕ → Type 0 where
  Itself : Inherits s role role
  Through : (between granted : List ℕ) → Inherits s role between → one_of (inherited_by s between) granted ≡ true → Inherits s role granted

-- those of the names that aren't seen yet, each once
abbrev pub fresh : List (List ℕ) → List (List ℕ) → List (List ℕ)
fresh seen [] = []
fresh seen (name ∷ names) = if one_of seen name then fresh seen names else (name ∷ fresh (seen ++ name ∷ []) names)

-- the names, after a visit of one of them: what it inherits is added, and the walk goes on
abbrev pub visited : (List (List ℕ) → List (List ℕ)) → State → List (List ℕ) → Option (List ℕ) → List (List ℕ)
visited further s names (Some name) = further (names ++ fresh names (inherited_by s name))
visited further s names None = names

-- the roles met in so many visits, from the one at the index on
abbrev pub walk : ℕ → State → List (List ℕ) → ℕ → List (List ℕ)
walk zero s names next = names
walk (suc n) s names next = visited (λ grown. walk n s grown (suc next)) s names (slice_get names next)

-- every role that some role was granted
abbrev pub granted_roles : State → List (List ℕ)
granted_roles s = flat_map (λ entry. map (λ m. m.role) entry.1) s.members

-- each of the names is among the others
abbrev pub Within : List (List ℕ) → List (List ℕ) → Type 0
Within names others = (name : List ℕ) → one_of names name ≡ true → one_of others name ≡ true

-- the role and those whose privileges it inherits, each once
unfoldable pub reached_of : State → List ℕ → List (List ℕ)
reached_of s role = walk (suc (length (granted_roles s))) s (role ∷ []) 0

-- what a visit reads
abbrev pub visit_reads : List ℕ → List Object
visit_reads name = o.Role name ∷ o.Members name ∷ []

-- what a walk reads that met these
abbrev pub walk_reads : List (List ℕ) → List Object
walk_reads names = flat_map visit_reads names

-- the roles that it takes to tell whose privileges the role has: none for a superuser
abbrev pub walked_by : State → List ℕ → List (List ℕ)
walked_by s role = if (attributes_of s role).superuser then [] else reached_of s role

-- whether the role has the privileges of the other: it is a superuser, or reaches it
abbrev pub has_privileges_of : State → List ℕ → List ℕ → Bool
has_privileges_of s role other = (attributes_of s role).superuser || one_of (walked_by s role) other

-- what it reads to tell whose privileges the role has
abbrev pub effective_roles_reads : State → List ℕ → List Object
effective_roles_reads s role = o.Role role ∷ walk_reads (walked_by s role)
