-- Whose privileges a role has, in the subject's words (PostgreSQL manual, 22.3, "Role Membership"). The test that
-- computes it is true exactly there (`has_privileges_means`).
use Rattle.std.specs.Prelude.{◌≡◌, ◌⊎◌, ℕ, List, true}
use Rattle.rls_catalog.specs.State.{State}
use Rattle.rls_catalog.specs.Membership.{attributes_of, Inherits}

-- the role is a superuser itself, or reaches the other through memberships whose INHERIT option is true
abbrev pub HasPrivilegesOf : State → List ℕ → List ℕ → Type 0
HasPrivilegesOf s role other = ((attributes_of s role).superuser ≡ true) ⊎ Inherits s role other
