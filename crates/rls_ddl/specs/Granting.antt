-- GRANT and REVOKE (PostgreSQL manual, GRANT and REVOKE), of privileges on tables and on columns of them, and of roles: the
-- current role asks, and what is asked is written.
use Rattle.std.specs.Prelude.{List, Ok}
use Rattle.rls_guard.specs.rls_catalog.specs.declared.change.Change.{Change}
use Rattle.rls_statement.specs.{declared.statement.GrantPrivileges.GrantPrivileges, declared.statement.GrantRoles.GrantRoles, declared.statement.RevokePrivileges.RevokePrivileges, declared.statement.RevokeRoles.RevokeRoles}
use Rattle.rls_guard.specs.rls_source.specs.Askings.{Asking, known, followed_by}
use Rattle.rls_guard.specs.rls_role.specs.Granting as members
use Rattle.rls_guard.specs.rls_role.specs.Revoking as members_left
use Rattle.rls_guard.specs.rls_grant.specs.Granting as privileges
use Rattle.rls_guard.specs.rls_grant.specs.Revoking as privileges_left
use Rattle.rls_guard.specs.{declared.context.Ctx.Ctx, declared.effect.Effect.Effect, Effects.writes}

-- the changes are written
abbrev pub written : Asking (List Change) → Asking Effect
written changes = followed_by changes (λ delta. known (Ok (writes delta)))

-- GRANT of privileges as a statement
abbrev pub grant : Ctx → GrantPrivileges → Asking Effect
grant ctx asked = written (privileges.grant ctx.role asked)

-- REVOKE of privileges as a statement
abbrev pub revoke : Ctx → RevokePrivileges → Asking Effect
revoke ctx asked = written (privileges_left.revoke ctx.role asked)

-- GRANT of roles as a statement
abbrev pub grant_roles : Ctx → GrantRoles → Asking Effect
grant_roles ctx asked = written (members.grant_member ctx.role asked)

-- REVOKE of roles as a statement
abbrev pub revoke_roles : Ctx → RevokeRoles → Asking Effect
revoke_roles ctx asked = written (members_left.revoke_member ctx.role asked)
