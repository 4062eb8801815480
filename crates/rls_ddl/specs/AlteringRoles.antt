-- ALTER ROLE (PostgreSQL manual): the role has to be there; only a superuser alters it; an attribute that isn't written
-- stays.
use Rattle.std.specs.Prelude.{ℕ, List, [], ◌∷◌, Ok, unwrap_or}
use Rattle.rls_guard.specs.rls_catalog.specs.declared.role.RoleDef.{RoleDef}
use Rattle.rls_guard.specs.rls_catalog.specs.declared.change.Change.TheVariants as change
use Rattle.rls_statement.specs.declared.statement.Attributes.{Attributes}
use Rattle.rls_statement.specs.declared.statement.AlterRole.{AlterRole}
use Rattle.rls_guard.specs.declared.context.Ctx.{Ctx}
use Rattle.rls_guard.specs.declared.effect.Effect.{Effect}
use Rattle.rls_guard.specs.rls_source.specs.Askings.{Asking, known, followed_by}
use Rattle.rls_guard.specs.rls_source.specs.Named.{role_or_undefined}
use Rattle.rls_guard.specs.Checks.{superuser_or_denied}
use Rattle.rls_guard.specs.Effects.{writes}

-- the role with the attributes that are written
abbrev pub role_altered : Attributes → RoleDef → RoleDef
role_altered written def =
    record { superuser = unwrap_or written.superuser def.superuser; login = unwrap_or written.login def.login; bypass_rls = unwrap_or written.bypass_rls def.bypass_rls }

-- the current role has to be a superuser
unfoldable pub role_changed : List ℕ → AlterRole → RoleDef → Asking Effect
role_changed role alter def = followed_by (superuser_or_denied role alter.name) (λ _.
    known (Ok (writes (change.Role alter.name (role_altered alter.attributes def) ∷ []))))

-- the role has to be there
abbrev pub alter_role : Ctx → AlterRole → Asking Effect
alter_role ctx alter = followed_by (role_or_undefined alter.name) (λ def. role_changed ctx.role alter def)
