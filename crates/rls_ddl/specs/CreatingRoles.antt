-- CREATE ROLE (PostgreSQL manual): a role of that name may not be there; only a superuser makes one; an attribute that
-- isn't written is not given.
use Rattle.std.specs.Prelude.{ℕ, List, [], ◌∷◌, false, Ok, Err, is_some, unwrap_or}
use Rattle.rls_value.specs.declared.refusal.Refusal.TheVariants.{Duplicate}
use Rattle.rls_value.specs.declared.refusal.DefinedKind.TheVariants as kind
use Rattle.rls_guard.specs.rls_catalog.specs.declared.role.RoleDef.{RoleDef}
use Rattle.rls_guard.specs.rls_catalog.specs.declared.change.Change.TheVariants as change
use Rattle.rls_statement.specs.{declared.statement.Attributes.Attributes, declared.statement.CreateRole.CreateRole}
use Rattle.rls_guard.specs.{declared.context.Ctx.Ctx, Checks.superuser_or_denied, declared.effect.Effect.Effect, Effects.writes}
use Rattle.rls_guard.specs.rls_source.specs.Askings.{Asking, known, asked_if, followed_by}
use Rattle.rls_guard.specs.rls_source.specs.Asked.{asked_role}

-- an attribute that isn't written is false
abbrev pub role_with : Attributes → RoleDef
role_with given = record { superuser = unwrap_or given.superuser false; login = unwrap_or given.login false; bypass_rls = unwrap_or given.bypass_rls false }

-- the role has to be a superuser
unfoldable pub role_made : List ℕ → CreateRole → Asking Effect
role_made role create = followed_by (superuser_or_denied role create.name) (λ _.
    known (Ok (writes (change.Role create.name (role_with create.attributes) ∷ []))))

-- the name may not be taken
abbrev pub create_role : Ctx → CreateRole → Asking Effect
create_role ctx create = followed_by (asked_role create.name) (λ found.
    asked_if (is_some found) (known (Err (Duplicate kind.Role create.name))) (role_made ctx.role create))
