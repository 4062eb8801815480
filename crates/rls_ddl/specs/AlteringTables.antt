-- ALTER TABLE .. ENABLE, DISABLE, FORCE and NO FORCE ROW LEVEL SECURITY (PostgreSQL manual, ALTER TABLE): only a role with
-- the owner's privileges. The policies stay, also where row security is off.
use Rattle.std.specs.Prelude.{[], ◌∷◌, Ok, true, false}
use Rattle.rls_expr.specs.declared.table.TableDef.{TableDef}
use Rattle.rls_guard.specs.rls_catalog.specs.declared.change.Change.TheVariants as change
use Rattle.rls_statement.specs.declared.statement.RowSecurity.{RowSecurity}
use Rattle.rls_statement.specs.declared.statement.RowSecurity.TheVariants.{Enable, Disable, Force, NoForce}
use Rattle.rls_statement.specs.declared.statement.AlterTable.{AlterTable}
use Rattle.rls_guard.specs.declared.context.Ctx.{Ctx}
use Rattle.rls_guard.specs.declared.effect.Effect.{Effect}
use Rattle.rls_guard.specs.rls_source.specs.Askings.{Asking, known, followed_by}
use Rattle.rls_guard.specs.rls_source.specs.Named.{table_or_undefined}
use Rattle.rls_guard.specs.RolePrivileges.{ownership}
use Rattle.rls_guard.specs.Effects.{writes}

-- the table with its row security changed: whether it is on, or whether it binds the owner too
abbrev pub altered : RowSecurity → TableDef → TableDef
altered Enable table = record table { enabled = true }
altered Disable table = record table { enabled = false }
altered Force table = record table { forced = true }
altered NoForce table = record table { forced = false }

-- the table has to be there, then the role to have its owner's privileges
abbrev pub alter_table : Ctx → AlterTable → Asking Effect
alter_table ctx alter = followed_by (table_or_undefined alter.table) (λ table.
    followed_by (ownership ctx.role alter.table table) (λ _.
    known (Ok (writes (change.Table alter.table (altered alter.change table) ∷ [])))))
