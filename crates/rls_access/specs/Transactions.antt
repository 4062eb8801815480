-- How a transaction begins, who may begin one, and what its statements are run in.
use Rattle.std.specs.Prelude.{ℕ, List, Option, Some, None, Bool, false, ◌&&◌, is_some}
use Rattle.rls_guard.specs.rls_catalog.specs.{declared.role.RoleDef.RoleDef, State.State, State.role_of}
use Rattle.rls_guard.specs.{declared.context.Ctx.Ctx, declared.context.Mode.Mode, declared.effect.Effect.Effect, Effects.changes_of}
use Rattle.rls_dml.specs.NextRows.{next_row}
use Rattle.rls_access.specs.Statements.{role_after}

-- what a transaction begins as: the role that its session began as, the current one, and whether it may write
pub record Begin : Type 0 where
  pub login : List ℕ
  pub role : List ℕ
  pub mode : Mode

-- a role that is there may log in where it has LOGIN (PostgreSQL manual, CREATE ROLE)
abbrev pub has_login : Option RoleDef → Bool
has_login (Some def) = def.login
has_login None = false

-- whether a transaction may begin so on a snapshot: the login has LOGIN, and the current role is there
abbrev pub may_begin : State → Begin → Bool
may_begin snapshot begin = has_login (role_of snapshot begin.login) && is_some (role_of snapshot begin.role)

-- what its first statement is run in: the transaction's number, and no row yet
abbrev pub first_ctx : ℕ → Begin → Ctx
first_ctx txn begin = record { txn = txn; login = begin.login; role = begin.role; mode = begin.mode; next = 0 }

-- what the next statement is run in: the role that this one sets, else the one before, and the number of the next new row
abbrev pub ctx_after : Ctx → Effect → Ctx
ctx_after ctx effect = record ctx { role = role_after ctx.role effect; next = next_row ctx.next (changes_of effect) }
