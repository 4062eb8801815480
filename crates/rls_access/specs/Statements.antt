-- What a statement comes to in a state, with what it reads: whether its transaction may run it, and then what its own
-- definition says.
use Rattle.std.specs.Prelude.{ℕ, List, Some, None, Result, Ok, Err}
use Rattle.rls_value.specs.{declared.refusal.Refusal.Refusal, declared.refusal.Refusal.TheVariants.TxnState, declared.refusal.TxnState.TheVariants.AlreadyInProgress, declared.refusal.TxnState.TheVariants.ReadOnly, declared.tag.Tag.Tag}
use Rattle.rls_value.specs.declared.tag.Tag.TheVariants as tag
use Rattle.rls_guard.specs.rls_catalog.specs.State.{State}
use Rattle.rls_statement.specs.{declared.statement.Statement.Statement, Tags.tag_of}
use Rattle.rls_statement.specs.declared.statement.Statement.TheVariants as statement
use Rattle.rls_guard.specs.{declared.context.Ctx.Ctx, declared.context.Mode.Mode, declared.effect.Effect.Effect, Effects.shown, declared.context.Mode.TheVariants.Write, declared.context.Mode.TheVariants.Read}
use Rattle.rls_guard.specs.declared.effect.Effect.TheVariants as effect
use Rattle.rls_guard.specs.rls_source.specs.Askings.{Asking, known, followed_by}
use Rattle.rls_ddl.specs.{CreatingRoles.create_role, AlteringRoles.alter_role, SettingRoles.set_role, CreatingTables.create_table, AlteringTables.alter_table, CreatingPolicies.create_policy, AlteringPolicies.alter_policy, DroppingPolicies.drop_policy}
use Rattle.rls_ddl.specs.Granting.{grant, grant_roles, revoke, revoke_roles}
use Rattle.rls_dml.specs.{Inserting.insert, Updating.update, Deleting.delete, Selecting.select}

-- a transaction that only reads takes SELECT, SET ROLE and RESET ROLE alone; of what begins or ends a block it isn't the mode that says no
abbrev pub mode_or_refused : Mode → Tag → Result (Unit {0}) Refusal
mode_or_refused Write tag = Ok tt
mode_or_refused Read tag.Select = Ok tt
mode_or_refused Read tag.Set = Ok tt
mode_or_refused Read tag.Reset = Ok tt
mode_or_refused Read tag.Begin = Ok tt
mode_or_refused Read tag.Commit = Ok tt
mode_or_refused Read tag.Rollback = Ok tt
mode_or_refused Read tag = Err (TxnState (ReadOnly tag))

-- what begins or ends a block is refused, whatever it is: a transaction is in progress
abbrev pub in_progress : Result Effect Refusal
in_progress = Err (TxnState AlreadyInProgress)

-- what each statement comes to
abbrev pub done_by : Ctx → Statement → Asking Effect
done_by ctx (statement.CreateRole asked) = create_role ctx asked
done_by ctx (statement.AlterRole asked) = alter_role ctx asked
done_by ctx (statement.CreateTable asked) = create_table ctx asked
done_by ctx (statement.AlterTable asked) = alter_table ctx asked
done_by ctx (statement.CreatePolicy asked) = create_policy ctx asked
done_by ctx (statement.AlterPolicy asked) = alter_policy ctx asked
done_by ctx (statement.DropPolicy asked) = drop_policy ctx asked
done_by ctx (statement.Grant asked) = grant ctx asked
done_by ctx (statement.GrantRoles asked) = grant_roles ctx asked
done_by ctx (statement.Revoke asked) = revoke ctx asked
done_by ctx (statement.RevokeRoles asked) = revoke_roles ctx asked
done_by ctx (statement.SetRole asked) = set_role ctx asked
done_by ctx (statement.Insert asked) = insert ctx asked
done_by ctx (statement.Update asked) = update ctx asked
done_by ctx (statement.Delete asked) = delete ctx asked
done_by ctx (statement.Select asked) = select ctx asked
done_by ctx (statement.Transaction asked) = known in_progress

-- the mode comes first
abbrev pub step : Ctx → Statement → Asking Effect
step ctx asked = followed_by (known (mode_or_refused ctx.mode (tag_of asked))) (λ _. done_by ctx asked)

-- what a statement comes to in a state
abbrev pub effect_in : State → Ctx → Statement → Effect
effect_in s ctx asked = shown ((step ctx asked).in_state s).gives

-- the role afterwards: the one that the statement sets, else the one before
abbrev pub role_after : List ℕ → Effect → List ℕ
role_after role (effect.Done reply decisions changes (Some other)) = other
role_after role (effect.Done reply decisions changes None) = role
role_after role (effect.Refused refusal decisions) = role
