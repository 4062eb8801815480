-- What each statement leaves of a state, by the laws of the statements: sound rows, changes that fit, and free numbers.
use Rattle.std.specs.Prelude.{refl, ℕ, List, [], ◌∷◌, Result, Ok, Err}
use Rattle.std.specs.List.{AllByRecursion}
use Rattle.std.proofs.Common.{arith}
use Rattle.rls_value.specs.{declared.refusal.Refusal.Refusal, Giving.and_then}
use Rattle.rls_guard.specs.rls_catalog.specs.{declared.change.Change.Change, Bases.FitsAll, SoundRows.RowsAreSound, State.State, Changed.changed, Changed.changed_all}
use Rattle.rls_statement.specs.{declared.changing.Delete.Delete, declared.changing.Update.Update, declared.statement.AlterPolicy.AlterPolicy, declared.statement.AlterRole.AlterRole, declared.statement.AlterTable.AlterTable, declared.statement.CreatePolicy.CreatePolicy, declared.statement.CreateRole.CreateRole, declared.statement.CreateTable.CreateTable, declared.statement.DropPolicy.DropPolicy, declared.statement.GrantPrivileges.GrantPrivileges, declared.statement.GrantRoles.GrantRoles, declared.statement.Insert.Insert, declared.statement.RevokePrivileges.RevokePrivileges, declared.statement.RevokeRoles.RevokeRoles, declared.statement.Select.Select, declared.statement.SetRole.SetRole, declared.statement.Statement.Statement, Tags.tag_of}
use Rattle.rls_statement.specs.declared.statement.Statement.TheVariants as statement
use Rattle.rls_guard.specs.{declared.context.Ctx.Ctx, declared.effect.Effect.Effect, Effects.changes_of, Effects.shown, Keeping.IfDone, Keeping.IsNoRow, Keeping.KeepsRowsSound, Keeping.KeepsTables, Keeping.LeavesRows, Keeping.TablesStay}
use Rattle.rls_guard.specs.declared.effect.Effect.TheVariants as effect
use Rattle.rls_ddl.specs.{AlteringPolicies.alter_policy, AlteringRoles.alter_role, AlteringTables.alter_table, CreatingPolicies.create_policy, CreatingRoles.create_role, CreatingTables.create_table, DroppingPolicies.drop_policy, SettingRoles.set_role, Granting.grant, Granting.grant_roles, Granting.revoke, Granting.revoke_roles}
use Rattle.rls_dml.specs.{Deleting.delete, Fitting.NumbersFree, Inserting.insert, Selecting.select, Updating.update, NextRows.AllFree, NextRows.InRange, NextRows.NumberOn}
use Rattle.rls_access.specs.{Leaving.GoOn, Statements.done_by, Statements.effect_in, Statements.mode_or_refused, Statements.step}

-- ---- the laws

-- statements that write no row
pub record WriteNoRows : Type 0 where
  pub create_role : (ctx : Ctx) (asked : CreateRole) → LeavesRows (create_role ctx asked)
  pub alter_role : (ctx : Ctx) (asked : AlterRole) → LeavesRows (alter_role ctx asked)
  pub create_table : (ctx : Ctx) (asked : CreateTable) → LeavesRows (create_table ctx asked)
  pub alter_table : (ctx : Ctx) (asked : AlterTable) → LeavesRows (alter_table ctx asked)
  pub create_policy : (ctx : Ctx) (asked : CreatePolicy) → LeavesRows (create_policy ctx asked)
  pub alter_policy : (ctx : Ctx) (asked : AlterPolicy) → LeavesRows (alter_policy ctx asked)
  pub drop_policy : (ctx : Ctx) (asked : DropPolicy) → LeavesRows (drop_policy ctx asked)
  pub grant : (ctx : Ctx) (asked : GrantPrivileges) → LeavesRows (grant ctx asked)
  pub grant_roles : (ctx : Ctx) (asked : GrantRoles) → LeavesRows (grant_roles ctx asked)
  pub revoke : (ctx : Ctx) (asked : RevokePrivileges) → LeavesRows (revoke ctx asked)
  pub revoke_roles : (ctx : Ctx) (asked : RevokeRoles) → LeavesRows (revoke_roles ctx asked)
  pub set_role : (ctx : Ctx) (asked : SetRole) → LeavesRows (set_role ctx asked)
  pub select : (ctx : Ctx) (asked : Select) → LeavesRows (select ctx asked)

-- statements that write rows
pub record KeepRows : Type 0 where
  pub insert : (ctx : Ctx) (asked : Insert) → KeepsRowsSound (insert ctx asked)
  pub update : (ctx : Ctx) (asked : Update) → KeepsRowsSound (update ctx asked)
  pub delete : (ctx : Ctx) (asked : Delete) → KeepsRowsSound (delete ctx asked)

-- they leave the tables
pub record KeepEachTable : Type 0 where
  pub insert : (ctx : Ctx) (asked : Insert) → KeepsTables (insert ctx asked)
  pub update : (ctx : Ctx) (asked : Update) → KeepsTables (update ctx asked)
  pub delete : (ctx : Ctx) (asked : Delete) → KeepsTables (delete ctx asked)

-- a statement whose changes go on
abbrev pub GoesOn : State → Ctx → Result Effect Refusal → Type 0
GoesOn s ctx given = IfDone given (GoOn s ctx)

-- those of the statements that write rows do
pub record RowsGoOn : Type 0 where
  pub insert : (s : State) (ctx : Ctx) (asked : Insert) → NumbersFree s asked.table ctx.txn ctx.next → GoesOn s ctx ((insert ctx asked).in_state s).gives
  pub update : (s : State) (ctx : Ctx) (asked : Update) → RowsAreSound s → GoesOn s ctx ((update ctx asked).in_state s).gives
  pub delete : (s : State) (ctx : Ctx) (asked : Delete) → RowsAreSound s → GoesOn s ctx ((delete ctx asked).in_state s).gives

-- ---- one statement

-- it holds behind a step, whatever the step gives
done_then : {A : Type 0} (fact : List Change → Type 0) (given : Result A Refusal) (next : A → Result Effect Refusal) → ((a : A) → IfDone (next a) fact) → IfDone (and_then given next) fact
done_then fact (Ok a) next all = all a
done_then fact (Err refusal) next all = tt

-- what holds of the changes lets more hold of them
done_more : (fact more : List Change → Type 0) (given : Result Effect Refusal) → ((changes : List Change) → fact changes → more changes) → IfDone given fact → IfDone given more
done_more fact more (Ok (effect.Done reply decisions changes role)) all is = all changes is
done_more fact more (Ok (effect.Refused refusal decisions)) all is = tt
done_more fact more (Err refusal) all is = tt

-- three facts of the changes
pub all_go_on : (s : State) (ctx : Ctx) (given : Result Effect Refusal) → IfDone given (FitsAll s) → IfDone given (NumberOn ctx.txn ctx.next) → IfDone given (InRange ctx.next) → GoesOn s ctx given
all_go_on s ctx (Ok (effect.Done reply decisions changes role)) fit numbered in_range = record { fit = fit; numbered = numbered; in_range = in_range }
all_go_on s ctx (Ok (effect.Refused refusal decisions)) fit numbered in_range = tt
all_go_on s ctx (Err refusal) fit numbered in_range = tt

-- it holds of what the effect changes, nothing where it is refused
of_effect : (fact : List Change → Type 0) (given : Result Effect Refusal) → fact [] → IfDone given fact → fact (changes_of (shown given))
of_effect fact (Ok (effect.Done reply decisions changes role)) none is = is
of_effect fact (Ok (effect.Refused refusal decisions)) none is = none
of_effect fact (Err refusal) none is = none

-- no changes leave the next number
none_in_range : (next : ℕ) → InRange next []
none_in_range next = λ within. omega (arith, within)

-- changes of no rows do
no_rows_go_on : (s : State) (ctx : Ctx) (changes : List Change) → AllByRecursion IsNoRow changes → GoOn s ctx changes
no_rows_go_on s ctx [] none = record { fit = tt; numbered = tt; in_range = none_in_range ctx.next }
no_rows_go_on s ctx (Change.Role name def ∷ changes) none = let more = no_rows_go_on (changed s (Change.Role name def)) ctx changes none.1 in record { fit = (refl, more.fit); numbered = (tt, more.numbered); in_range = more.in_range }
no_rows_go_on s ctx (Change.Members name content ∷ changes) none = let more = no_rows_go_on (changed s (Change.Members name content)) ctx changes none.1 in record { fit = (refl, more.fit); numbered = (tt, more.numbered); in_range = more.in_range }
no_rows_go_on s ctx (Change.Table name def ∷ changes) none = let more = no_rows_go_on (changed s (Change.Table name def)) ctx changes none.1 in record { fit = (refl, more.fit); numbered = (tt, more.numbered); in_range = more.in_range }
no_rows_go_on s ctx (Change.Grants name content ∷ changes) none = let more = no_rows_go_on (changed s (Change.Grants name content)) ctx changes none.1 in record { fit = (refl, more.fit); numbered = (tt, more.numbered); in_range = more.in_range }
no_rows_go_on s ctx (Change.Policies name content ∷ changes) none = let more = no_rows_go_on (changed s (Change.Policies name content)) ctx changes none.1 in record { fit = (refl, more.fit); numbered = (tt, more.numbered); in_range = more.in_range }
no_rows_go_on s ctx (Change.Row change ∷ changes) none = absurd none.0

none_goes_on : (s : State) (ctx : Ctx) (given : Result Effect Refusal) → IfDone given (AllByRecursion IsNoRow) → GoesOn s ctx given
none_goes_on s ctx given none = done_more (AllByRecursion IsNoRow) (GoOn s ctx) given (no_rows_go_on s ctx) none

-- ---- all statements

each_sound : WriteNoRows → KeepRows → (ctx : Ctx) (asked : Statement) → KeepsRowsSound (done_by ctx asked)
each_sound none rows ctx (statement.CreateRole asked) = (none.create_role ctx asked).sound
each_sound none rows ctx (statement.AlterRole asked) = (none.alter_role ctx asked).sound
each_sound none rows ctx (statement.CreateTable asked) = (none.create_table ctx asked).sound
each_sound none rows ctx (statement.AlterTable asked) = (none.alter_table ctx asked).sound
each_sound none rows ctx (statement.CreatePolicy asked) = (none.create_policy ctx asked).sound
each_sound none rows ctx (statement.AlterPolicy asked) = (none.alter_policy ctx asked).sound
each_sound none rows ctx (statement.DropPolicy asked) = (none.drop_policy ctx asked).sound
each_sound none rows ctx (statement.Grant asked) = (none.grant ctx asked).sound
each_sound none rows ctx (statement.GrantRoles asked) = (none.grant_roles ctx asked).sound
each_sound none rows ctx (statement.Revoke asked) = (none.revoke ctx asked).sound
each_sound none rows ctx (statement.RevokeRoles asked) = (none.revoke_roles ctx asked).sound
each_sound none rows ctx (statement.SetRole asked) = (none.set_role ctx asked).sound
each_sound none rows ctx (statement.Insert asked) = rows.insert ctx asked
each_sound none rows ctx (statement.Update asked) = rows.update ctx asked
each_sound none rows ctx (statement.Delete asked) = rows.delete ctx asked
each_sound none rows ctx (statement.Select asked) = (none.select ctx asked).sound
each_sound none rows ctx (statement.Transaction asked) = λ s sound. tt

-- a statement leaves sound rows sound
pub step_sound : WriteNoRows → KeepRows → (s : State) (ctx : Ctx) (asked : Statement) → RowsAreSound s → RowsAreSound (changed_all s (changes_of (effect_in s ctx asked)))
step_sound none rows s ctx asked sound =
    let fact : List Change → Type 0 = λ changes. RowsAreSound (changed_all s changes) in
    of_effect fact ((step ctx asked).in_state s).gives sound
    (done_then fact (mode_or_refused ctx.mode (tag_of asked)) (λ _. ((done_by ctx asked).in_state s).gives) (λ _. each_sound none rows ctx asked s sound))

each_tables : WriteNoRows → KeepEachTable → (ctx : Ctx) (asked : Statement) → KeepsTables (done_by ctx asked)
each_tables none rows ctx (statement.CreateRole asked) = (none.create_role ctx asked).tables
each_tables none rows ctx (statement.AlterRole asked) = (none.alter_role ctx asked).tables
each_tables none rows ctx (statement.CreateTable asked) = (none.create_table ctx asked).tables
each_tables none rows ctx (statement.AlterTable asked) = (none.alter_table ctx asked).tables
each_tables none rows ctx (statement.CreatePolicy asked) = (none.create_policy ctx asked).tables
each_tables none rows ctx (statement.AlterPolicy asked) = (none.alter_policy ctx asked).tables
each_tables none rows ctx (statement.DropPolicy asked) = (none.drop_policy ctx asked).tables
each_tables none rows ctx (statement.Grant asked) = (none.grant ctx asked).tables
each_tables none rows ctx (statement.GrantRoles asked) = (none.grant_roles ctx asked).tables
each_tables none rows ctx (statement.Revoke asked) = (none.revoke ctx asked).tables
each_tables none rows ctx (statement.RevokeRoles asked) = (none.revoke_roles ctx asked).tables
each_tables none rows ctx (statement.SetRole asked) = (none.set_role ctx asked).tables
each_tables none rows ctx (statement.Insert asked) = rows.insert ctx asked
each_tables none rows ctx (statement.Update asked) = rows.update ctx asked
each_tables none rows ctx (statement.Delete asked) = rows.delete ctx asked
each_tables none rows ctx (statement.Select asked) = (none.select ctx asked).tables
each_tables none rows ctx (statement.Transaction asked) = λ s sound. tt

-- a statement leaves the tables
pub step_tables : WriteNoRows → KeepEachTable → (s : State) (ctx : Ctx) (asked : Statement) → RowsAreSound s → TablesStay s (changes_of (effect_in s ctx asked))
step_tables none rows s ctx asked sound =
    of_effect (TablesStay s) ((step ctx asked).in_state s).gives (λ name def there. (def, there, refl))
    (done_then (TablesStay s) (mode_or_refused ctx.mode (tag_of asked)) (λ _. ((done_by ctx asked).in_state s).gives) (λ _. each_tables none rows ctx asked s sound))

each_goes_on : WriteNoRows → RowsGoOn → (s : State) (ctx : Ctx) (asked : Statement) → RowsAreSound s → AllFree s ctx.txn ctx.next → GoesOn s ctx ((done_by ctx asked).in_state s).gives
each_goes_on none rows s ctx (statement.CreateRole asked) sound free = none_goes_on s ctx ((create_role ctx asked).in_state s).gives ((none.create_role ctx asked).writes_none s)
each_goes_on none rows s ctx (statement.AlterRole asked) sound free = none_goes_on s ctx ((alter_role ctx asked).in_state s).gives ((none.alter_role ctx asked).writes_none s)
each_goes_on none rows s ctx (statement.CreateTable asked) sound free = none_goes_on s ctx ((create_table ctx asked).in_state s).gives ((none.create_table ctx asked).writes_none s)
each_goes_on none rows s ctx (statement.AlterTable asked) sound free = none_goes_on s ctx ((alter_table ctx asked).in_state s).gives ((none.alter_table ctx asked).writes_none s)
each_goes_on none rows s ctx (statement.CreatePolicy asked) sound free = none_goes_on s ctx ((create_policy ctx asked).in_state s).gives ((none.create_policy ctx asked).writes_none s)
each_goes_on none rows s ctx (statement.AlterPolicy asked) sound free = none_goes_on s ctx ((alter_policy ctx asked).in_state s).gives ((none.alter_policy ctx asked).writes_none s)
each_goes_on none rows s ctx (statement.DropPolicy asked) sound free = none_goes_on s ctx ((drop_policy ctx asked).in_state s).gives ((none.drop_policy ctx asked).writes_none s)
each_goes_on none rows s ctx (statement.Grant asked) sound free = none_goes_on s ctx ((grant ctx asked).in_state s).gives ((none.grant ctx asked).writes_none s)
each_goes_on none rows s ctx (statement.GrantRoles asked) sound free = none_goes_on s ctx ((grant_roles ctx asked).in_state s).gives ((none.grant_roles ctx asked).writes_none s)
each_goes_on none rows s ctx (statement.Revoke asked) sound free = none_goes_on s ctx ((revoke ctx asked).in_state s).gives ((none.revoke ctx asked).writes_none s)
each_goes_on none rows s ctx (statement.RevokeRoles asked) sound free = none_goes_on s ctx ((revoke_roles ctx asked).in_state s).gives ((none.revoke_roles ctx asked).writes_none s)
each_goes_on none rows s ctx (statement.SetRole asked) sound free = none_goes_on s ctx ((set_role ctx asked).in_state s).gives ((none.set_role ctx asked).writes_none s)
each_goes_on none rows s ctx (statement.Insert asked) sound free = rows.insert s ctx asked (free asked.table)
each_goes_on none rows s ctx (statement.Update asked) sound free = rows.update s ctx asked sound
each_goes_on none rows s ctx (statement.Delete asked) sound free = rows.delete s ctx asked sound
each_goes_on none rows s ctx (statement.Select asked) sound free = none_goes_on s ctx ((select ctx asked).in_state s).gives ((none.select ctx asked).writes_none s)
each_goes_on none rows s ctx (statement.Transaction asked) sound free = tt

-- the changes of a statement go on
pub step_goes_on : WriteNoRows → RowsGoOn → (s : State) (ctx : Ctx) (asked : Statement) → RowsAreSound s → AllFree s ctx.txn ctx.next → GoOn s ctx (changes_of (effect_in s ctx asked))
step_goes_on none rows s ctx asked sound free =
    of_effect (GoOn s ctx) ((step ctx asked).in_state s).gives (record { fit = tt; numbered = tt; in_range = none_in_range ctx.next })
    (done_then (GoOn s ctx) (mode_or_refused ctx.mode (tag_of asked)) (λ _. ((done_by ctx asked).in_state s).gives) (λ _. each_goes_on none rows s ctx asked sound free))
