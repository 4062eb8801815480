-- CREATE TABLE and ALTER TABLE keep the rows of a state sound: a new table has no rows, and an altered one keeps its columns
-- and its key.
use Rattle.std.specs.Prelude.{◌≡◌, refl, ℕ, List, [], ◌∷◌, Option, Some, None, Bool, true, false, cond, Result, Ok, Err, if◌then◌else◌, is_some, map, slice_get}
use Rattle.std.specs.List.{All, AllByRecursion}
use Rattle.std.proofs.{Common.ap, Common.sym, Common.subst, Common.◌∙◌, lemmas.Option.none-some}
use Rattle.rls_value.specs.{declared.refusal.Refusal.Refusal, declared.row.RowId.RowId, Giving.and_then, Values.value_at, declared.refusal.Refusal.TheVariants.Duplicate, declared.refusal.Refusal.TheVariants.Undefined, declared.refusal.DefinedKind.DefinedKind, declared.refusal.NameKind.NameKind}
use Rattle.rls_expr.specs.declared.table.TableDef.{TableDef}
use Rattle.rls_guard.specs.rls_catalog.specs.{declared.change.Change.Change, declared.grant.Grant.Grant, declared.stored.Keyed.Keyed, Changed.changed, Changed.changed_all, State.entries_of, State.State, State.table_of, SoundRows.AreSound, SoundRows.AreSoundIn, SoundRows.CarriesKey, SoundRows.RowsAreSound, SoundRows.takes_no_null}
use Rattle.rls_guard.specs.rls_catalog.proofs.{ContentsLaws.is_name, ContentsLaws.same_name, ContentsLaws.table_of_changed, InOrderLaws.none_ascend}
use Rattle.rls_guard.specs.rls_source.specs.{Asked.asked_grants, Asked.table_at, Askings.Asking, Askings.known, Named.found_or}
use Rattle.rls_guard.specs.rls_grant.specs.Granting.{own_grants, with_grants}
use Rattle.rls_guard.specs.{declared.context.Ctx.Ctx, declared.effect.Effect.Effect, Effects.writes, RolePrivileges.ownership, Keeping.IfDone, Keeping.IsNoRow, Keeping.LeavesRows, Keeping.TablesStay}
use Rattle.rls_statement.specs.{declared.statement.AlterTable.AlterTable, declared.statement.CreateTable.CreateTable, declared.statement.RowSecurity.RowSecurity, declared.statement.RowSecurity.TheVariants.Disable, declared.statement.RowSecurity.TheVariants.Enable, declared.statement.RowSecurity.TheVariants.Force, declared.statement.RowSecurity.TheVariants.NoForce}
use Rattle.rls_ddl.{specs.AlteringTables.alter_table, specs.AlteringTables.altered, specs.CreatingTables.create_table, specs.CreatingTables.key_or_undefined, specs.CreatingTables.table_made, specs.CreatingTables.table_unless_taken, specs.CreatingTables.table_with, proofs.PrimaryKeyLaws.key_takes_no_null, proofs.RowsLeftLemmas.done_then}

-- ---- one definition more

-- sound rows stay so where a table gets a definition that its rows are sound in
defined_if : (b : Bool) (s : State) (name : List ℕ) (def : TableDef) (other : List ℕ) → is_name other name ≡ b → RowsAreSound s → AreSound def (entries_of s name)
    → AreSoundIn (cond b (Some def) (table_of s other)) (entries_of s other)
defined_if true s name def other is sound here = subst (λ n. AreSound def (entries_of s n)) (sym (same_name other name is)) here
defined_if false s name def other is sound here = sound other

defined_sound : (s : State) (name : List ℕ) (def : TableDef) → RowsAreSound s → AreSound def (entries_of s name) → RowsAreSound (changed s (Change.Table name def))
defined_sound s name def sound here = λ other.
    subst (λ found. AreSoundIn found (entries_of s other)) (sym (table_of_changed s name def other)) (defined_if (is_name other name) s name def other refl sound here)

-- what a statement on the table of a state has to leave
record Left (s : State) (changes : List Change) : Type 0 where
  writes_none : AllByRecursion IsNoRow changes
  sound : RowsAreSound s → RowsAreSound (changed_all s changes)
  tables : TablesStay s changes

none_written : (s : State) (given : Result Effect Refusal) → IfDone given (Left s) → IfDone given (AllByRecursion IsNoRow)
none_written s (Ok (Effect.Done reply decisions changes role)) left = left.writes_none
none_written s (Ok (Effect.Refused refusal decisions)) left = tt
none_written s (Err refusal) left = tt

left_sound : (s : State) (given : Result Effect Refusal) → RowsAreSound s → IfDone given (Left s) → IfDone given (λ changes. RowsAreSound (changed_all s changes))
left_sound s (Ok (Effect.Done reply decisions changes role)) sound left = left.sound sound
left_sound s (Ok (Effect.Refused refusal decisions)) sound left = tt
left_sound s (Err refusal) sound left = tt

left_tables : (s : State) (given : Result Effect Refusal) → IfDone given (Left s) → IfDone given (TablesStay s)
left_tables s (Ok (Effect.Done reply decisions changes role)) left = left.tables
left_tables s (Ok (Effect.Refused refusal decisions)) left = tt
left_tables s (Err refusal) left = tt

leaves_rows : (asking : Asking Effect) → ((s : State) → IfDone (asking.in_state s).gives (Left s)) → LeavesRows asking
leaves_rows asking all = record {
  writes_none = λ s. none_written s (asking.in_state s).gives (all s);
  sound = λ s sound. left_sound s (asking.in_state s).gives sound (all s);
  tables = λ s sound. left_tables s (asking.in_state s).gives (all s);
}

-- ---- CREATE TABLE

-- no rows are sound
none_sound : (def : TableDef) → All (λ place. takes_no_null (slice_get def.columns place) ≡ true) def.key → AreSound def []
none_sound def takes = record {
  key = takes;
  ordered = none_ascend;
  carried = λ id keyed stands. absurd (none-some keyed stands);
  unique = λ has id other keyed same first second is. absurd (none-some keyed first);
}

-- a table under a name that none has leaves the others
created_at : (b : Bool) (s : State) (name : List ℕ) (def : TableDef) (other : List ℕ) (old : TableDef) → is_name other name ≡ b → table_of s name ≡ None → table_of s other ≡ Some old
    → (later : TableDef) × (cond b (Some def) (table_of s other) ≡ Some later) × (later.key ≡ old.key)
created_at true s name def other old is absent there = absurd (none-some old (sym absent ∙ ap (table_of s) (sym (same_name other name is)) ∙ there))
created_at false s name def other old is absent there = (old, there, refl)

created_sound : (s : State) (name : List ℕ) (def : TableDef) (grants : List Grant) → table_of s name ≡ None → All (λ place. takes_no_null (slice_get def.columns place) ≡ true) def.key
    → Left s (Change.Table name def ∷ Change.Grants name grants ∷ [])
created_sound s name def grants absent takes = record {
  writes_none = (tt, (tt, tt));
  sound = λ sound. defined_sound s name def sound
      (subst (AreSound def) (sym (subst (λ found. AreSoundIn found (entries_of s name)) absent (sound name))) (none_sound def takes));
  tables = λ other old there.
      let r = created_at (is_name other name) s name def other old refl absent there in
      (r.0, table_of_changed s name def other ∙ r.1, r.2);
}

created_if : (found : Option TableDef) (s : State) (ctx : Ctx) (asked : CreateTable) (key : List ℕ) → table_of s asked.name ≡ found → key_or_undefined asked ≡ Ok key
    → IfDone (if is_some found then (known (Err (Duplicate DefinedKind.Relation asked.name))).in_state s else (table_made ctx asked key).in_state s).gives (Left s)
unfolding table_made
created_if (Some def) s ctx asked key is given = tt
created_if None s ctx asked key is given =
    done_then (Left s) ((asked_grants asked.name).in_state s).gives
    (λ grants. Ok (writes (Change.Table asked.name (table_with ctx.role asked key) ∷ Change.Grants asked.name (with_grants grants (own_grants ctx.role)) ∷ []))) (λ grants.
    created_sound s asked.name (table_with ctx.role asked key) (with_grants grants (own_grants ctx.role)) is (key_takes_no_null ctx.role asked key given))

unless_taken : (s : State) (ctx : Ctx) (asked : CreateTable) (key : List ℕ) → key_or_undefined asked ≡ Ok key → IfDone ((table_unless_taken ctx asked key).in_state s).gives (Left s)
unfolding table_unless_taken table_at
unless_taken s ctx asked key given = created_if (table_of s asked.name) s ctx asked key refl given

created_by : (given : Result (List ℕ) Refusal) (s : State) (ctx : Ctx) (asked : CreateTable) → key_or_undefined asked ≡ given
    → IfDone (and_then given (λ key. ((table_unless_taken ctx asked key).in_state s).gives)) (Left s)
created_by (Ok key) s ctx asked is = unless_taken s ctx asked key is
created_by (Err refusal) s ctx asked is = tt

pub create_table_leaves : (ctx : Ctx) (asked : CreateTable) → LeavesRows (create_table ctx asked)
create_table_leaves ctx asked = leaves_rows (create_table ctx asked) (λ s. created_by (key_or_undefined asked) s ctx asked refl)

-- ---- ALTER TABLE

carries_same : (table def : TableDef) (keyed : Keyed) → table.key ≡ def.key → CarriesKey table keyed → CarriesKey def keyed
carries_same table def keyed same carries = record { own = carries.own ∙ ap (map (value_at keyed.row)) same; no_null = carries.no_null }

-- the columns and the key alone say what rows are sound
same_sound : (table def : TableDef) (rows : List (RowId × Keyed)) → table.columns ≡ def.columns → table.key ≡ def.key → AreSound table rows → AreSound def rows
same_sound table def rows same_columns same_key sound = record {
  key = subst (λ columns. All (λ place. takes_no_null (slice_get columns place) ≡ true) def.key) same_columns
      (subst (All (λ place. takes_no_null (slice_get table.columns place) ≡ true)) same_key sound.key);
  ordered = sound.ordered;
  carried = λ id keyed stands. carries_same table def keyed same_key (sound.carried id keyed stands);
  unique = λ has. sound.unique (λ none. has (sym same_key ∙ none));
}

altered_same : (change : RowSecurity) (table : TableDef) (rows : List (RowId × Keyed)) → AreSound table rows → AreSound (altered change table) rows
altered_same Enable table rows sound = same_sound table (altered Enable table) rows refl refl sound
altered_same Disable table rows sound = same_sound table (altered Disable table) rows refl refl sound
altered_same Force table rows sound = same_sound table (altered Force table) rows refl refl sound
altered_same NoForce table rows sound = same_sound table (altered NoForce table) rows refl refl sound

altered_key : (change : RowSecurity) (table : TableDef) → (altered change table).key ≡ table.key
altered_key Enable table = refl
altered_key Disable table = refl
altered_key Force table = refl
altered_key NoForce table = refl

altered_at : (b : Bool) (s : State) (name : List ℕ) (change : RowSecurity) (table : TableDef) (other : List ℕ) (old : TableDef) → is_name other name ≡ b → table_of s name ≡ Some table → table_of s other ≡ Some old
    → (later : TableDef) × (cond b (Some (altered change table)) (table_of s other) ≡ Some later) × (later.key ≡ old.key)
altered_at true s name change table other old is here there =
    let same : Some table ≡ Some old = sym here ∙ ap (table_of s) (sym (same_name other name is)) ∙ there in
    let t : table ≡ old = cc in
    (altered change table, refl, altered_key change table ∙ ap (λ d. d.key) t)
altered_at false s name change table other old is here there = (old, there, refl)

altered_left : (s : State) (name : List ℕ) (change : RowSecurity) (table : TableDef) → table_of s name ≡ Some table → Left s (Change.Table name (altered change table) ∷ [])
altered_left s name change table there = record {
  writes_none = (tt, tt);
  sound = λ sound. defined_sound s name (altered change table) sound
      (altered_same change table (entries_of s name) (subst (λ found. AreSoundIn found (entries_of s name)) there (sound name)));
  tables = λ other old stands.
      let r = altered_at (is_name other name) s name change table other old refl there stands in
      (r.0, table_of_changed s name (altered change table) other ∙ r.1, r.2);
}

altered_if : (found : Option TableDef) (s : State) (ctx : Ctx) (asked : AlterTable) → table_of s asked.table ≡ found
    → IfDone (and_then (found_or (Undefined NameKind.Relation asked.table) found) (λ table. and_then ((ownership ctx.role asked.table table).in_state s).gives (λ _.
    Ok (writes (Change.Table asked.table (altered asked.change table) ∷ []))))) (Left s)
altered_if (Some table) s ctx asked is =
    done_then (Left s) ((ownership ctx.role asked.table table).in_state s).gives (λ _. Ok (writes (Change.Table asked.table (altered asked.change table) ∷ []))) (λ _.
    altered_left s asked.table asked.change table is)
altered_if None s ctx asked is = tt

alter_left : (s : State) (ctx : Ctx) (asked : AlterTable) → IfDone ((alter_table ctx asked).in_state s).gives (Left s)
unfolding table_at
alter_left s ctx asked = altered_if (table_of s asked.table) s ctx asked refl

pub alter_table_leaves : (ctx : Ctx) (asked : AlterTable) → LeavesRows (alter_table ctx asked)
alter_table_leaves ctx asked = leaves_rows (alter_table ctx asked) (λ s. alter_left s ctx asked)
