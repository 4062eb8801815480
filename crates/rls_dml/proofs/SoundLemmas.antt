-- A state whose rows are sound, with changes of the rows of one table.
use Rattle.std.specs.Prelude.{◌≡◌, refl, ℕ, List, [], ◌∷◌, Option, Some, None, Bool, true, false, cond, map}
use Rattle.std.specs.{BTreeMap.insert_entry, List.AllByRecursion, Ordering.is_eq}
use Rattle.std.proofs.Common.{ap, sym, ◌∙◌, subst}
use Rattle.std.proofs.lemmas.Cmp.{tied_itself, nat_list_cmp_total}
use Rattle.std.proofs.lemmas.List.Elements.{All-nil, All-cons}
use Rattle.rls_value.specs.declared.row.RowId.{RowId}
use Rattle.rls_expr.specs.declared.table.TableDef.{TableDef}
use Rattle.rls_guard.specs.rls_catalog.specs.{declared.change.Change.Change, declared.change.RowChange.RowChange, declared.stored.Keyed.Keyed, declared.stored.Stored.Stored, State.State, State.id_order, State.rows_of, State.table_of, State.entries_of, Changed.changed, Changed.changed_all, Changed.with_row, InOrder.Ascend, InOrder.RowsInOrder, SoundRows.AreSound, SoundRows.AreSoundIn, SoundRows.RowsAreSound, SoundRows.StandsAt}
use Rattle.rls_guard.specs.rls_catalog.proofs.{ContentsLaws.is_name, ContentsLaws.same_name, RowsChanged.entries_of_changed, InOrderLaws.none_ascend}
use Rattle.rls_dml.specs.{Deleting.deleted_row, Inserting.inserted_row, Keys.CarryKeys, Updating.changed_rows, Writing.key_at}
use Rattle.rls_dml.proofs.{FittingLemmas.rows_stand, WrittenLemmas.keyed_of, WrittenLemmas.with_rows, WrittenLemmas.without_rows}

-- the changes leave these rows in the table, and all else that rows may be sound or not by
pub record Leave (s : State) (table : List ℕ) (changes : List Change) (rows : List (RowId × Keyed)) : Type 0 where
  pub tables : (name : List ℕ) → table_of (changed_all s changes) name ≡ table_of s name
  pub here : entries_of (changed_all s changes) table ≡ rows
  pub others : (name : List ℕ) → is_name name table ≡ false → entries_of (changed_all s changes) name ≡ entries_of s name

-- ---- one change after another

own_name : (name : List ℕ) → is_name name name ≡ true
own_name name = ap is_eq (tied_itself nat_list_cmp_total name)

row_here : (s : State) (change : RowChange) → entries_of (changed s (Change.Row change)) change.table ≡ with_row change.id change.after (entries_of s change.table)
row_here s change =
    entries_of_changed s change change.table
    ∙ ap (λ b. cond b (with_row change.id change.after (entries_of s change.table)) (entries_of s change.table)) (own_name change.table)

row_others : (s : State) (change : RowChange) (name : List ℕ) → is_name name change.table ≡ false → entries_of (changed s (Change.Row change)) name ≡ entries_of s name
row_others s change name other = entries_of_changed s change name ∙ ap (λ b. cond b (with_row change.id change.after (entries_of s name)) (entries_of s name)) other

leave_none : (s : State) (table : List ℕ) → Leave s table [] (entries_of s table)
leave_none s table = record { tables = λ name. refl; here = refl; others = λ name other. refl }

-- what is left by the first change and then by the others
leave_more : (s : State) (change : RowChange) (more : List Change) (left : List (RowId × Keyed) → List (RowId × Keyed))
    → Leave (changed s (Change.Row change)) change.table more (left (entries_of (changed s (Change.Row change)) change.table))
    → Leave s change.table (Change.Row change ∷ more) (left (with_row change.id change.after (entries_of s change.table)))
leave_more s change more left rest = record {
  tables = rest.tables;
  here = rest.here ∙ ap left (row_here s change);
  others = λ name other. rest.others name other ∙ row_others s change name other;
}

-- rows that are put in
pub inserted_leave : (s : State) (table : List ℕ) (rows : List Stored) → Leave s table (map (inserted_row table) rows) (with_rows rows (entries_of s table))
inserted_leave s table [] = leave_none s table
inserted_leave s table (stored ∷ rows) =
    let change : RowChange = record { table = table; id = stored.id; before = None; after = Some (keyed_of stored) } in
    leave_more s change (map (inserted_row table) rows) (with_rows rows) (inserted_leave (changed s (Change.Row change)) table rows)

-- the rows have the numbers of the old ones, one after another
abbrev pub AreRenewed : List Stored → List Stored → Type 0
AreRenewed [] [] = Unit {0}
AreRenewed (old ∷ olds) (new ∷ news) = (old.id ≡ new.id) × AreRenewed olds news
AreRenewed _ _ = ⊥

-- rows that are put in the places of old ones
pub changed_leave : (s : State) (table : List ℕ) (old new : List Stored) → AreRenewed old new → Leave s table (changed_rows table old new) (with_rows new (entries_of s table))
changed_leave s table [] [] renewed = leave_none s table
changed_leave s table [] (new ∷ news) renewed = absurd renewed
changed_leave s table (old ∷ olds) [] renewed = absurd renewed
changed_leave s table (old ∷ olds) (new ∷ news) renewed =
    let change : RowChange = record { table = table; id = old.id; before = Some (keyed_of old); after = Some (keyed_of new) } in
    subst (λ id. Leave s table (changed_rows table (old ∷ olds) (new ∷ news)) (with_rows news (insert_entry id_order (entries_of s table) id (keyed_of new)))) renewed.0
    (leave_more s change (changed_rows table olds news) (with_rows news) (changed_leave (changed s (Change.Row change)) table olds news renewed.1))

-- rows that are taken out
pub deleted_leave : (s : State) (table : List ℕ) (rows : List Stored) → Leave s table (map (deleted_row table) rows) (without_rows rows (entries_of s table))
deleted_leave s table [] = leave_none s table
deleted_leave s table (stored ∷ rows) =
    let change : RowChange = record { table = table; id = stored.id; before = Some (keyed_of stored); after = None } in
    leave_more s change (map (deleted_row table) rows) (without_rows rows) (deleted_leave (changed s (Change.Row change)) table rows)

-- ---- all tables

both_sound : (found other : Option TableDef) (rows more : List (RowId × Keyed)) → other ≡ found → more ≡ rows → AreSoundIn found rows → AreSoundIn other more
both_sound found other rows more same_table same_rows sound = subst (λ def. AreSoundIn def more) (sym same_table) (subst (AreSoundIn found) (sym same_rows) sound)

-- the rows of the table that is there
pub sound_in : (s : State) (name : List ℕ) (table : TableDef) → RowsAreSound s → table_of s name ≡ Some table → AreSound table (entries_of s name)
sound_in s name table sound there = subst (λ def. AreSoundIn def (entries_of s name)) there (sound name)

left_if : (b : Bool) (s : State) (table : List ℕ) (def : TableDef) (changes : List Change) (rows : List (RowId × Keyed)) (name : List ℕ) → is_name name table ≡ b → RowsAreSound s → table_of s table ≡ Some def
    → Leave s table changes rows → AreSound def rows → AreSoundIn (table_of (changed_all s changes) name) (entries_of (changed_all s changes) name)
left_if true s table def changes rows name named sound there leave left =
    subst (λ n. AreSoundIn (table_of (changed_all s changes) n) (entries_of (changed_all s changes) n)) (sym (same_name name table named))
    (both_sound (Some def) (table_of (changed_all s changes) table) rows (entries_of (changed_all s changes) table) (leave.tables table ∙ there) leave.here left)
left_if false s table def changes rows name named sound there leave left =
    both_sound (table_of s name) (table_of (changed_all s changes) name) (entries_of s name) (entries_of (changed_all s changes) name) (leave.tables name) (leave.others name named) (sound name)

-- where the rows that are left in the one table are sound, all are
pub left_rows_sound : (s : State) (table : List ℕ) (def : TableDef) (changes : List Change) (rows : List (RowId × Keyed)) → RowsAreSound s → table_of s table ≡ Some def → Leave s table changes rows
    → AreSound def rows → RowsAreSound (changed_all s changes)
left_rows_sound s table def changes rows sound there leave left = λ name. left_if (is_name name table) s table def changes rows name refl sound there leave left

-- ---- rows as a list

each_own : (table : TableDef) (role_privileges : List (RowId × Keyed)) (rows : List Stored) → AreSound table role_privileges → AllByRecursion (λ stored. StandsAt role_privileges stored.id (keyed_of stored)) rows → CarryKeys table.key rows
each_own table role_privileges [] sound stand = All-nil (λ stored. stored.key ≡ key_at table.key stored.row)
each_own table role_privileges (stored ∷ rows) sound stand =
    All-cons (λ row. row.key ≡ key_at table.key row.row) stored rows (sound.carried stored.id (keyed_of stored) stand.0).own (each_own table role_privileges rows sound stand.1)

-- each row of a table carries its key
pub sound_carry : (s : State) (name : List ℕ) (table : TableDef) → RowsAreSound s → table_of s name ≡ Some table → CarryKeys table.key (rows_of s name)
sound_carry s name table sound there =
    let role_privileges : AreSound table (entries_of s name) = sound_in s name table sound there in
    each_own table (entries_of s name) (rows_of s name) role_privileges (rows_stand s name role_privileges.ordered).have

in_order_if : (found : Option TableDef) (rows : List (RowId × Keyed)) → AreSoundIn found rows → Ascend rows
in_order_if (Some table) rows sound = sound.ordered
in_order_if None rows none = subst Ascend (sym none) none_ascend

-- the rows of each table stand in order, also where there is no table
pub sound_in_order : (s : State) (name : List ℕ) → RowsAreSound s → RowsInOrder s name
sound_in_order s name sound = in_order_if (table_of s name) (entries_of s name) (sound name)
