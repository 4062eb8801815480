-- INSERT, UPDATE and DELETE keep the rows of a state sound.
use Rattle.std.specs.Prelude.{◌≡◌, refl, ℕ, suc, List, [], ◌∷◌, ◌++◌, Option, Some, None, true, false, ◌||◌, Result, Ok, Err, IfOk, length, map, take, drop}
use Rattle.std.specs.List.{AllByRecursion}
use Rattle.std.proofs.{Common.ap, Common.sym, Common.◌∙◌, Common.subst, lemmas.Bool.true≢false, lemmas.Option.none-some}
use Rattle.rls_value.specs.{declared.refusal.Refusal.Refusal, declared.refusal.Refusal.TheVariants.Undefined, declared.row.RowId.RowId, declared.value.Value.Value, Giving.and_then, declared.refusal.NameKind.NameKind, declared.verb.Privilege.Privilege, declared.verb.Kind.Kind}
use Rattle.rls_expr.specs.declared.table.TableDef.{TableDef}
use Rattle.rls_guard.specs.rls_catalog.specs.{declared.change.Change.Change, declared.stored.Stored.Stored, Changed.changed, Changed.changed_all, InOrder.RowsInOrder, State.State, State.is_same_id, State.table_of, State.entries_of, SoundRows.AreSound, SoundRows.RowsAreSound}
use Rattle.rls_statement.specs.{declared.changing.Delete.Delete, declared.changing.Update.Update, declared.statement.Insert.Insert, declared.statement.Select.Select, declared.statement.Selected.Selected}
use Rattle.rls_guard.specs.rls_source.specs.{Asked.table_at, Askings.known, Askings.followed_by, Named.found_or, Named.table_or_undefined}
use Rattle.rls_guard.specs.{declared.context.Ctx.Ctx, declared.reply.Decision.Decision, declared.role_privileges.RolePrivileges.RolePrivileges, RolePrivileges.role_privileges_of, Keeping.IfDone, Keeping.IsNoRow, Keeping.KeepsRowsSound, Keeping.KeepsTables, Keeping.LeavesRows, Keeping.TablesStay}
use Rattle.rls_expansion.specs.{declared.expansion.PolicyExpansion.PolicyExpansion, Expanding.expansion_of, Expanding.permission_checks, Used.tables_if}
use Rattle.rls_judging.specs.{ScannedRows.scanned_rows, Judging.decisions_of, Judging.qualifying_rows_of, Valuing.assignments_of, Valuing.tuples_of}
use Rattle.rls_dml.{specs.declared.analysed_insert.AnalysedInsert.AnalysedInsert, specs.declared.deleting.AnalysedDelete.AnalysedDelete, specs.declared.analysed_update.AnalysedUpdate.AnalysedUpdate, specs.declared.selecting.AnalysedSelect.AnalysedSelect, specs.Checking.has_some, specs.Checking.where_selected, specs.NextRows.NumberOn, specs.Numbers.has_number, specs.Selecting.listed_by, specs.Selecting.listed_for, specs.Selecting.listed_from, specs.Selecting.qualifier_of, specs.Selecting.analysed_select_for, specs.Selecting.select, specs.Selecting.select_as, specs.Selecting.select_from, specs.Selecting.select_columns, specs.Writing.assigned, specs.Writing.each_with, specs.Writing.key_at, specs.Writing.order_of, specs.Writing.checks_of, specs.Writing.permissions_or_denied, specs.Writing.rows_or_refused, specs.Deleting.delete, specs.Deleting.delete_as, specs.Deleting.delete_from, specs.Deleting.delete_with_quals, specs.Deleting.delete_qualifying_rows, specs.Deleting.deleted, specs.Deleting.deleted_row, specs.Deleting.analysed_delete_for, specs.Deleting.delete_columns, specs.Inserting.analysed_insert_for, specs.Inserting.insert, specs.Inserting.insert_as, specs.Inserting.insert_with_quals, specs.Inserting.insert_into, specs.Inserting.insert_judged, specs.Inserting.insert_made, specs.Inserting.insert_rows, specs.Inserting.insert_values, specs.Inserting.inserted, specs.Inserting.inserted_row, specs.Inserting.new_rows, specs.Inserting.numbered, specs.Inserting.row_of_tuple, specs.Inserting.tuples_tables, specs.Inserting.insert_columns, specs.Inserting.tuples_selected, specs.Inserting.insert_columns_read, specs.Updating.changed_row, specs.Updating.changed_rows, specs.Updating.places_set, specs.Updating.analysed_update_for, specs.Updating.update_columns, specs.Updating.update_selected, specs.Updating.update_columns_read, specs.Updating.analysed_update_tables, specs.Updating.update, specs.Updating.update_as, specs.Updating.update_with_quals, specs.Updating.update_qualifying_rows, specs.Updating.update_in, specs.Updating.update_judged, specs.Updating.update_rows, specs.Updating.update_made, specs.Updating.update_values, specs.Updating.updated, specs.Updating.updated_row, specs.Updating.updated_rows, proofs.FittingLemmas.Apart, proofs.FittingLemmas.OtherThan, proofs.FittingLemmas.StandIn, proofs.FittingLemmas.scanned_rows_stand, proofs.FittingLemmas.done_after, proofs.FittingLemmas.done_then, proofs.FittingLemmas.given_after, proofs.FittingLemmas.given_then, proofs.FittingLemmas.qualifying_rows_stand, proofs.FittingLemmas.insert_done, proofs.FittingLemmas.numbered_apart, proofs.PassingLemmas.KeysAreMade, proofs.PassingLemmas.Pass, proofs.PassingLemmas.each_free, proofs.PassingLemmas.rows_carry, proofs.PassingLemmas.rows_passed, proofs.SoundLemmas.AreRenewed, proofs.SoundLemmas.changed_leave, proofs.SoundLemmas.deleted_leave, proofs.SoundLemmas.inserted_leave, proofs.SoundLemmas.left_rows_sound, proofs.SoundLemmas.sound_in, proofs.WrittenLemmas.MayStand, proofs.WrittenLemmas.keyed_of, proofs.WrittenLemmas.left_sound, proofs.WrittenLemmas.with_rows, proofs.WrittenLemmas.without_rows, proofs.WrittenLemmas.written_sound}

-- tables that are the same stay
same_stay : (s : State) (changes : List Change) → ((name : List ℕ) → table_of (changed_all s changes) name ≡ table_of s name) → TablesStay s changes
same_stay s changes same name def there = (def, same name ∙ there, refl)

-- the rows are sound with the changes
abbrev pub Keeps : State → List Change → Type 0
Keeps s changes = RowsAreSound (changed_all s changes)

-- ---- the table

found_there : (refusal : Refusal) (found : Option TableDef) → IfOk (found_or refusal found) (λ table. found ≡ Some table)
found_there refusal (Some table) = refl
found_there refusal None = tt

-- a table that has to be there is there
table_there : (s : State) (name : List ℕ) → IfOk ((table_or_undefined name).in_state s).gives (λ table. table_of s name ≡ Some table)
unfolding table_at
table_there s name = found_there (Undefined NameKind.Relation name) (table_of s name)

-- its rows stand in order
in_order : (s : State) (name : List ℕ) (table : TableDef) → RowsAreSound s → table_of s name ≡ Some table → RowsInOrder s name
in_order s name table sound there = (sound_in s name table sound there).ordered

-- ---- new rows

-- rows with numbers of their own, and keys that are made of their values
record AreMade (table : TableDef) (rows : List Stored) : Type 0 where
  apart : Apart rows
  keys : KeysAreMade table rows

-- rows that may be written in the places of others
may_stand : (s : State) (name : List ℕ) (table : TableDef) (places : List ℕ) (replaced rows : List Stored) → RowsAreSound s → table_of s name ≡ Some table → AreMade table rows
    → ((id : RowId) → has_number replaced id ≡ true → has_number rows id ≡ true) → Pass s name table.columns (order_of places table.columns) replaced rows
    → MayStand table replaced rows (entries_of s name)
may_stand s name table places replaced rows sound there made replaces pass = record {
  apart = made.apart;
  carried = rows_carry table places rows (sound_in s name table sound there).key pass.values made.keys;
  once = pass.once;
  free = each_free s name replaced rows pass.free;
  replaces = replaces;
}

-- ---- INSERT

numbered_made : (places : List ℕ) (txn next : ℕ) (rows : List (List Value)) → AllByRecursion (λ stored. stored.key ≡ key_at places stored.row) (numbered places txn next rows)
numbered_made places txn next [] = tt
numbered_made places txn next (row ∷ rows) = (refl, numbered_made places txn (suc next) rows)

new_rows_made : (ctx : Ctx) (table : TableDef) (analysed_insert : AnalysedInsert) (values : List (List Value)) → IfOk (new_rows ctx table analysed_insert values) (AreMade table)
new_rows_made ctx table analysed_insert values =
    given_then (AreMade table) (each_with (row_of_tuple table analysed_insert.places) analysed_insert.tuples values) (λ rows. Ok (numbered table.key ctx.txn ctx.next rows)) (λ rows.
    record { apart = numbered_apart table.key ctx.txn ctx.next rows; keys = numbered_made table.key ctx.txn ctx.next rows })

inserted_kept : (s : State) (name : List ℕ) (table : TableDef) (places : List ℕ) (rows : List Stored) → RowsAreSound s → table_of s name ≡ Some table → AreMade table rows
    → Pass s name table.columns (order_of places table.columns) [] rows → Keeps s (map (inserted_row name) rows)
inserted_kept s name table places rows sound there made pass =
    left_rows_sound s name table (map (inserted_row name) rows) (with_rows rows (entries_of s name)) sound there (inserted_leave s name rows)
    (written_sound table [] rows (entries_of s name) (sound_in s name table sound there)
    (may_stand s name table places [] rows sound there made (λ id none. absurd (true≢false (sym none))) pass))

inserted_if : (fact : List Change → Type 0) (name : List ℕ) (returning : Option Selected) (role : List ℕ) (decisions : List Decision) (rows : List Stored) (settled : Result (Unit {0}) Refusal)
    → (settled ≡ Ok tt → fact (map (inserted_row name) rows)) → IfDone (Ok (inserted name returning role decisions rows settled)) fact
inserted_if fact name returning role decisions rows (Ok _) is = is refl
inserted_if fact name returning role decisions rows (Err refusal) is = tt

insert_rows_keep : (s : State) (role name : List ℕ) (table : TableDef) (expansion : PolicyExpansion) (analysed_insert : AnalysedInsert) (rows : List Stored) → RowsAreSound s → table_of s name ≡ Some table
    → AreMade table rows → IfDone ((insert_rows role name table expansion analysed_insert rows).in_state s).gives (Keeps s)
unfolding insert_rows insert_judged
insert_rows_keep s role name table expansion analysed_insert rows sound there made =
    let order : List ℕ = order_of analysed_insert.places table.columns in
    done_then (Keeps s) ((decisions_of expansion.new expansion.relations role rows).in_state s).gives
    (λ decisions. Ok (inserted name analysed_insert.returning role decisions rows ((rows_or_refused name table.columns order decisions [] rows).in_state s).gives)) (λ decisions.
    inserted_if (Keeps s) name analysed_insert.returning role decisions rows ((rows_or_refused name table.columns order decisions [] rows).in_state s).gives (λ passed.
    inserted_kept s name table analysed_insert.places rows sound there made (rows_passed s name table.columns order decisions [] rows passed)))

insert_values_keep : (s : State) (ctx : Ctx) (name : List ℕ) (table : TableDef) (expansion : PolicyExpansion) (analysed_insert : AnalysedInsert) → RowsAreSound s → table_of s name ≡ Some table
    → IfDone ((insert_values ctx name table expansion analysed_insert).in_state s).gives (Keeps s)
unfolding insert_values insert_made
insert_values_keep s ctx name table expansion analysed_insert sound there =
    done_then (Keeps s) ((tuples_of expansion.relations ctx.role analysed_insert.tuples).in_state s).gives
    (λ values. ((followed_by (known (new_rows ctx table analysed_insert values)) (λ rows. insert_rows ctx.role name table expansion analysed_insert rows)).in_state s).gives) (λ values.
    done_after (AreMade table) (Keeps s) (new_rows ctx table analysed_insert values) (λ rows. ((insert_rows ctx.role name table expansion analysed_insert rows).in_state s).gives)
    (new_rows_made ctx table analysed_insert values) (λ rows made. insert_rows_keep s ctx.role name table expansion analysed_insert rows sound there made))

insert_with_quals_keep : (s : State) (ctx : Ctx) (name : List ℕ) (table : TableDef) (role_privileges : RolePrivileges) (expansion : PolicyExpansion) (analysed_insert : AnalysedInsert) → RowsAreSound s → table_of s name ≡ Some table
    → IfDone ((insert_with_quals ctx name table role_privileges expansion analysed_insert).in_state s).gives (Keeps s)
unfolding insert_with_quals
insert_with_quals_keep s ctx name table role_privileges expansion analysed_insert sound there =
    done_then (Keeps s) ((permissions_or_denied role_privileges (checks_of Privilege.Insert name (insert_columns table analysed_insert) (insert_columns_read table analysed_insert) (permission_checks expansion (tuples_selected analysed_insert.found analysed_insert.tuples)))).in_state s).gives
    (λ _. ((insert_values ctx name table expansion analysed_insert).in_state s).gives) (λ _. insert_values_keep s ctx name table expansion analysed_insert sound there)

insert_as_keep : (s : State) (ctx : Ctx) (name : List ℕ) (table : TableDef) (role_privileges : RolePrivileges) (analysed_insert : AnalysedInsert) → RowsAreSound s → table_of s name ≡ Some table
    → IfDone ((insert_as ctx name table role_privileges analysed_insert).in_state s).gives (Keeps s)
unfolding insert_as
insert_as_keep s ctx name table role_privileges analysed_insert sound there =
    done_then (Keeps s) ((expansion_of role_privileges name table Kind.Insert (has_some (insert_columns_read table analysed_insert)) (tuples_tables analysed_insert.tuples)).in_state s).gives
    (λ expansion. ((insert_with_quals ctx name table role_privileges expansion analysed_insert).in_state s).gives) (λ expansion.
    insert_with_quals_keep s ctx name table role_privileges expansion analysed_insert sound there)

insert_into_keep : (s : State) (ctx : Ctx) (name : List ℕ) (table : TableDef) (analysed_insert : AnalysedInsert) → RowsAreSound s → table_of s name ≡ Some table
    → IfDone ((insert_into ctx name table analysed_insert).in_state s).gives (Keeps s)
unfolding insert_into
insert_into_keep s ctx name table analysed_insert sound there =
    done_then (Keeps s) ((role_privileges_of ctx.role).in_state s).gives (λ role_privileges. ((insert_as ctx name table role_privileges analysed_insert).in_state s).gives) (λ role_privileges.
    insert_as_keep s ctx name table role_privileges analysed_insert sound there)

-- an INSERT keeps them sound
pub insert_keeps : (ctx : Ctx) (asked : Insert) → KeepsRowsSound (insert ctx asked)
insert_keeps ctx asked = λ s sound.
    done_after (λ table. table_of s asked.table ≡ Some table) (Keeps s) ((table_or_undefined asked.table).in_state s).gives
    (λ table. ((followed_by (analysed_insert_for ctx asked table) (λ analysed_insert. insert_into ctx asked.table table analysed_insert)).in_state s).gives) (table_there s asked.table) (λ table there.
    done_then (Keeps s) ((analysed_insert_for ctx asked table).in_state s).gives (λ analysed_insert. ((insert_into ctx asked.table table analysed_insert).in_state s).gives) (λ analysed_insert.
    insert_into_keep s ctx asked.table table analysed_insert sound there))

inserted_number_on : (name places : List ℕ) (txn next : ℕ) (rows : List (List Value)) → NumberOn txn next (map (inserted_row name) (numbered places txn next rows))
inserted_number_on name places txn next [] = tt
inserted_number_on name places txn next (row ∷ rows) = (λ _. refl, inserted_number_on name places txn (suc next) rows)

-- an INSERT numbers its rows on from the transaction's next
pub insert_numbers_on : (s : State) (ctx : Ctx) (asked : Insert) → IfDone ((insert ctx asked).in_state s).gives (NumberOn ctx.txn ctx.next)
insert_numbers_on s ctx asked = insert_done (NumberOn ctx.txn ctx.next) s ctx asked (λ places rows _. inserted_number_on asked.table places ctx.txn ctx.next rows)

-- ---- UPDATE

-- the new rows of an UPDATE: their numbers are those of the old ones
pub record AreUpdated (table : TableDef) (old new : List Stored) : Type 0 where
  pub renewed : AreRenewed old new
  pub keys : KeysAreMade table new

row_made : (table : TableDef) (places : List ℕ) (stored : Stored) (values : List Value) → IfOk (updated_row table places stored values) (λ new. (stored.id ≡ new.id) × (new.key ≡ key_at table.key new.row))
row_made table places stored values =
    given_then (λ new. (stored.id ≡ new.id) × (new.key ≡ key_at table.key new.row))
    (assigned table.columns places values stored.row)
    (λ row. Ok (record { id = stored.id; key = key_at table.key row; row = row })) (λ row. (refl, refl))

updated_made : (table : TableDef) (places : List ℕ) (old : List Stored) (values : List Value) → IfOk (updated_rows table places old values) (AreUpdated table old)
updated_made table places [] values = record { renewed = tt; keys = tt }
updated_made table places (stored ∷ old) values =
    given_after (λ new. (stored.id ≡ new.id) × (new.key ≡ key_at table.key new.row)) (AreUpdated table (stored ∷ old)) (updated_row table places stored (take (length places) values))
    (λ new. and_then (updated_rows table places old (drop (length places) values)) (λ news. Ok (new ∷ news)))
    (row_made table places stored (take (length places) values)) (λ new one.
    given_after (AreUpdated table old) (AreUpdated table (stored ∷ old)) (updated_rows table places old (drop (length places) values)) (λ news. Ok (new ∷ news)) (updated_made table places old (drop (length places) values)) (λ news others.
    record { renewed = (one.0, others.renewed); keys = (one.1, others.keys) }))

other_renewed : (id : RowId) (old new : List Stored) → AreRenewed old new → AllByRecursion (λ stored. is_same_id stored.id id ≡ false) old → AllByRecursion (λ stored. is_same_id stored.id id ≡ false) new
other_renewed id [] [] renewed other = tt
other_renewed id [] (new ∷ news) renewed other = absurd renewed
other_renewed id (old ∷ olds) [] renewed other = absurd renewed
other_renewed id (old ∷ olds) (new ∷ news) renewed other = (ap (λ i. is_same_id i id) (sym renewed.0) ∙ other.0, other_renewed id olds news renewed.1 other.1)

-- rows with the numbers of others have different ones where those do
apart_renewed : (old new : List Stored) → AreRenewed old new → Apart old → Apart new
apart_renewed [] [] renewed apart = tt
apart_renewed [] (new ∷ news) renewed apart = absurd renewed
apart_renewed (old ∷ olds) [] renewed apart = absurd renewed
apart_renewed (old ∷ olds) (new ∷ news) renewed apart =
    (subst (λ id. OtherThan id news) renewed.0 (other_renewed old.id olds news renewed.1 apart.0), apart_renewed olds news renewed.1 apart.1)

-- the same numbers are among them
number_renewed : (id : RowId) (old new : List Stored) → AreRenewed old new → has_number old id ≡ has_number new id
number_renewed id [] [] renewed = refl
number_renewed id [] (new ∷ news) renewed = absurd renewed
number_renewed id (old ∷ olds) [] renewed = absurd renewed
number_renewed id (old ∷ olds) (new ∷ news) renewed = λ i. is_same_id id (renewed.0 i) || number_renewed id olds news renewed.1 i

-- an UPDATE of rows of a table that is done
pub record Renews (s : State) (name : List ℕ) (old new : List Stored) : Type 0 where
  pub table : TableDef
  pub places : List ℕ
  pub there : table_of s name ≡ Some table
  pub apart : Apart old
  pub made : AreUpdated table old new
  pub pass : Pass s name table.columns (order_of places table.columns) old new

renewed_kept : (s : State) (name : List ℕ) (old new : List Stored) → RowsAreSound s → Renews s name old new → Keeps s (changed_rows name old new)
renewed_kept s name old new sound by =
    let role_privileges : AreSound by.table (entries_of s name) = sound_in s name by.table sound by.there in
    left_rows_sound s name by.table (changed_rows name old new) (with_rows new (entries_of s name)) sound by.there (changed_leave s name old new by.made.renewed)
    (written_sound by.table old new (entries_of s name) role_privileges
    (may_stand s name by.table by.places old new sound by.there (record { apart = apart_renewed old new by.made.renewed by.apart; keys = by.made.keys })
    (λ id has. sym (number_renewed id old new by.made.renewed) ∙ has) by.pass))

-- it holds of the changes of such an UPDATE
abbrev pub HoldsOfRenewed : (List Change → Type 0) → State → List ℕ → Type 0
HoldsOfRenewed fact s name = (old new : List Stored) → Renews s name old new → fact (changed_rows name old new)

updated_if : (fact : List Change → Type 0) (name : List ℕ) (analysed_update : AnalysedUpdate) (role : List ℕ) (decisions : List Decision) (old new : List Stored) (settled : Result (Unit {0}) Refusal)
    → (settled ≡ Ok tt → fact (changed_rows name old new)) → IfDone (Ok (updated name analysed_update role decisions old new settled)) fact
updated_if fact name analysed_update role decisions old new (Ok _) is = is refl
updated_if fact name analysed_update role decisions old new (Err refusal) is = tt

update_rows_hold : (fact : List Change → Type 0) (s : State) (role name : List ℕ) (table : TableDef) (expansion : PolicyExpansion) (analysed_update : AnalysedUpdate) (before : List Decision) (old new : List Stored)
    → HoldsOfRenewed fact s name → table_of s name ≡ Some table → Apart old → AreUpdated table old new → IfDone ((update_rows role name table expansion analysed_update before old new).in_state s).gives fact
unfolding update_rows update_judged
update_rows_hold fact s role name table expansion analysed_update before old new all there apart made =
    let order : List ℕ = order_of (places_set analysed_update.assignments) table.columns in
    done_then fact ((decisions_of expansion.new expansion.relations role new).in_state s).gives
    (λ after. Ok (updated name analysed_update role (before ++ after) old new ((rows_or_refused name table.columns order after old new).in_state s).gives)) (λ after.
    updated_if fact name analysed_update role (before ++ after) old new ((rows_or_refused name table.columns order after old new).in_state s).gives (λ passed.
    all old new (record { table = table; places = places_set analysed_update.assignments; there = there; apart = apart; made = made; pass = rows_passed s name table.columns order after old new passed })))

update_values_hold : (fact : List Change → Type 0) (s : State) (role name : List ℕ) (table : TableDef) (expansion : PolicyExpansion) (analysed_update : AnalysedUpdate) (before : List Decision) (old : List Stored) → HoldsOfRenewed fact s name
    → table_of s name ≡ Some table → Apart old → IfDone ((update_values role name table expansion analysed_update before old).in_state s).gives fact
unfolding update_values update_made
update_values_hold fact s role name table expansion analysed_update before old all there apart =
    done_then fact ((assignments_of expansion.relations role analysed_update.assignments old).in_state s).gives
    (λ values. ((followed_by (known (updated_rows table (places_set analysed_update.assignments) old values)) (λ new. update_rows role name table expansion analysed_update before old new)).in_state s).gives) (λ values.
    done_after (AreUpdated table old) fact (updated_rows table (places_set analysed_update.assignments) old values)
    (λ new. ((update_rows role name table expansion analysed_update before old new).in_state s).gives) (updated_made table (places_set analysed_update.assignments) old values) (λ new made.
    update_rows_hold fact s role name table expansion analysed_update before old new all there apart made))

update_qualifying_rows_hold : (fact : List Change → Type 0) (s : State) (role name : List ℕ) (table : TableDef) (expansion : PolicyExpansion) (analysed_update : AnalysedUpdate) (rows : List Stored) → HoldsOfRenewed fact s name
    → table_of s name ≡ Some table → StandIn s name rows → IfDone ((update_qualifying_rows role name table expansion analysed_update rows).in_state s).gives fact
unfolding update_qualifying_rows
update_qualifying_rows_hold fact s role name table expansion analysed_update rows all there stand =
    done_after (λ judged. StandIn s name judged.1) fact ((qualifying_rows_of expansion.old expansion.relations role analysed_update.condition rows).in_state s).gives
    (λ judged. ((update_values role name table expansion analysed_update judged.0 judged.1).in_state s).gives)
    (qualifying_rows_stand s name expansion.old expansion.relations role analysed_update.condition rows stand) (λ judged old.
    update_values_hold fact s role name table expansion analysed_update judged.0 judged.1 all there old.apart)

update_with_quals_hold : (fact : List Change → Type 0) (s : State) (role_privileges : RolePrivileges) (expansion : PolicyExpansion) (analysed_update : AnalysedUpdate) (role name : List ℕ) (table : TableDef) → HoldsOfRenewed fact s name
    → RowsAreSound s → table_of s name ≡ Some table → IfDone ((update_with_quals role_privileges expansion analysed_update role name table).in_state s).gives fact
unfolding update_with_quals
update_with_quals_hold fact s role_privileges expansion analysed_update role name table all sound there =
    done_then fact ((permissions_or_denied role_privileges (checks_of Privilege.Update name (update_columns table analysed_update) (update_columns_read table analysed_update) (permission_checks expansion (update_selected analysed_update)))).in_state s).gives
    (λ _. ((followed_by (scanned_rows role name table analysed_update.condition) (λ rows. update_qualifying_rows role name table expansion analysed_update rows)).in_state s).gives) (λ _.
    done_after (StandIn s name) fact ((scanned_rows role name table analysed_update.condition).in_state s).gives
    (λ rows. ((update_qualifying_rows role name table expansion analysed_update rows).in_state s).gives)
    (scanned_rows_stand s role name table analysed_update.condition (in_order s name table sound there)) (λ rows stand.
    update_qualifying_rows_hold fact s role name table expansion analysed_update rows all there stand))

update_as_hold : (fact : List Change → Type 0) (s : State) (role_privileges : RolePrivileges) (role name : List ℕ) (table : TableDef) (analysed_update : AnalysedUpdate) → HoldsOfRenewed fact s name → RowsAreSound s
    → table_of s name ≡ Some table → IfDone ((update_as role_privileges role name table analysed_update).in_state s).gives fact
unfolding update_as
update_as_hold fact s role_privileges role name table analysed_update all sound there =
    done_then fact ((expansion_of role_privileges name table Kind.Update (has_some (update_columns_read table analysed_update)) (analysed_update_tables analysed_update)).in_state s).gives
    (λ expansion. ((update_with_quals role_privileges expansion analysed_update role name table).in_state s).gives) (λ expansion.
    update_with_quals_hold fact s role_privileges expansion analysed_update role name table all sound there)

update_in_hold : (fact : List Change → Type 0) (s : State) (role name : List ℕ) (table : TableDef) (analysed_update : AnalysedUpdate) → HoldsOfRenewed fact s name → RowsAreSound s → table_of s name ≡ Some table
    → IfDone ((update_in role name table analysed_update).in_state s).gives fact
unfolding update_in
update_in_hold fact s role name table analysed_update all sound there =
    done_then fact ((role_privileges_of role).in_state s).gives (λ role_privileges. ((update_as role_privileges role name table analysed_update).in_state s).gives) (λ role_privileges.
    update_as_hold fact s role_privileges role name table analysed_update all sound there)

pub update_holds : (fact : List Change → Type 0) (s : State) (ctx : Ctx) (asked : Update) → HoldsOfRenewed fact s asked.table → RowsAreSound s → IfDone ((update ctx asked).in_state s).gives fact
update_holds fact s ctx asked all sound =
    done_after (λ table. table_of s asked.table ≡ Some table) fact ((table_or_undefined asked.table).in_state s).gives
    (λ table. ((followed_by (analysed_update_for asked table) (λ analysed_update. update_in ctx.role asked.table table analysed_update)).in_state s).gives) (table_there s asked.table) (λ table there.
    done_then fact ((analysed_update_for asked table).in_state s).gives (λ analysed_update. ((update_in ctx.role asked.table table analysed_update).in_state s).gives) (λ analysed_update.
    update_in_hold fact s ctx.role asked.table table analysed_update all sound there))

-- an UPDATE keeps them sound
pub update_keeps : (ctx : Ctx) (asked : Update) → KeepsRowsSound (update ctx asked)
update_keeps ctx asked = λ s sound. update_holds (Keeps s) s ctx asked (λ old new by. renewed_kept s asked.table old new sound by) sound

renewed_number_on : (txn next : ℕ) (name : List ℕ) (old new : List Stored) → NumberOn txn next (changed_rows name old new)
renewed_number_on txn next name old [] = tt
renewed_number_on txn next name [] (new ∷ news) = tt
renewed_number_on txn next name (old ∷ olds) (new ∷ news) = (λ none. absurd (none-some (keyed_of old) (sym none)), renewed_number_on txn next name olds news)

-- an UPDATE uses no number
pub update_numbers_on : (s : State) (ctx : Ctx) (asked : Update) → RowsAreSound s → IfDone ((update ctx asked).in_state s).gives (NumberOn ctx.txn ctx.next)
update_numbers_on s ctx asked sound = update_holds (NumberOn ctx.txn ctx.next) s ctx asked (λ old new _. renewed_number_on ctx.txn ctx.next asked.table old new) sound

-- ---- DELETE

deleted_kept : (s : State) (name : List ℕ) (table : TableDef) (rows : List Stored) → RowsAreSound s → table_of s name ≡ Some table → Keeps s (map (deleted_row name) rows)
deleted_kept s name table rows sound there =
    left_rows_sound s name table (map (deleted_row name) rows) (without_rows rows (entries_of s name)) sound there (deleted_leave s name rows)
    (left_sound table rows (entries_of s name) (sound_in s name table sound there))

-- it holds of the changes that take rows out of a table that is there
abbrev pub HoldsOfGone : (List Change → Type 0) → State → List ℕ → Type 0
HoldsOfGone fact s name = (table : TableDef) (rows : List Stored) → table_of s name ≡ Some table → fact (map (deleted_row name) rows)

delete_qualifying_rows_hold : (fact : List Change → Type 0) (s : State) (role name : List ℕ) (table : TableDef) (expansion : PolicyExpansion) (analysed_delete : AnalysedDelete) (rows : List Stored) → HoldsOfGone fact s name
    → table_of s name ≡ Some table → IfDone ((delete_qualifying_rows role name expansion analysed_delete rows).in_state s).gives fact
unfolding delete_qualifying_rows
delete_qualifying_rows_hold fact s role name table expansion analysed_delete rows all there =
    done_then fact ((qualifying_rows_of expansion.old expansion.relations role analysed_delete.condition rows).in_state s).gives (λ judged. Ok (deleted name analysed_delete role judged)) (λ judged. all table judged.1 there)

delete_with_quals_hold : (fact : List Change → Type 0) (s : State) (role_privileges : RolePrivileges) (expansion : PolicyExpansion) (analysed_delete : AnalysedDelete) (role name : List ℕ) (table : TableDef) → HoldsOfGone fact s name
    → table_of s name ≡ Some table → IfDone ((delete_with_quals role_privileges expansion analysed_delete role name table).in_state s).gives fact
unfolding delete_with_quals
delete_with_quals_hold fact s role_privileges expansion analysed_delete role name table all there =
    done_then fact ((permissions_or_denied role_privileges (checks_of Privilege.Delete name [] (delete_columns table analysed_delete) (permission_checks expansion (where_selected analysed_delete.found analysed_delete.condition)))).in_state s).gives
    (λ _. ((followed_by (scanned_rows role name table analysed_delete.condition) (λ rows. delete_qualifying_rows role name expansion analysed_delete rows)).in_state s).gives) (λ _.
    done_then fact ((scanned_rows role name table analysed_delete.condition).in_state s).gives (λ rows. ((delete_qualifying_rows role name expansion analysed_delete rows).in_state s).gives) (λ rows.
    delete_qualifying_rows_hold fact s role name table expansion analysed_delete rows all there))

delete_as_hold : (fact : List Change → Type 0) (s : State) (role_privileges : RolePrivileges) (role name : List ℕ) (table : TableDef) (analysed_delete : AnalysedDelete) → HoldsOfGone fact s name → table_of s name ≡ Some table
    → IfDone ((delete_as role_privileges role name table analysed_delete).in_state s).gives fact
unfolding delete_as
delete_as_hold fact s role_privileges role name table analysed_delete all there =
    done_then fact ((expansion_of role_privileges name table Kind.Delete (has_some (delete_columns table analysed_delete)) (tables_if analysed_delete.condition)).in_state s).gives
    (λ expansion. ((delete_with_quals role_privileges expansion analysed_delete role name table).in_state s).gives) (λ expansion.
    delete_with_quals_hold fact s role_privileges expansion analysed_delete role name table all there)

delete_from_hold : (fact : List Change → Type 0) (s : State) (role name : List ℕ) (table : TableDef) (analysed_delete : AnalysedDelete) → HoldsOfGone fact s name → table_of s name ≡ Some table
    → IfDone ((delete_from role name table analysed_delete).in_state s).gives fact
unfolding delete_from
delete_from_hold fact s role name table analysed_delete all there =
    done_then fact ((role_privileges_of role).in_state s).gives (λ role_privileges. ((delete_as role_privileges role name table analysed_delete).in_state s).gives) (λ role_privileges.
    delete_as_hold fact s role_privileges role name table analysed_delete all there)

pub delete_holds : (fact : List Change → Type 0) (s : State) (ctx : Ctx) (asked : Delete) → HoldsOfGone fact s asked.table → IfDone ((delete ctx asked).in_state s).gives fact
delete_holds fact s ctx asked all =
    done_after (λ table. table_of s asked.table ≡ Some table) fact ((table_or_undefined asked.table).in_state s).gives
    (λ table. ((followed_by (analysed_delete_for asked table) (λ analysed_delete. delete_from ctx.role asked.table table analysed_delete)).in_state s).gives) (table_there s asked.table) (λ table there.
    done_then fact ((analysed_delete_for asked table).in_state s).gives (λ analysed_delete. ((delete_from ctx.role asked.table table analysed_delete).in_state s).gives) (λ analysed_delete.
    delete_from_hold fact s ctx.role asked.table table analysed_delete all there))

-- a DELETE keeps them sound
pub delete_keeps : (ctx : Ctx) (asked : Delete) → KeepsRowsSound (delete ctx asked)
delete_keeps ctx asked = λ s sound. delete_holds (Keeps s) s ctx asked (λ table rows there. deleted_kept s asked.table table rows sound there)

gone_number_on : (txn next : ℕ) (name : List ℕ) (rows : List Stored) → NumberOn txn next (map (deleted_row name) rows)
gone_number_on txn next name [] = tt
gone_number_on txn next name (stored ∷ rows) = (λ none. absurd (none-some (keyed_of stored) (sym none)), gone_number_on txn next name rows)

-- a DELETE uses no number
pub delete_numbers_on : (s : State) (ctx : Ctx) (asked : Delete) → IfDone ((delete ctx asked).in_state s).gives (NumberOn ctx.txn ctx.next)
delete_numbers_on s ctx asked = delete_holds (NumberOn ctx.txn ctx.next) s ctx asked (λ table rows _. gone_number_on ctx.txn ctx.next asked.table rows)

-- ---- SELECT

listed_from_hold : (fact : List Change → Type 0) (s : State) (role : List ℕ) (expansion : PolicyExpansion) (analysed_select : AnalysedSelect) (rows : List Stored) → fact [] → IfDone ((listed_from role expansion analysed_select rows).in_state s).gives fact
unfolding listed_from
listed_from_hold fact s role expansion analysed_select rows none =
    done_then fact ((qualifying_rows_of expansion.old expansion.relations role analysed_select.condition rows).in_state s).gives (λ judged. Ok (listed_by analysed_select role judged)) (λ _. none)

listed_for_hold : (fact : List Change → Type 0) (s : State) (role_privileges : RolePrivileges) (expansion : PolicyExpansion) (analysed_select : AnalysedSelect) (role name : List ℕ) (table : TableDef) → fact []
    → IfDone ((listed_for role_privileges expansion analysed_select role name table).in_state s).gives fact
unfolding listed_for
listed_for_hold fact s role_privileges expansion analysed_select role name table none =
    done_then fact ((permissions_or_denied role_privileges (checks_of Privilege.Select name (select_columns table analysed_select) [] (permission_checks expansion (where_selected analysed_select.found analysed_select.condition)))).in_state s).gives
    (λ _. ((followed_by (scanned_rows role name table analysed_select.condition) (λ rows. listed_from role expansion analysed_select rows)).in_state s).gives) (λ _.
    done_then fact ((scanned_rows role name table analysed_select.condition).in_state s).gives (λ rows. ((listed_from role expansion analysed_select rows).in_state s).gives) (λ rows.
    listed_from_hold fact s role expansion analysed_select rows none))

select_as_hold : (fact : List Change → Type 0) (s : State) (role_privileges : RolePrivileges) (role name : List ℕ) (table : TableDef) (analysed_select : AnalysedSelect) → fact []
    → IfDone ((select_as role_privileges role name table analysed_select).in_state s).gives fact
unfolding select_as
select_as_hold fact s role_privileges role name table analysed_select none =
    done_then fact ((expansion_of role_privileges name table Kind.Select false (tables_if analysed_select.condition)).in_state s).gives
    (λ expansion. ((listed_for role_privileges expansion analysed_select role name table).in_state s).gives) (λ expansion.
    listed_for_hold fact s role_privileges expansion analysed_select role name table none)

select_from_hold : (fact : List Change → Type 0) (s : State) (role name : List ℕ) (table : TableDef) (analysed_select : AnalysedSelect) → fact [] → IfDone ((select_from role name table analysed_select).in_state s).gives fact
unfolding select_from
select_from_hold fact s role name table analysed_select none =
    done_then fact ((role_privileges_of role).in_state s).gives (λ role_privileges. ((select_as role_privileges role name table analysed_select).in_state s).gives) (λ role_privileges.
    select_as_hold fact s role_privileges role name table analysed_select none)

select_holds : (fact : List Change → Type 0) (s : State) (ctx : Ctx) (asked : Select) → fact [] → IfDone ((select ctx asked).in_state s).gives fact
select_holds fact s ctx asked none =
    done_then fact ((table_or_undefined asked.table).in_state s).gives
    (λ table. ((followed_by (analysed_select_for asked (qualifier_of asked, table)) (λ analysed_select. select_from ctx.role asked.table table analysed_select)).in_state s).gives) (λ table.
    done_then fact ((analysed_select_for asked (qualifier_of asked, table)).in_state s).gives (λ analysed_select. ((select_from ctx.role asked.table table analysed_select).in_state s).gives) (λ analysed_select.
    select_from_hold fact s ctx.role asked.table table analysed_select none))

-- a SELECT changes nothing
pub select_leaves : (ctx : Ctx) (asked : Select) → LeavesRows (select ctx asked)
select_leaves ctx asked = record {
  writes_none = λ s. select_holds (AllByRecursion IsNoRow) s ctx asked tt;
  sound = λ s sound. select_holds (Keeps s) s ctx asked sound;
  tables = λ s sound. select_holds (TablesStay s) s ctx asked (same_stay s [] (λ name. refl));
}

-- ---- tables

-- an INSERT leaves them
pub insert_tables : (ctx : Ctx) (asked : Insert) → KeepsTables (insert ctx asked)
insert_tables ctx asked s sound = insert_done (TablesStay s) s ctx asked (λ places rows _.
    let made : List Stored = numbered places ctx.txn ctx.next rows in
    same_stay s (map (inserted_row asked.table) made) (inserted_leave s asked.table made).tables)

row_tables : (s : State) (table : List ℕ) (old new : List Stored) (name : List ℕ) → table_of (changed_all s (changed_rows table old new)) name ≡ table_of s name
row_tables s table [] [] name = refl
row_tables s table [] (new ∷ news) name = refl
row_tables s table (old ∷ olds) [] name = refl
row_tables s table (old ∷ olds) (new ∷ news) name = row_tables (changed s (changed_row table old new)) table olds news name

-- so does an UPDATE
pub update_tables : (ctx : Ctx) (asked : Update) → KeepsTables (update ctx asked)
update_tables ctx asked s sound = update_holds (TablesStay s) s ctx asked (λ old new _. same_stay s (changed_rows asked.table old new) (row_tables s asked.table old new)) sound

-- and a DELETE
pub delete_tables : (ctx : Ctx) (asked : Delete) → KeepsTables (delete ctx asked)
delete_tables ctx asked s sound = delete_holds (TablesStay s) s ctx asked (λ table rows _. same_stay s (map (deleted_row asked.table) rows) (deleted_leave s asked.table rows).tables)
