-- The numbers of new rows stay in their range.
use Rattle.std.specs.Prelude.{◌≡◌, refl, ℕ, suc, ◌+◌, ◌≤◌, List, [], ◌∷◌, Bool, true, false, ◌&&◌, ◌||◌, nat_le, Result, Ok, Err, IfOk, if◌then◌else◌, length, map}
use Rattle.std.specs.List.{list_all, list_any}
use Rattle.std.proofs.{Common.arith, Common.ap, lemmas.Bool.leb-true}
use Rattle.rls_value.specs.{declared.refusal.Refusal.Refusal, declared.refusal.Refusal.TheVariants.Limit, declared.value.Value.Value, Giving.and_then}
use Rattle.rls_value.specs.declared.refusal.Limit.TheVariants as limit
use Rattle.rls_expr.specs.{declared.table.Column.Column, declared.table.TableDef.TableDef}
use Rattle.rls_guard.specs.rls_catalog.specs.{declared.change.Change.Change, declared.stored.Stored.Stored, SoundRows.RowsAreSound, State.State}
use Rattle.rls_statement.specs.{declared.changing.Delete.Delete, declared.changing.Update.Update, declared.statement.Insert.Insert}
use Rattle.rls_guard.specs.rls_source.specs.{Askings.known, Askings.followed_by, Named.table_or_undefined}
use Rattle.rls_guard.specs.{declared.context.Ctx.Ctx, Checks.is_unsupported, Keeping.IfDone}
use Rattle.rls_dml.specs.{declared.analysed_insert.AnalysedInsert.AnalysedInsert, Deleting.delete, Deleting.deleted_row, NextRows.InRange, NextRows.new_rows, Updating.changed_rows, Updating.update, Checking.fitting_or_fault, Checking.supported_or_refused, Checking.returning_fits, Checking.returning_unsupported, Inserting.analysed_insert_for, Inserting.analysed_insert_in, Inserting.analysed_insert_named, Inserting.analysed_insert_or_refused, Inserting.analysed_insert_resolved, Inserting.insert, Inserting.insert_into, Inserting.inserted_row, Inserting.numbered, Inserting.places_of, Inserting.room_or_limit, Inserting.tuple_fits}
use Rattle.rls_dml.proofs.{FittingLemmas.done_after, FittingLemmas.done_then, FittingLemmas.given_after, FittingLemmas.given_then, FittingLemmas.insert_into_done, KeepingLemmas.delete_holds, KeepingLemmas.update_holds}

-- ---- INSERT

-- each row of an INSERT is new
all_new : (name places : List ℕ) (txn next : ℕ) (rows : List (List Value)) → new_rows (map (inserted_row name) (numbered places txn next rows)) ≡ length rows
all_new name places txn next [] = refl
all_new name places txn next (row ∷ rows) = ap suc (all_new name places txn (suc next) rows)

-- room, or none
abbrev room : Bool → Result (Unit {0}) Refusal
room b = if b then Ok tt else Err (Limit limit.Inserts)

room_if : (b : Bool) (next count : ℕ) → nat_le (next + count) 4294967295 ≡ b → IfOk (room b) (λ _. next + count ≤ 4294967295)
room_if true next count is = leb-true (next + count) 4294967295 is
room_if false next count is = tt

-- there are numbers left for the tuples
numbers_left : (next : ℕ) (columns : List Column) (analysed_insert : AnalysedInsert) → IfOk (analysed_insert_or_refused next columns analysed_insert) (λ _. next + length analysed_insert.tuples ≤ 4294967295)
numbers_left next columns analysed_insert =
    let unsupported : Bool = list_any (list_any is_unsupported) analysed_insert.tuples || returning_unsupported analysed_insert.returning in
    given_then (λ _. next + length analysed_insert.tuples ≤ 4294967295)
    (fitting_or_fault (list_all (tuple_fits columns analysed_insert.places) analysed_insert.tuples && returning_fits analysed_insert.returning))
    (λ _. and_then (supported_or_refused unsupported) (λ _. room_or_limit next (length analysed_insert.tuples))) (λ _.
    given_then (λ _. next + length analysed_insert.tuples ≤ 4294967295) (supported_or_refused unsupported) (λ _. room_or_limit next (length analysed_insert.tuples)) (λ _.
    room_if (nat_le (next + length analysed_insert.tuples) 4294967295) next (length analysed_insert.tuples) refl))

analysed_insert_in_range : (s : State) (ctx : Ctx) (asked : Insert) (table : TableDef) → IfOk ((analysed_insert_for ctx asked table).in_state s).gives (λ analysed_insert. ctx.next + length analysed_insert.tuples ≤ 4294967295)
analysed_insert_in_range s ctx asked table =
    given_then (λ analysed_insert. ctx.next + length analysed_insert.tuples ≤ 4294967295) (places_of table.columns asked.columns)
    (λ places. ((followed_by (analysed_insert_named asked (asked.table, table)) (λ found. known (analysed_insert_in ctx.next asked (asked.table, table) places found))).in_state s).gives) (λ places.
    given_then (λ analysed_insert. ctx.next + length analysed_insert.tuples ≤ 4294967295) ((analysed_insert_named asked (asked.table, table)).in_state s).gives
    (λ found. analysed_insert_in ctx.next asked (asked.table, table) places found) (λ found.
    let analysed_insert : AnalysedInsert = analysed_insert_resolved asked (asked.table, table) places found in
    given_after (λ _. ctx.next + length analysed_insert.tuples ≤ 4294967295) (λ other. ctx.next + length other.tuples ≤ 4294967295) (analysed_insert_or_refused ctx.next table.columns analysed_insert) (λ _. Ok analysed_insert)
    (numbers_left ctx.next table.columns analysed_insert) (λ _ left. left)))

-- an INSERT leaves the next number in its range
pub insert_in_range : (s : State) (ctx : Ctx) (asked : Insert) → IfDone ((insert ctx asked).in_state s).gives (InRange ctx.next)
insert_in_range s ctx asked =
    done_then (InRange ctx.next) ((table_or_undefined asked.table).in_state s).gives
    (λ table. ((followed_by (analysed_insert_for ctx asked table) (λ analysed_insert. insert_into ctx asked.table table analysed_insert)).in_state s).gives) (λ table.
    done_after (λ analysed_insert. ctx.next + length analysed_insert.tuples ≤ 4294967295) (InRange ctx.next) ((analysed_insert_for ctx asked table).in_state s).gives
    (λ analysed_insert. ((insert_into ctx asked.table table analysed_insert).in_state s).gives) (analysed_insert_in_range s ctx asked table) (λ analysed_insert left.
    insert_into_done (InRange ctx.next) s ctx asked.table table analysed_insert (λ places rows count _. omega (arith, left, count, all_new asked.table places ctx.txn ctx.next rows))))

-- ---- UPDATE and DELETE

none_new : (next : ℕ) (changes : List Change) → new_rows changes ≡ 0 → InRange next changes
none_new next changes none = λ within. omega (arith, none, within)

renewed_old : (name : List ℕ) (old new : List Stored) → new_rows (changed_rows name old new) ≡ 0
renewed_old name old [] = refl
renewed_old name [] (new ∷ news) = refl
renewed_old name (old ∷ olds) (new ∷ news) = renewed_old name olds news

-- an UPDATE leaves the next number as it is
pub update_in_range : (s : State) (ctx : Ctx) (asked : Update) → RowsAreSound s → IfDone ((update ctx asked).in_state s).gives (InRange ctx.next)
update_in_range s ctx asked sound = update_holds (InRange ctx.next) s ctx asked (λ old new _. none_new ctx.next (changed_rows asked.table old new) (renewed_old asked.table old new)) sound

gone_old : (name : List ℕ) (rows : List Stored) → new_rows (map (deleted_row name) rows) ≡ 0
gone_old name [] = refl
gone_old name (stored ∷ rows) = gone_old name rows

-- so does a DELETE
pub delete_in_range : (s : State) (ctx : Ctx) (asked : Delete) → IfDone ((delete ctx asked).in_state s).gives (InRange ctx.next)
delete_in_range s ctx asked = delete_holds (InRange ctx.next) s ctx asked (λ table rows _. none_new ctx.next (map (deleted_row asked.table) rows) (gone_old asked.table rows))
