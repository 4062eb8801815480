-- INSERT .. VALUES (PostgreSQL manual, INSERT, and 5.8): names, then types, then how many rows, then the privileges, then
-- the ranges; then the rows are judged: row security, then NOT NULL, then the primary key.
use Rattle.std.specs.Prelude.{ℕ, suc, ◌+◌, List, [], ◌∷◌, ◌++◌, Option, Some, None, Bool, true, false, ◌&&◌, ◌||◌, nat_le, Result, Ok, Err, length, if◌then◌else◌, map, take}
use Rattle.std.specs.List.{list_any, list_all}
use Rattle.rls_value.specs.{declared.value.Value.Value, declared.value.Value.TheVariants.Null, declared.refusal.Refusal.Refusal, declared.refusal.Refusal.TheVariants.Limit, Giving.and_then, declared.verb.Privilege.Privilege, declared.verb.Kind.Kind}
use Rattle.rls_value.specs.declared.refusal.Limit.TheVariants as limit
use Rattle.rls_expr.specs.{declared.columns.SelectedTable.SelectedTable, Selecting.selected_of, declared.table.Column.Column, declared.table.TableDef.TableDef, Scopes.InScope, Resolving.Names, Terms.Term, Terms.terms_of, Naming.Step, Naming.names_all}
use Rattle.rls_guard.specs.rls_catalog.specs.{declared.change.Change.Change, declared.stored.Stored.Stored}
use Rattle.rls_statement.specs.{declared.statement.Insert.Insert, declared.statement.Selected.Selected}
use Rattle.rls_guard.specs.{declared.context.Ctx.Ctx, declared.role_privileges.RolePrivileges.RolePrivileges, declared.reply.Decision.Decision, declared.effect.Effect.Effect, Checks.is_unsupported, RolePrivileges.role_privileges_of, Naming.named, Naming.names_over}
use Rattle.rls_expansion.specs.{declared.expansion.PolicyExpansion.PolicyExpansion, Used.all_tables, Expanding.expansion_of, Expanding.permission_checks}
use Rattle.rls_guard.specs.rls_source.specs.{Askings.Asking, Askings.known, Askings.followed_by, Askings.settled, Sequences.each_of, Named.table_or_undefined}
use Rattle.rls_dml.specs.{declared.analysed_insert.AnalysedInsert.AnalysedInsert, Listings.reply_of, Writing.checks_of, Writing.is_written, Writing.permissions_or_denied, Checking.columns_at, Checking.columns_read, Checking.has_some, Checking.returning_terms, Checking.returns_all, Writing.assigned, Writing.each_with, Writing.key_at, Writing.order_of, Writing.rows_or_refused, Checking.names_over_none, Checking.returning_names, Checking.resolved_in, Checking.returning_resolved, Checking.place_or_undefined, Checking.value_fits, Checking.returning_fits, Checking.fitting_or_fault, Checking.returning_unsupported, Checking.supported_or_refused}
use Rattle.rls_judging.specs.{Judging.decisions_of, Valuing.tuples_of}

-- ---- its parts

-- the places from this one on
abbrev pub places_from : ℕ → List Column → List ℕ
places_from place [] = []
places_from place (column ∷ columns) = place ∷ places_from (suc place) columns

-- the places that are written: those of the list or, without one, all
abbrev pub places_of : List Column → Option (List (List ℕ)) → Result (List ℕ) Refusal
places_of columns None = Ok (places_from 0 columns)
places_of columns (Some names) = each_of (place_or_undefined columns) names

-- the names of the tuples
abbrev pub tuples_names : List (List Term) → List Step
tuples_names [] = []
tuples_names (tuple ∷ tuples) = names_all (terms_of tuple) ++ tuples_names tuples

-- a tuple's terms, which have no columns
abbrev pub tuple_resolved : Names → List Term → List Term
tuple_resolved names tuple = map (resolved_in names) tuple

-- each term goes into its column, and there are no more terms than places
abbrev pub tuple_fits : List Column → List ℕ → List Term → Bool
tuple_fits columns places [] = true
tuple_fits columns [] (term ∷ terms) = false
tuple_fits columns (place ∷ places) (term ∷ terms) = value_fits columns place term && tuple_fits columns places terms

-- a transaction inserts at most 4294967295 rows
abbrev pub room_or_limit : ℕ → ℕ → Result (Unit {0}) Refusal
room_or_limit next count = if nat_le (next + count) 4294967295 then Ok tt else Err (Limit limit.Inserts)

-- the names of the tuples, which have no table in scope, and of RETURNING
abbrev pub analysed_insert_named : Insert → InScope → Asking (List InScope)
analysed_insert_named insert from = followed_by (named (tuples_names insert.tuples) [] []) (λ found. named (returning_names insert.returning) (from ∷ []) found)

-- the tables of the tuples' subqueries, with the columns that they mention
abbrev pub tuple_selected : List InScope → List Term → List SelectedTable
tuple_selected found [] = []
tuple_selected found (term ∷ terms) = selected_of found term ++ tuple_selected found terms

-- of all tuples
abbrev pub tuples_selected : List InScope → List (List Term) → List SelectedTable
tuples_selected found [] = []
tuples_selected found (tuple ∷ tuples) = tuple_selected found tuple ++ tuples_selected found tuples

-- the parts, with resolved columns
abbrev pub analysed_insert_resolved : Insert → InScope → List ℕ → List InScope → AnalysedInsert
analysed_insert_resolved insert from places found = record {
  places = places;
  tuples = map (tuple_resolved (names_over_none found)) insert.tuples;
  returning = returning_resolved (names_over from found) insert.returning;
  found = found;
}

-- their types, then that nothing in them isn't supported, then how many rows
abbrev pub analysed_insert_or_refused : ℕ → List Column → AnalysedInsert → Result (Unit {0}) Refusal
analysed_insert_or_refused next columns analysed_insert =
    and_then (fitting_or_fault (list_all (tuple_fits columns analysed_insert.places) analysed_insert.tuples && returning_fits analysed_insert.returning)) (λ _.
    and_then (supported_or_refused (list_any (list_any is_unsupported) analysed_insert.tuples || returning_unsupported analysed_insert.returning)) (λ _.
    room_or_limit next (length analysed_insert.tuples)))

-- the parts, where those places are written and those tables were found for subqueries
abbrev pub analysed_insert_in : ℕ → Insert → InScope → List ℕ → List InScope → Result AnalysedInsert Refusal
analysed_insert_in next insert from places found = and_then (analysed_insert_or_refused next from.1.columns (analysed_insert_resolved insert from places found)) (λ _. Ok (analysed_insert_resolved insert from places found))

-- the parts of the statement, names before all else, those of the list first; the table's name qualifies its columns
abbrev pub analysed_insert_for : Ctx → Insert → TableDef → Asking AnalysedInsert
analysed_insert_for ctx insert table = followed_by (known (places_of table.columns insert.columns)) (λ places.
    followed_by (analysed_insert_named insert (insert.table, table)) (λ found. known (analysed_insert_in ctx.next insert (insert.table, table) places found)))

-- ---- its rows

-- a null for each column
abbrev pub nulls : List Column → List Value
nulls columns = map (λ _. Null) columns

-- the values of a tuple in their columns; a column without one is null
abbrev pub row_of_tuple : TableDef → List ℕ → List Term → List Value → Result (List Value) Refusal
row_of_tuple table places tuple values = assigned table.columns places values (nulls table.columns)

-- the rows with their keys, numbered on from the transaction's next
abbrev pub numbered : List ℕ → ℕ → ℕ → List (List Value) → List Stored
numbered places txn next [] = []
numbered places txn next (row ∷ rows) = record { id = record { txn = txn; n = next }; key = key_at places row; row = row } ∷ numbered places txn (suc next) rows

-- the rows of the tuples, whose values are in range, with their numbers
abbrev pub new_rows : Ctx → TableDef → AnalysedInsert → List (List Value) → Result (List Stored) Refusal
new_rows ctx table analysed_insert values = and_then (each_with (row_of_tuple table analysed_insert.places) analysed_insert.tuples values) (λ rows. Ok (numbered table.key ctx.txn ctx.next rows))

-- the change that puts a new row into the table
abbrev pub inserted_row : List ℕ → Stored → Change
inserted_row table stored = Change.Row (record { table = table; id = stored.id; before = None; after = Some (record { key = stored.key; row = stored.row }) })

-- ---- the statement

-- the decisions stand also where the rows are refused
abbrev pub inserted : List ℕ → Option Selected → List ℕ → List Decision → List Stored → Result (Unit {0}) Refusal → Effect
inserted table returning role decisions rows (Ok _) = Effect.Done (reply_of returning role (map (λ stored. stored.row) rows)) decisions (map (inserted_row table) rows) None
inserted table returning role decisions rows (Err refusal) = Effect.Refused refusal decisions

-- each new row is judged, and then all are put in or none
unfoldable pub insert_judged : List ℕ → List ℕ → TableDef → AnalysedInsert → List Stored → List Decision → Asking Effect
insert_judged role name table analysed_insert rows decisions =
    settled (rows_or_refused name table.columns (order_of analysed_insert.places table.columns) decisions [] rows) (inserted name analysed_insert.returning role decisions rows)

-- what row security says of them is asked first
unfoldable pub insert_rows : List ℕ → List ℕ → TableDef → PolicyExpansion → AnalysedInsert → List Stored → Asking Effect
insert_rows role name table expansion analysed_insert rows = followed_by (decisions_of expansion.new expansion.relations role rows) (insert_judged role name table analysed_insert rows)

-- the ranges of the values
unfoldable pub insert_made : Ctx → List ℕ → TableDef → PolicyExpansion → AnalysedInsert → List (List Value) → Asking Effect
insert_made ctx name table expansion analysed_insert values = followed_by (known (new_rows ctx table analysed_insert values)) (λ rows.
    insert_rows ctx.role name table expansion analysed_insert rows)

-- the values of the tuples, then their ranges
unfoldable pub insert_values : Ctx → List ℕ → TableDef → PolicyExpansion → AnalysedInsert → Asking Effect
insert_values ctx name table expansion analysed_insert = followed_by (tuples_of expansion.relations ctx.role analysed_insert.tuples) (insert_made ctx name table expansion analysed_insert)

-- some tuple gives the column at that place a value
abbrev pub is_given : List ℕ → List (List Term) → ℕ → Bool
is_given places tuples place = list_any (λ tuple. is_written (take (length tuple) places) place) tuples

-- the columns that are given a value
abbrev pub insert_columns : TableDef → AnalysedInsert → List (List ℕ)
insert_columns table analysed_insert = columns_at (is_given analysed_insert.places analysed_insert.tuples) table.columns

-- the columns that it reads
abbrev pub insert_columns_read : TableDef → AnalysedInsert → List (List ℕ)
insert_columns_read table analysed_insert = columns_read table.columns (returns_all analysed_insert.returning) (returning_terms analysed_insert.returning)

-- the privileges, then the values
unfoldable pub insert_with_quals : Ctx → List ℕ → TableDef → RolePrivileges → PolicyExpansion → AnalysedInsert → Asking Effect
insert_with_quals ctx name table role_privileges expansion analysed_insert = followed_by (permissions_or_denied role_privileges (checks_of Privilege.Insert name (insert_columns table analysed_insert) (insert_columns_read table analysed_insert) (permission_checks expansion (tuples_selected analysed_insert.found analysed_insert.tuples)))) (λ _.
    insert_values ctx name table expansion analysed_insert)

-- the tables of the tuples' subqueries
abbrev pub tuples_tables : List (List Term) → List (List ℕ)
tuples_tables [] = []
tuples_tables (tuple ∷ tuples) = all_tables tuple ++ tuples_tables tuples

-- the policy expansion of the new rows
unfoldable pub insert_as : Ctx → List ℕ → TableDef → RolePrivileges → AnalysedInsert → Asking Effect
insert_as ctx name table role_privileges analysed_insert =
    followed_by (expansion_of role_privileges name table Kind.Insert (has_some (insert_columns_read table analysed_insert)) (tuples_tables analysed_insert.tuples)) (λ expansion. insert_with_quals ctx name table role_privileges expansion analysed_insert)

-- who the role is
unfoldable pub insert_into : Ctx → List ℕ → TableDef → AnalysedInsert → Asking Effect
insert_into ctx name table analysed_insert = followed_by (role_privileges_of ctx.role) (λ role_privileges. insert_as ctx name table role_privileges analysed_insert)

-- the table has to be there, and the parts to be right
abbrev pub insert : Ctx → Insert → Asking Effect
insert ctx asked = followed_by (table_or_undefined asked.table) (λ table.
    followed_by (analysed_insert_for ctx asked table) (λ analysed_insert. insert_into ctx asked.table table analysed_insert))
