-- UPDATE (PostgreSQL manual, UPDATE, and 5.8): names, then types, then the privileges; then the rows that row security
-- lets change and that WHERE holds of get their new values: their ranges come before the new rows are judged.
use Rattle.std.specs.Prelude.{ℕ, List, [], ◌∷◌, ◌++◌, Some, None, Bool, true, ◌&&◌, ◌||◌, Result, Ok, Err, length, map}
use Rattle.std.specs.List.{list_any}
use Rattle.std.specs.Option.{option_to_list}
use Rattle.rls_value.specs.{declared.refusal.Refusal.Refusal, declared.value.Value.Value, Giving.and_then, declared.verb.Privilege.Privilege, declared.verb.Kind.Kind}
use Rattle.rls_expr.specs.{declared.table.Column.Column, declared.table.TableDef.TableDef, declared.columns.SelectedTable.SelectedTable, Selecting.selected_of, Scopes.InScope, Resolving.Names, Terms.Term, Naming.Step, Naming.Look, Naming.names_of}
use Rattle.rls_guard.specs.rls_catalog.specs.{declared.change.Change.Change, declared.stored.Stored.Stored}
use Rattle.rls_statement.specs.{declared.changing.Assignment.Assignment, declared.changing.Update.Update}
use Rattle.rls_guard.specs.{declared.context.Ctx.Ctx, declared.role_privileges.RolePrivileges.RolePrivileges, declared.reply.Decision.Decision, declared.effect.Effect.Effect, Support.is_unsupported, RolePrivileges.role_privileges_of, Naming.named, Naming.names_over}
use Rattle.rls_expansion.specs.{declared.expansion.PolicyExpansion.PolicyExpansion, Expanding.expansion_of, Expanding.permission_checks, Used.all_tables, Used.tables_if}
use Rattle.rls_guard.specs.declared.effect.Effect.TheVariants as effect
use Rattle.rls_guard.specs.rls_source.specs.{Askings.Asking, Askings.known, Askings.followed_by, Askings.settled, Sequences.each_of, Named.table_or_undefined}
use Rattle.rls_dml.specs.{declared.analysed_update.AnalysedUpdate.AnalysedUpdate, Listings.reply_of, Writing.checks_of, Writing.is_written, Writing.permissions_or_denied, Checking.columns_at, Checking.columns_read, Checking.has_some, Checking.returning_terms, Checking.returns_all, Checking.where_selected, Writing.assigned, Writing.each_taking, Writing.key_at, Writing.order_of, Writing.rows_or_refused, Checking.where_names, Checking.returning_names, Checking.resolved_in, Checking.where_resolved, Checking.returning_resolved, Checking.place_or_undefined, Checking.value_fits, Checking.where_fits, Checking.returning_fits, Checking.fitting_or_fault, Checking.where_unsupported, Checking.returning_unsupported, Checking.supported_or_refused}
use Rattle.rls_judging.specs.{Judging.qualifying_rows_of, Judging.decisions_of, Valuing.assignments_of, ScannedRows.scanned_rows}

-- ---- its parts

-- the names of SET: each column of the target, and then those of what it is set to
abbrev pub assignments_names : List Assignment → List Step
assignments_names [] = []
assignments_names (assignment ∷ assignments) = Look (record { qualifier = None; name = assignment.column }) ∷ (names_of assignment.value ++ assignments_names assignments)

-- the names of SET, of the condition and of RETURNING
abbrev pub analysed_update_names : Update → List Step
analysed_update_names update = assignments_names update.assignments ++ (where_names update.condition ++ returning_names update.returning)

-- a column, which was found, and what it is set to
abbrev pub assignment_resolved : List Column → Names → Assignment → Result (ℕ × Term) Refusal
assignment_resolved columns names assignment = and_then (place_or_undefined columns assignment.column) (λ place. Ok (place, resolved_in names assignment.value))

-- the tables of the subqueries in what columns are set to, with the columns that they mention
abbrev pub assignments_selected : List InScope → List (ℕ × Term) → List SelectedTable
assignments_selected found [] = []
assignments_selected found (assignment ∷ assignments) = selected_of found assignment.1 ++ assignments_selected found assignments

-- the parts, with resolved columns
abbrev pub analysed_update_resolved : Update → List Column → Names → Result AnalysedUpdate Refusal
analysed_update_resolved update columns names = and_then (each_of (assignment_resolved columns names) update.assignments) (λ assignments.
    Ok (record {
      assignments = assignments;
      condition = where_resolved names update.condition;
      returning = returning_resolved names update.returning;
      found = names.known;
    }))

-- each column is set to what fits it
abbrev pub assignments_fit : List Column → List (ℕ × Term) → Bool
assignments_fit columns [] = true
assignments_fit columns ((place, value) ∷ assignments) = value_fits columns place value && assignments_fit columns assignments

-- something in what a column is set to isn't supported, where a sum may stand
abbrev pub assignments_unsupported : List (ℕ × Term) → Bool
assignments_unsupported assignments = list_any (λ assignment. is_unsupported true assignment.1) assignments

-- types, then that nothing isn't supported; in what a column is set to a sum is
abbrev pub analysed_update_or_refused : List Column → AnalysedUpdate → Result (Unit {0}) Refusal
analysed_update_or_refused columns analysed_update =
    and_then (fitting_or_fault (assignments_fit columns analysed_update.assignments && (where_fits analysed_update.condition && returning_fits analysed_update.returning))) (λ _.
    supported_or_refused (assignments_unsupported analysed_update.assignments || (where_unsupported analysed_update.condition || returning_unsupported analysed_update.returning)))

-- the parts, where those tables were found for subqueries
abbrev pub analysed_update_in : Update → InScope → List InScope → Result AnalysedUpdate Refusal
analysed_update_in update from found = and_then (analysed_update_resolved update from.1.columns (names_over from found)) (λ analysed_update. and_then (analysed_update_or_refused from.1.columns analysed_update) (λ _. Ok analysed_update))

-- the parts of the statement, names before all else; the table's name qualifies its columns
abbrev pub analysed_update_for : Update → TableDef → Asking AnalysedUpdate
analysed_update_for update table = followed_by (named (analysed_update_names update) ((update.table, table) ∷ []) []) (λ found. known (analysed_update_in update (update.table, table) found))

-- the columns that it sets
abbrev pub update_columns : TableDef → AnalysedUpdate → List (List ℕ)
update_columns table analysed_update = columns_at (is_written (map (λ assignment. assignment.0) analysed_update.assignments)) table.columns

-- the columns that it reads, to the right of SET's equal signs too
abbrev pub update_columns_read : TableDef → AnalysedUpdate → List (List ℕ)
update_columns_read table analysed_update =
    columns_read table.columns (returns_all analysed_update.returning) ((map (λ assignment. assignment.1) analysed_update.assignments ++ option_to_list analysed_update.condition) ++ returning_terms analysed_update.returning)

-- the tables of its subqueries, with the columns that they mention: to the right of SET's equal signs, then in WHERE
abbrev pub update_selected : AnalysedUpdate → List SelectedTable
update_selected analysed_update = assignments_selected analysed_update.found analysed_update.assignments ++ where_selected analysed_update.found analysed_update.condition

-- ---- its rows

-- the places that are set
abbrev pub places_set : List (ℕ × Term) → List ℕ
places_set assignments = map (λ assignment. assignment.0) assignments

-- the row with its new values; its number stays
abbrev pub updated_row : TableDef → List ℕ → Stored → List Value → Result Stored Refusal
updated_row table places stored values =
    and_then (assigned table.columns places values stored.row) (λ row. Ok (record { id = stored.id; key = key_at table.key row; row = row }))

-- the rows with their new values, as many for each as are set
abbrev pub updated_rows : TableDef → List ℕ → List Stored → List Value → Result (List Stored) Refusal
updated_rows table places old values = each_taking (length places) (updated_row table places) old values

-- the change from the old row to the new one
abbrev pub changed_row : List ℕ → Stored → Stored → Change
changed_row table old new = Change.Row (record { table = table; id = old.id; before = Some (record { key = old.key; row = old.row }); after = Some (record { key = new.key; row = new.row }) })

-- the changes from the old rows to the new ones
abbrev pub changed_rows : List ℕ → List Stored → List Stored → List Change
changed_rows table olds [] = []
changed_rows table [] (new ∷ news) = []
changed_rows table (old ∷ olds) (new ∷ news) = changed_row table old new ∷ changed_rows table olds news

-- ---- the statement

-- the decisions stand also where the new rows are refused
abbrev pub updated : List ℕ → AnalysedUpdate → List ℕ → List Decision → List Stored → List Stored → Result (Unit {0}) Refusal → Effect
updated table analysed_update role decisions old new (Ok _) = effect.Done (reply_of analysed_update.returning role (map (λ stored. stored.row) new)) decisions (changed_rows table old new) None
updated table analysed_update role decisions old new (Err refusal) = effect.Refused refusal decisions

-- each new row is judged, and then all are changed or none
unfoldable pub update_judged : List ℕ → List ℕ → TableDef → AnalysedUpdate → List Decision → List Stored → List Stored → List Decision → Asking Effect
update_judged role name table analysed_update before old new after =
    settled (rows_or_refused name table.columns (order_of (places_set analysed_update.assignments) table.columns) after old new) (updated name analysed_update role (before ++ after) old new)

-- what row security says of them is asked first
unfoldable pub update_rows : List ℕ → List ℕ → TableDef → PolicyExpansion → AnalysedUpdate → List Decision → List Stored → List Stored → Asking Effect
update_rows role name table expansion analysed_update before old new = followed_by (decisions_of expansion.new expansion.relations role new) (update_judged role name table analysed_update before old new)

-- the ranges of the new values, and then the rows
unfoldable pub update_made : List ℕ → List ℕ → TableDef → PolicyExpansion → AnalysedUpdate → List Decision → List Stored → List Value → Asking Effect
update_made role name table expansion analysed_update before old values = followed_by (known (updated_rows table (places_set analysed_update.assignments) old values)) (λ new.
    update_rows role name table expansion analysed_update before old new)

-- the new values of the qualifying rows, which are told of all before their ranges are
unfoldable pub update_values : List ℕ → List ℕ → TableDef → PolicyExpansion → AnalysedUpdate → List Decision → List Stored → Asking Effect
update_values role name table expansion analysed_update before old = followed_by (assignments_of expansion.relations role analysed_update.assignments old) (λ values.
    update_made role name table expansion analysed_update before old values)

-- the qualifying rows
unfoldable pub update_qualifying_rows : List ℕ → List ℕ → TableDef → PolicyExpansion → AnalysedUpdate → List Stored → Asking Effect
update_qualifying_rows role name table expansion analysed_update rows = followed_by (qualifying_rows_of expansion.old expansion.relations role analysed_update.condition rows) (λ judged.
    update_values role name table expansion analysed_update judged.0 judged.1)

-- the rows, where the role may change them
unfoldable pub update_with_quals : RolePrivileges → PolicyExpansion → AnalysedUpdate → List ℕ → List ℕ → TableDef → Asking Effect
update_with_quals role_privileges expansion analysed_update role name table = followed_by (permissions_or_denied role_privileges (checks_of Privilege.Update name (update_columns table analysed_update) (update_columns_read table analysed_update) (permission_checks expansion (update_selected analysed_update)))) (λ _.
    followed_by (scanned_rows role name table analysed_update.condition) (λ rows. update_qualifying_rows role name table expansion analysed_update rows))

-- the tables of its subqueries: to the right of SET's equal signs, then in WHERE
abbrev pub analysed_update_tables : AnalysedUpdate → List (List ℕ)
analysed_update_tables analysed_update = all_tables (map (λ assignment. assignment.1) analysed_update.assignments) ++ tables_if analysed_update.condition

-- the policy expansion, before and after
unfoldable pub update_as : RolePrivileges → List ℕ → List ℕ → TableDef → AnalysedUpdate → Asking Effect
update_as role_privileges role name table analysed_update =
    followed_by (expansion_of role_privileges name table Kind.Update (has_some (update_columns_read table analysed_update)) (analysed_update_tables analysed_update)) (λ expansion. update_with_quals role_privileges expansion analysed_update role name table)

-- who the role is
unfoldable pub update_in : List ℕ → List ℕ → TableDef → AnalysedUpdate → Asking Effect
update_in role name table analysed_update = followed_by (role_privileges_of role) (λ role_privileges. update_as role_privileges role name table analysed_update)

-- the table has to be there, the names and types to be right
abbrev pub update : Ctx → Update → Asking Effect
update ctx asked = followed_by (table_or_undefined asked.table) (λ table.
    followed_by (analysed_update_for asked table) (λ analysed_update. update_in ctx.role asked.table table analysed_update))
