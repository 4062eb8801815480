-- DELETE (PostgreSQL manual, DELETE, and 5.8): names, then types, then the privileges; then the rows that row security
-- lets go and that WHERE holds of. A row that it hides stays, and nothing is said of it.
use Rattle.std.specs.Prelude.{ℕ, List, [], ◌∷◌, ◌++◌, Some, None, Bool, ◌&&◌, ◌||◌, Result, Ok, map}
use Rattle.std.specs.Option.{option_to_list}
use Rattle.rls_value.specs.{declared.refusal.Refusal.Refusal, Giving.and_then, declared.verb.Privilege.Privilege, declared.verb.Kind.Kind}
use Rattle.rls_expr.specs.{declared.table.TableDef.TableDef, Scopes.InScope, Naming.Step, Resolving.Names}
use Rattle.rls_guard.specs.rls_catalog.specs.{declared.change.Change.Change, declared.stored.Stored.Stored}
use Rattle.rls_guard.specs.rls_catalog.specs.declared.change.Change.TheVariants as change
use Rattle.rls_statement.specs.declared.changing.Delete.{Delete}
use Rattle.rls_guard.specs.{declared.context.Ctx.Ctx, declared.role_privileges.RolePrivileges.RolePrivileges, declared.effect.Effect.Effect, RolePrivileges.role_privileges_of, declared.reply.Decision.Decision, Naming.named, Naming.names_over}
use Rattle.rls_expansion.specs.{declared.expansion.PolicyExpansion.PolicyExpansion, Used.tables_if, Expanding.expansion_of, Expanding.permission_checks}
use Rattle.rls_guard.specs.declared.effect.Effect.TheVariants as effect
use Rattle.rls_guard.specs.rls_source.specs.{Askings.Asking, Askings.known, Askings.followed_by, Named.table_or_undefined}
use Rattle.rls_dml.specs.{declared.deleting.AnalysedDelete.AnalysedDelete, Listings.reply_of, Writing.checks_of, Writing.permissions_or_denied, Checking.columns_read, Checking.has_some, Checking.returning_terms, Checking.returns_all, Checking.where_selected, Checking.where_names, Checking.returning_names, Checking.where_resolved, Checking.returning_resolved, Checking.where_fits, Checking.returning_fits, Checking.fitting_or_fault, Checking.where_unsupported, Checking.returning_unsupported, Checking.supported_or_refused}
use Rattle.rls_judging.specs.{Judging.qualifying_rows_of, ScannedRows.scanned_rows}

-- the names of the condition and of RETURNING
abbrev pub analysed_delete_names : Delete → List Step
analysed_delete_names delete = where_names delete.condition ++ returning_names delete.returning

-- the condition and RETURNING, with resolved columns
abbrev pub analysed_delete_resolved : Delete → Names → AnalysedDelete
analysed_delete_resolved delete names =
    record { condition = where_resolved names delete.condition; returning = returning_resolved names delete.returning; found = names.known }

-- their types, then that nothing in them isn't supported
abbrev pub analysed_delete_or_refused : AnalysedDelete → Result (Unit {0}) Refusal
analysed_delete_or_refused analysed_delete = and_then (fitting_or_fault (where_fits analysed_delete.condition && returning_fits analysed_delete.returning)) (λ _.
    supported_or_refused (where_unsupported analysed_delete.condition || returning_unsupported analysed_delete.returning))

-- the parts, if none is refused
abbrev pub analysed_delete_checked : AnalysedDelete → Result AnalysedDelete Refusal
analysed_delete_checked analysed_delete = and_then (analysed_delete_or_refused analysed_delete) (λ _. Ok analysed_delete)

-- the parts, where those tables were found for subqueries
abbrev pub analysed_delete_in : Delete → InScope → List InScope → Result AnalysedDelete Refusal
analysed_delete_in delete from found = analysed_delete_checked (analysed_delete_resolved delete (names_over from found))

-- the parts of the statement, names before all else; the table's name qualifies its columns
abbrev pub analysed_delete_for : Delete → TableDef → Asking AnalysedDelete
analysed_delete_for delete table = followed_by (named (analysed_delete_names delete) ((delete.table, table) ∷ []) []) (λ found. known (analysed_delete_in delete (delete.table, table) found))

-- the columns that it reads
abbrev pub delete_columns : TableDef → AnalysedDelete → List (List ℕ)
delete_columns table analysed_delete = columns_read table.columns (returns_all analysed_delete.returning) (option_to_list analysed_delete.condition ++ returning_terms analysed_delete.returning)

-- the change that takes the row out of the table
abbrev pub deleted_row : List ℕ → Stored → Change
deleted_row table stored = change.Row (record { table = table; id = stored.id; before = Some (record { key = stored.key; row = stored.row }); after = None })

-- the qualifying rows go, and are answered
abbrev pub deleted : List ℕ → AnalysedDelete → List ℕ → List Decision × List Stored → Effect
deleted name analysed_delete role judged = effect.Done (reply_of analysed_delete.returning role (map (λ stored. stored.row) judged.1)) judged.0 (map (deleted_row name) judged.1) None

-- the qualifying rows
unfoldable pub delete_qualifying_rows : List ℕ → List ℕ → PolicyExpansion → AnalysedDelete → List Stored → Asking Effect
delete_qualifying_rows role name expansion analysed_delete rows = followed_by (qualifying_rows_of expansion.old expansion.relations role analysed_delete.condition rows) (λ judged. known (Ok (deleted name analysed_delete role judged)))

-- the rows, where the role may delete them
unfoldable pub delete_with_quals : RolePrivileges → PolicyExpansion → AnalysedDelete → List ℕ → List ℕ → TableDef → Asking Effect
delete_with_quals role_privileges expansion analysed_delete role name table = followed_by (permissions_or_denied role_privileges (checks_of Privilege.Delete name [] (delete_columns table analysed_delete) (permission_checks expansion (where_selected analysed_delete.found analysed_delete.condition)))) (λ _.
    followed_by (scanned_rows role name table analysed_delete.condition) (λ rows. delete_qualifying_rows role name expansion analysed_delete rows))

-- the policy expansion
unfoldable pub delete_as : RolePrivileges → List ℕ → List ℕ → TableDef → AnalysedDelete → Asking Effect
delete_as role_privileges role name table analysed_delete =
    followed_by (expansion_of role_privileges name table Kind.Delete (has_some (delete_columns table analysed_delete)) (tables_if analysed_delete.condition)) (λ expansion. delete_with_quals role_privileges expansion analysed_delete role name table)

-- who the role is
unfoldable pub delete_from : List ℕ → List ℕ → TableDef → AnalysedDelete → Asking Effect
delete_from role name table analysed_delete = followed_by (role_privileges_of role) (λ role_privileges. delete_as role_privileges role name table analysed_delete)

-- the table has to be there, the names and types to be right
abbrev pub delete : Ctx → Delete → Asking Effect
delete ctx asked = followed_by (table_or_undefined asked.table) (λ table.
    followed_by (analysed_delete_for asked table) (λ analysed_delete. delete_from ctx.role asked.table table analysed_delete))
