-- SELECT (PostgreSQL manual, SELECT, and 5.8): names, then types, then the privilege; then the rows that row security
-- shows and that WHERE holds of.
use Rattle.std.specs.Prelude.{ℕ, List, [], ◌∷◌, ◌++◌, None, false, ◌&&◌, ◌||◌, Result, Ok, map, unwrap_or}
use Rattle.std.specs.Option.{option_to_list}
use Rattle.rls_value.specs.{declared.refusal.Refusal.Refusal, Giving.and_then, declared.verb.Privilege.Privilege}
use Rattle.rls_value.specs.declared.verb.Kind.TheVariants as kind
use Rattle.rls_expr.specs.{declared.table.TableDef.TableDef, Scopes.InScope, Naming.Step, Resolving.Names}
use Rattle.rls_guard.specs.rls_catalog.specs.declared.stored.Stored.{Stored}
use Rattle.rls_statement.specs.declared.statement.Select.{Select}
use Rattle.rls_guard.specs.{declared.context.Ctx.Ctx, declared.role_privileges.RolePrivileges.RolePrivileges, declared.reply.Reply.TheVariants.Rows, declared.effect.Effect.Effect, RolePrivileges.role_privileges_of, declared.reply.Decision.Decision, Naming.named, Naming.names_over}
use Rattle.rls_expansion.specs.{declared.expansion.PolicyExpansion.PolicyExpansion, Used.tables_if, Expanding.expansion_of, Expanding.permission_checks}
use Rattle.rls_guard.specs.declared.effect.Effect.TheVariants as effect
use Rattle.rls_dml.specs.{Writing.checks_of, Writing.permissions_or_denied, Checking.columns_read, Checking.selection_terms, Checking.selects_all, Checking.where_selected, declared.selecting.AnalysedSelect.AnalysedSelect, Listings.answered, Checking.selection_names, Checking.where_names, Checking.selection_resolved, Checking.where_resolved, Checking.selection_fits, Checking.where_fits, Checking.fitting_or_fault, Checking.selection_unsupported, Checking.where_unsupported, Checking.supported_or_refused}
use Rattle.rls_guard.specs.rls_source.specs.{Askings.Asking, Askings.known, Askings.followed_by, Named.table_or_undefined}
use Rattle.rls_judging.specs.{Judging.qualifying_rows_of, ScannedRows.scanned_rows}

-- what qualifies the columns: the alias or, without one, the table's name
abbrev pub qualifier_of : Select → List ℕ
qualifier_of select = unwrap_or select.alias select.table

-- the names of the items and of the condition
abbrev pub analysed_select_names : Select → List Step
analysed_select_names select = selection_names select.items ++ where_names select.condition

-- the items and the condition, with resolved columns
abbrev pub analysed_select_resolved : Select → Names → AnalysedSelect
analysed_select_resolved select names =
    record { items = selection_resolved names select.items; condition = where_resolved names select.condition; found = names.known }

-- their types, then that nothing in them isn't supported
abbrev pub analysed_select_or_refused : AnalysedSelect → Result (Unit {0}) Refusal
analysed_select_or_refused analysed_select = and_then (fitting_or_fault (selection_fits analysed_select.items && where_fits analysed_select.condition)) (λ _.
    supported_or_refused (selection_unsupported analysed_select.items || where_unsupported analysed_select.condition))

-- the parts, where those tables were found for subqueries
abbrev pub analysed_select_in : Select → InScope → List InScope → Result AnalysedSelect Refusal
analysed_select_in select from found = and_then (analysed_select_or_refused (analysed_select_resolved select (names_over from found))) (λ _. Ok (analysed_select_resolved select (names_over from found)))

-- the parts of the statement, names before all else
abbrev pub analysed_select_for : Select → InScope → Asking AnalysedSelect
analysed_select_for select from = followed_by (named (analysed_select_names select) (from ∷ []) []) (λ found. known (analysed_select_in select from found))

-- the columns that it mentions
abbrev pub select_columns : TableDef → AnalysedSelect → List (List ℕ)
select_columns table analysed_select = columns_read table.columns (selects_all analysed_select.items) (option_to_list analysed_select.condition ++ selection_terms analysed_select.items)

-- the answer from the rows that are allowed and meet the condition, and the decision on each row
abbrev pub listed_by : AnalysedSelect → List ℕ → List Decision × List Stored → Effect
listed_by analysed_select role judged = effect.Done (Rows (answered analysed_select.items role (map (λ stored. stored.row) judged.1))) judged.0 [] None

-- the rows that are allowed and meet the condition
unfoldable pub listed_from : List ℕ → PolicyExpansion → AnalysedSelect → List Stored → Asking Effect
listed_from role expansion analysed_select rows = followed_by (qualifying_rows_of expansion.old expansion.relations role analysed_select.condition rows) (λ judged. known (Ok (listed_by analysed_select role judged)))

-- the rows, where the role may read the table
unfoldable pub listed_for : RolePrivileges → PolicyExpansion → AnalysedSelect → List ℕ → List ℕ → TableDef → Asking Effect
listed_for role_privileges expansion analysed_select role name table = followed_by (permissions_or_denied role_privileges (checks_of Privilege.Select name (select_columns table analysed_select) [] (permission_checks expansion (where_selected analysed_select.found analysed_select.condition)))) (λ _.
    followed_by (scanned_rows role name table analysed_select.condition) (λ rows. listed_from role expansion analysed_select rows))

-- the policy expansion, and the rows
unfoldable pub select_as : RolePrivileges → List ℕ → List ℕ → TableDef → AnalysedSelect → Asking Effect
select_as role_privileges role name table analysed_select =
    followed_by (expansion_of role_privileges name table kind.Select false (tables_if analysed_select.condition)) (λ expansion. listed_for role_privileges expansion analysed_select role name table)

-- who the role is, and the rows
unfoldable pub select_from : List ℕ → List ℕ → TableDef → AnalysedSelect → Asking Effect
select_from role name table analysed_select = followed_by (role_privileges_of role) (λ role_privileges. select_as role_privileges role name table analysed_select)

-- the table has to be there, the query's names and types to be right
abbrev pub select : Ctx → Select → Asking Effect
select ctx asked = followed_by (table_or_undefined asked.table) (λ table.
    followed_by (analysed_select_for asked (qualifier_of asked, table)) (λ analysed_select. select_from ctx.role asked.table table analysed_select))
