-- The parts of a statement on rows, checked (PostgreSQL manual, 4.1 and 4.2): first the names of all parts, in text order,
-- then the types of all, then that nothing stands in them that isn't supported.
use Rattle.std.specs.Prelude.{ℕ, List, [], ◌∷◌, Bool, true, false, Option, Some, None, Result, Ok, Err, if◌then◌else◌, slice_get, map}
use Rattle.std.specs.List.{list_any, list_all}
use Rattle.std.specs.Option.{option_map}
use Rattle.rls_value.specs.{declared.refusal.Refusal.Refusal, declared.refusal.Refusal.TheVariants.TypeFault, declared.refusal.Refusal.TheVariants.Undefined, declared.refusal.Refusal.TheVariants.Unsupported}
use Rattle.rls_value.specs.declared.refusal.NameKind.TheVariants as kind
use Rattle.rls_expr.specs.{declared.table.Column.Column, declared.typing.Typing.Typing, declared.columns.SelectedTable.SelectedTable, Scopes.InScope, Selecting.columns_of, Selecting.names_where, Selecting.selected_of, Tables.column_named}
use Rattle.rls_expr.specs.Terms.{Term, maybe_term, terms_of}
use Rattle.rls_expr.specs.{Naming.Step, Naming.names_all, Resolving.Names, Resolving.resolved}
use Rattle.rls_expr.specs.Typing.{type_of, is_typed, takes_boolean, goes_into}
use Rattle.rls_statement.specs.declared.statement.Selected.{Selected}
use Rattle.rls_statement.specs.declared.statement.Selected.TheVariants as selected
use Rattle.rls_guard.specs.Checks.{is_unsupported, is_unsupported_item}

-- ---- names, which are looked for before all else

-- those of what is selected; `*` and `count(*)` name nothing
abbrev pub selection_names : Selected → List Step
selection_names selected.All = []
selection_names (selected.Items items) = names_all (terms_of items)
selection_names selected.Count = []

-- those of RETURNING, if it is there
abbrev pub returning_names : Option Selected → List Step
returning_names None = []
returning_names (Some items) = selection_names items

-- those of the condition, if there is one
abbrev pub where_names : Option Term → List Step
where_names condition = names_all (maybe_term condition)

-- ---- resolved columns

-- names over no table
abbrev pub names_over_none : List InScope → Names
names_over_none found = record { tables = []; known = found }

-- the term with its columns resolved
abbrev pub resolved_in : Names → Term → Term
resolved_in names term = resolved term names

-- the condition, if there is one
abbrev pub where_resolved : Names → Option Term → Option Term
where_resolved names condition = option_map (resolved_in names) condition

-- `*` and `count(*)` have no columns
abbrev pub selection_resolved : Names → Selected → Selected
selection_resolved names selected.All = selected.All
selection_resolved names (selected.Items items) = selected.Items (map (resolved_in names) items)
selection_resolved names selected.Count = selected.Count

-- RETURNING, if it is there
abbrev pub returning_resolved : Names → Option Selected → Option Selected
returning_resolved names items = option_map (selection_resolved names) items

-- the place, which has to be there
abbrev pub found_or_undefined : List ℕ → Option ℕ → Result ℕ Refusal
found_or_undefined name (Some place) = Ok place
found_or_undefined name None = Err (Undefined kind.Column name)

-- the place of the column of that name
abbrev pub place_or_undefined : List Column → List ℕ → Result ℕ Refusal
place_or_undefined columns name = found_or_undefined name (column_named columns name)

-- ---- types

-- the condition is a boolean, if there is one
abbrev pub where_fits : Option Term → Bool
where_fits None = true
where_fits (Some condition) = takes_boolean (type_of condition)

-- an item may be of any type
abbrev pub item_fits : Term → Bool
item_fits item = is_typed (type_of item)

-- each item has a type
abbrev pub selection_fits : Selected → Bool
selection_fits selected.All = true
selection_fits (selected.Items items) = list_all item_fits items
selection_fits selected.Count = true

-- so has each of RETURNING
abbrev pub returning_fits : Option Selected → Bool
returning_fits None = true
returning_fits (Some items) = selection_fits items

-- the column takes what was typed
abbrev pub goes_into_column : Typing → Option Column → Bool
goes_into_column typing None = false
goes_into_column typing (Some column) = goes_into typing column.kind

-- what is given to the column at that place fits it
abbrev pub value_fits : List Column → ℕ → Term → Bool
value_fits columns place value = goes_into_column (type_of value) (slice_get columns place)

-- types that don't fit are refused
abbrev pub fitting_or_fault : Bool → Result (Unit {0}) Refusal
fitting_or_fault fits = if fits then Ok tt else Err TypeFault

-- ---- what isn't supported

-- the condition
abbrev pub where_unsupported : Option Term → Bool
where_unsupported None = false
where_unsupported (Some condition) = is_unsupported condition

-- an item
abbrev pub selection_unsupported : Selected → Bool
selection_unsupported selected.All = false
selection_unsupported (selected.Items items) = list_any is_unsupported_item items
selection_unsupported selected.Count = false

-- an item of RETURNING
abbrev pub returning_unsupported : Option Selected → Bool
returning_unsupported None = false
returning_unsupported (Some items) = selection_unsupported items

-- such a part is refused
abbrev pub supported_or_refused : Bool → Result (Unit {0}) Refusal
supported_or_refused unsupported = if unsupported then Err Unsupported else Ok tt

-- ---- which columns are mentioned

-- the expressions that are selected; `*` and `count(*)` have none
abbrev pub selection_terms : Selected → List Term
selection_terms selected.All = []
selection_terms (selected.Items items) = items
selection_terms selected.Count = []

-- those of RETURNING
abbrev pub returning_terms : Option Selected → List Term
returning_terms None = []
returning_terms (Some items) = selection_terms items

-- all columns are selected
abbrev pub selects_all : Selected → Bool
selects_all selected.All = true
selects_all (selected.Items items) = false
selects_all selected.Count = false

-- all columns are returned
abbrev pub returns_all : Option Selected → Bool
returns_all None = false
returns_all (Some items) = selects_all items

-- the columns that stand in the expressions, in the table's order; for `*` all
abbrev pub columns_read : List Column → Bool → List Term → List (List ℕ)
columns_read columns all terms = if all then map (λ column. column.name) columns else columns_of columns terms

-- the columns that are written: those at these places, in the table's order
abbrev pub columns_at : (ℕ → Bool) → List Column → List (List ℕ)
columns_at is_written columns = names_where is_written 0 columns

-- there are some
abbrev pub has_some : List (List ℕ) → Bool
has_some [] = false
has_some (name ∷ names) = true

-- the tables of the condition's subqueries, with the columns that they mention
abbrev pub where_selected : List InScope → Option Term → List SelectedTable
where_selected found None = []
where_selected found (Some condition) = selected_of found condition
