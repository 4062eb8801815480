-- The columns that a command is asked for, and the tables of its subqueries with theirs, are those of its meaning.
use Rattle.std.specs.Prelude.{◌≡◌, refl, ℕ, List, [], ◌∷◌, ◌++◌, Option, Some, None, map, nat_eq, if◌then◌else◌}
use Rattle.std.specs.List.{flat_map, list_any}
use Rattle.std.specs.Option.{option_to_list}
use Rattle.std.proofs.Common.{ap, sym, ◌∙◌, append-nil}
use Rattle.rls_expr.specs.declared.table.Column.{Column as ColumnOf}
use Rattle.rls_expr.specs.{Scopes.InScope, Selecting.columns_of as machine_columns, Selecting.names_where, Selecting.selected_of, Terms.Term}
use Rattle.rls_expr.proofs.SelectingLaws.{selected_tables}
use Rattle.rls_statement.specs.declared.statement.Selected.{Selected}
use Rattle.rls_statement.specs.declared.statement.Selected.TheVariants as selected
use Rattle.rls_expansion.specs.Used.{all_tables, tables_if}
use Rattle.rls_access.specs.rls_dml.specs.{declared.analysed_update.AnalysedUpdate.AnalysedUpdate, Checking.columns_read, Checking.returning_terms, Checking.returns_all, Checking.selection_terms, Checking.selects_all, Checking.where_selected, Inserting.tuple_selected, Inserting.tuples_selected, Inserting.tuples_tables, Updating.analysed_update_tables, Updating.assignments_selected, Updating.update_selected}
use Rattle.rls_meaning.specs.{Analysing.columns_in, Analysing.is_all, Analysing.items_of, Parts.columns_of, Updating.set_and_where}
use Rattle.rls_meaning.proofs.{Listing.flat_append, Listing.tables, Parts.mentions_told, Selected.tables_append}

-- ---- columns

all_told : (items : Selected) → selects_all items ≡ is_all (Some items)
all_told selected.All = refl
all_told (selected.Items items) = refl
all_told selected.Count = refl

terms_told : (items : Selected) → selection_terms items ≡ items_of (Some items)
terms_told selected.All = refl
terms_told (selected.Items items) = refl
terms_told selected.Count = refl

returned_all : (returning : Option Selected) → returns_all returning ≡ is_all returning
returned_all None = refl
returned_all (Some items) = all_told items

returned_terms : (returning : Option Selected) → returning_terms returning ≡ items_of returning
returned_terms None = refl
returned_terms (Some items) = terms_told items

columns_told : (columns : List ColumnOf) (terms : List Term) → machine_columns columns terms ≡ columns_of columns terms
columns_told columns terms = λ i. names_where (λ place. list_any (λ term. mentions_told (nat_eq place) 0 term i) terms) 0 columns

-- those that expressions and RETURNING mention
pub read_told : (columns : List ColumnOf) (terms : List Term) (returning : Option Selected) → columns_read columns (returns_all returning) (terms ++ returning_terms returning) ≡ columns_in columns terms returning
read_told columns terms returning = λ i. if returned_all returning i then map (λ column. column.name) columns else columns_told columns (terms ++ returned_terms returning i) i

-- those that expressions and what is selected mention
pub selected_told : (columns : List ColumnOf) (terms : List Term) (items : Selected) → columns_read columns (selects_all items) (terms ++ selection_terms items) ≡ columns_in columns terms (Some items)
selected_told columns terms items = read_told columns terms (Some items)

-- ---- tables with their columns

pub where_queries : (found : List InScope) (condition : Option Term) → where_selected found condition ≡ flat_map (selected_of found) (option_to_list condition)
where_queries found None = refl
where_queries found (Some term) = sym (append-nil (selected_of found term))

set_queries : (found : List InScope) (assignments : List (ℕ × Term)) → assignments_selected found assignments ≡ flat_map (selected_of found) (map (λ assignment. assignment.1) assignments)
set_queries found [] = refl
set_queries found (assignment ∷ assignments) = ap (λ rest. selected_of found assignment.1 ++ rest) (set_queries found assignments)

pub update_queries : (parts : AnalysedUpdate) → update_selected parts ≡ flat_map (selected_of parts.found) (set_and_where parts)
update_queries parts =
    (λ i. set_queries parts.found parts.assignments i ++ where_queries parts.found parts.condition i)
    ∙ sym (flat_append (selected_of parts.found) (map (λ assignment. assignment.1) parts.assignments) (option_to_list parts.condition))

tuple_queries : (found : List InScope) (tuple : List Term) → tuple_selected found tuple ≡ flat_map (selected_of found) tuple
tuple_queries found [] = refl
tuple_queries found (term ∷ terms) = ap (λ rest. selected_of found term ++ rest) (tuple_queries found terms)

pub insert_queries : (found : List InScope) (tuples : List (List Term)) → tuples_selected found tuples ≡ flat_map (flat_map (selected_of found)) tuples
insert_queries found [] = refl
insert_queries found (tuple ∷ tuples) = λ i. tuple_queries found tuple i ++ insert_queries found tuples i

-- ---- their names

pub where_named : (found : List InScope) (condition : Option Term) → tables (where_selected found condition) ≡ tables_if condition
where_named found None = refl
where_named found (Some term) = selected_tables found term

set_named : (found : List InScope) (assignments : List (ℕ × Term)) → tables (assignments_selected found assignments) ≡ all_tables (map (λ assignment. assignment.1) assignments)
set_named found [] = refl
set_named found (assignment ∷ assignments) =
    tables_append (selected_of found assignment.1) (assignments_selected found assignments) ∙ (λ i. selected_tables found assignment.1 i ++ set_named found assignments i)

pub update_named : (parts : AnalysedUpdate) → tables (update_selected parts) ≡ analysed_update_tables parts
update_named parts =
    tables_append (assignments_selected parts.found parts.assignments) (where_selected parts.found parts.condition)
    ∙ (λ i. set_named parts.found parts.assignments i ++ where_named parts.found parts.condition i)

tuple_named : (found : List InScope) (tuple : List Term) → tables (tuple_selected found tuple) ≡ all_tables tuple
tuple_named found [] = refl
tuple_named found (term ∷ terms) = tables_append (selected_of found term) (tuple_selected found terms) ∙ (λ i. selected_tables found term i ++ tuple_named found terms i)

pub insert_named : (found : List InScope) (tuples : List (List Term)) → tables (tuples_selected found tuples) ≡ tuples_tables tuples
insert_named found [] = refl
insert_named found (tuple ∷ tuples) = tables_append (tuple_selected found tuple) (tuples_selected found tuples) ∙ (λ i. tuple_named found tuple i ++ insert_named found tuples i)
