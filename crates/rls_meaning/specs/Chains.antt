-- Chains of policies over a state (PostgreSQL: SQLSTATE 42P17). A policy that holds a subquery brings in the policies of the
-- subquery's table, these those of the tables of their subqueries, and so on.
use Rattle.std.specs.Prelude.{ℕ, zero, suc, List, [], ◌∷◌, ◌++◌, Bool, Option, Some, None, filter_map, slice_get, if◌then◌else◌}
use Rattle.std.specs.List.{list_any, flat_map}
use Rattle.std.specs.Option.{option_map_or, option_to_list}
use Rattle.rls_value.specs.Names.{one_of}
use Rattle.rls_value.specs.declared.verb.Kind.TheVariants as k
use Rattle.rls_expr.specs.{declared.columns.SelectedTable.SelectedTable, declared.policy.Policy.Policy, Scopes.InScope, Selecting.selected_of, Terms.Term}
use Rattle.rls_catalog.specs.{Applying.applying_to, State.State, State.table_of}
use Rattle.rls_catalog.specs.declared.verdict.Side.TheVariants as side
use Rattle.rls_meaning.specs.{Parts.tables_of, Parts.has_query, Resolving.resolved}

-- the policies for SELECT of the table that apply to the role: none where it is exempt, or no table is there
abbrev pub select_policies : State → List ℕ → List ℕ → List Policy
select_policies s role name = applying_to s role name k.Select side.Old

-- one of them holds a subquery, in USING or WITH CHECK
abbrev pub has_subquery_in : State → List ℕ → List ℕ → Bool
has_subquery_in s role name = list_any (λ policy. list_any has_query (option_to_list policy.using ++ option_to_list policy.check)) (select_policies s role name)

-- the tables that they lead to: those of the subqueries in their USING
abbrev pub subquery_tables_in : State → List ℕ → List ℕ → List (List ℕ)
subquery_tables_in s role name = flat_map (λ policy. flat_map tables_of (option_to_list policy.using)) (select_policies s role name)

-- the tables of the subqueries in an expression over the table, with the columns that they mention
abbrev pub selected_in : State → InScope → Term → List SelectedTable
selected_in s from term = selected_of s.tables (resolved s (from ∷ []) term)

-- the tables that the policies of the table lead to, with the columns that their subqueries mention
abbrev pub selected_tables_in : State → List ℕ → List ℕ → List SelectedTable
selected_tables_in s role name =
    option_map_or (λ table. flat_map (λ policy. flat_map (selected_in s (name, table)) (option_to_list policy.using)) (select_policies s role name)) (table_of s name) []

-- the table that a chain on from this one closes on first: one that the chain meets again and whose policies for SELECT hold a
-- subquery; a table without such ends its chain
abbrev pub closes : ℕ → State → List ℕ → List (List ℕ) → List ℕ → Option (List ℕ)
closes zero s role chain t = None
closes (suc n) s role chain t = if has_subquery_in s role t then (if one_of chain t then Some t else slice_get (filter_map (closes n s role (t ∷ chain)) (subquery_tables_in s role t)) 0) else None
