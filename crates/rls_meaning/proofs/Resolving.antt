-- Expressions are resolved over the tables of the state, whichever of these were found for their subqueries.
use Rattle.std.specs.Prelude.{◌≡◌, refl, ℕ, List, [], ◌∷◌, Bool, true, false, ◌||◌, Option, Some, None, if◌then◌else◌, map}
use Rattle.std.specs.List.{cons_option, filter_map, flat_map}
use Rattle.std.specs.Option.{option_map, option_to_list, unwrap_or}
use Rattle.std.specs.Str.{bytes_eq}
use Rattle.std.proofs.Common.{ap, subst, sym, ◌∙◌}
use Rattle.rls_value.specs.Names.{one_of}
use Rattle.rls_expr.specs.{declared.expr.FromItem.FromItem, declared.expr.Selects.Selects, declared.table.TableDef.TableDef, Scopes.InScope, Scopes.known_table}
use Rattle.rls_expr.specs.declared.expr.Selects.TheVariants as s
use Rattle.rls_expr.specs.Resolving as machine
use Rattle.rls_expr.specs.Terms.{Term, Terms, Query, Literal, Column, Var, CurrentUser, Compare, And, Or, Not, IsNull, IsNotNull, InList, NotInList, Exists, InSubquery, NotInSubquery, Scalar, Sum, End, More, Select, qualifier_of}
use Rattle.rls_catalog.specs.{Membership.Within, State.State, State.table_of}
use Rattle.rls_catalog.proofs.Walks.{bytes_same}
use Rattle.rls_meaning.proofs.{ResolvingQuals.SameKnown, ResolvingQuals.over_known, ResolvingQuals.resolved_same, ResolvingQuals.state_table, Tables.within_first, Tables.within_last}
use Rattle.rls_meaning.specs.Parts.{found_in, tables_of}
use Rattle.rls_meaning.proofs.Parts.{tables_told}
use Rattle.rls_meaning.specs.Resolving.{items_of, query_resolved, resolved, resolved_all}

-- names in these scopes, over the tables of the state
abbrev over_state : State → List InScope → machine.Names
over_state s tables = over_known tables s.tables

items_same : (selects : Selects) (table : TableDef) (items : Terms) → machine.items_of selects table items ≡ items_of selects table items
items_same s.All table items = refl
items_same s.Count table items = refl
items_same s.Items table items = refl

-- a subquery with what was resolved, where its table is there
abbrev over : Query → State → List InScope → Option TableDef → Query
over (Select from key selects items condition) s tables o =
    unwrap_or (option_map (λ table. Select from table.key selects (items_of selects table (resolved_all s ((qualifier_of from, table) ∷ tables) items)) (resolved_all s ((qualifier_of from, table) ∷ tables) condition)) o) (Select from key selects items condition)

-- the terms are resolved alike, one table further in
abbrev AlikeInside : State → List InScope → FromItem → Terms → Type 0
AlikeInside s tables from ts = (table : TableDef) → machine.resolved_all ts (over_state s ((qualifier_of from, table) ∷ tables)) ≡ resolved_all s ((qualifier_of from, table) ∷ tables) ts

state_over : (s : State) (tables : List InScope) (from : FromItem) (key : List ℕ) (selects : Selects) (items condition : Terms) → AlikeInside s tables from items → AlikeInside s tables from condition → (o : Option TableDef)
    → machine.query_over (Select from key selects items condition) (over_state s tables) o ≡ over (Select from key selects items condition) s tables o
state_over s tables from key selects items condition items_alike condition_alike None = refl
state_over s tables from key selects items condition items_alike condition_alike (Some table) =
    λ i. Select from table.key selects
    ((items_same selects table (machine.resolved_all items (over_state s ((qualifier_of from, table) ∷ tables))) ∙ ap (items_of selects table) (items_alike table)) i)
    (condition_alike table i)

mutual
  state_resolved : (s : State) (tables : List InScope) (t : Term) → machine.resolved t (over_state s tables) ≡ resolved s tables t
  state_resolved s tables (Literal v) = refl
  state_resolved s tables (Column name) = refl
  state_resolved s tables (Var at) = refl
  state_resolved s tables CurrentUser = refl
  state_resolved s tables (Compare how a b) = λ i. Compare how (state_resolved s tables a i) (state_resolved s tables b i)
  state_resolved s tables (And ts) = ap And (state_all s tables ts)
  state_resolved s tables (Or ts) = ap Or (state_all s tables ts)
  state_resolved s tables (Not t) = ap Not (state_resolved s tables t)
  state_resolved s tables (IsNull t) = ap IsNull (state_resolved s tables t)
  state_resolved s tables (IsNotNull t) = ap IsNotNull (state_resolved s tables t)
  state_resolved s tables (InList t ts) = λ i. InList (state_resolved s tables t i) (state_all s tables ts i)
  state_resolved s tables (NotInList t ts) = λ i. NotInList (state_resolved s tables t i) (state_all s tables ts i)
  state_resolved s tables (Exists q) = ap Exists (state_query s tables q)
  state_resolved s tables (InSubquery t q) = λ i. InSubquery (state_resolved s tables t i) (state_query s tables q i)
  state_resolved s tables (NotInSubquery t q) = λ i. NotInSubquery (state_resolved s tables t i) (state_query s tables q i)
  state_resolved s tables (Scalar q) = ap Scalar (state_query s tables q)
  state_resolved s tables (Sum signs ts) = ap (Sum signs) (state_all s tables ts)

  state_query : (s : State) (tables : List InScope) (q : Query) → machine.query_over q (over_state s tables) (machine.definition_of q (over_state s tables)) ≡ query_resolved s tables q
  state_query s tables (Select from key selects items condition) =
      ap (machine.query_over (Select from key selects items condition) (over_state s tables)) (state_table s from.table)
      ∙ state_over s tables from key selects items condition (λ table. state_all s ((qualifier_of from, table) ∷ tables) items) (λ table. state_all s ((qualifier_of from, table) ∷ tables) condition) (table_of s from.table)

  state_all : (s : State) (tables : List InScope) (ts : Terms) → machine.resolved_all ts (over_state s tables) ≡ resolved_all s tables ts
  state_all s tables End = refl
  state_all s tables (More t ts) = λ i. More (state_resolved s tables t i) (state_all s tables ts i)

-- ---- the tables that were found

-- the table, where it is one of them
abbrev if_among : Bool → Option TableDef → Option TableDef
if_among b o = if b then o else None

none_among : (b : Bool) → None ≡ if_among b None
none_among true = refl
none_among false = refl

none_of : (s : State) (n name : List ℕ) → bytes_eq n name ≡ true → table_of s n ≡ None → table_of s name ≡ None
none_of s n name same is = ap (table_of s) (sym (bytes_same n name same)) ∙ is

found_next : (s : State) (n name : List ℕ) (b rest : Bool) (o : Option TableDef) (known : List InScope) → bytes_eq n name ≡ b → table_of s n ≡ o → known_table known name ≡ if_among rest (table_of s name)
    → known_table (cons_option (option_map (λ table. (n, table)) o) known) name ≡ if_among (b || rest) (table_of s name)
found_next s n name true rest (Some table) known same is others = ap (λ b. if b then Some table else known_table known name) same ∙ sym is ∙ ap (table_of s) (bytes_same n name same)
found_next s n name true rest None known same is others = others ∙ ap (if_among rest) (none_of s n name same is) ∙ sym (none_among rest) ∙ sym (none_of s n name same is)
found_next s n name false rest (Some table) known same is others = ap (λ b. if b then Some table else known_table known name) same ∙ others
found_next s n name false rest None known same is others = others

known_found : (s : State) (names : List (List ℕ)) (name : List ℕ) → known_table (filter_map (λ n. option_map (λ table. (n, table)) (table_of s n)) names) name ≡ if_among (one_of names name) (table_of s name)
known_found s [] name = refl
known_found s (n ∷ names) name = found_next s n name (bytes_eq n name) (one_of names name) (table_of s n) (filter_map (λ other. option_map (λ table. (other, table)) (table_of s other)) names) refl refl (known_found s names name)

found_same : (s : State) (terms : List Term) → SameKnown (flat_map tables_of terms) (found_in s terms) s.tables
found_same s terms name among = known_found s (flat_map tables_of terms) name ∙ ap (λ b. if_among b (table_of s name)) among ∙ sym (state_table s name)

-- ---- the law

pub state_resolved_told : (s : State) (tables : List InScope) (t : Term) → machine.resolved t (over_known tables s.tables) ≡ resolved s tables t
state_resolved_told s tables t = state_resolved s tables t

pub resolved_told : (s : State) (tables : List InScope) (terms : List Term) (t : Term) → Within (tables_of t) (flat_map tables_of terms) → machine.resolved t (over_known tables (found_in s terms)) ≡ resolved s tables t
resolved_told s tables terms t within =
    resolved_same t tables (found_in s terms) s.tables (flat_map tables_of terms) (found_same s terms) (subst (λ names. Within names (flat_map tables_of terms)) (sym (tables_told t)) within) ∙ state_resolved s tables t

pub each_resolved_told : (s : State) (tables : List InScope) (terms some : List Term) → Within (flat_map tables_of some) (flat_map tables_of terms)
    → map (λ t. machine.resolved t (over_known tables (found_in s terms))) some ≡ map (resolved s tables) some
each_resolved_told s tables terms [] within = refl
each_resolved_told s tables terms (t ∷ some) within =
    λ i. resolved_told s tables terms t (within_first (tables_of t) (flat_map tables_of some) (flat_map tables_of terms) within) i ∷ each_resolved_told s tables terms some (within_last (tables_of t) (flat_map tables_of some) (flat_map tables_of terms) within) i

pub resolved_if_told : (s : State) (tables : List InScope) (terms : List Term) (term : Option Term) → Within (flat_map tables_of (option_to_list term)) (flat_map tables_of terms)
    → option_map (λ t. machine.resolved t (over_known tables (found_in s terms))) term ≡ option_map (resolved s tables) term
resolved_if_told s tables terms None within = refl
resolved_if_told s tables terms (Some t) within = ap Some (resolved_told s tables terms t (within_first (tables_of t) [] (flat_map tables_of terms) within))
