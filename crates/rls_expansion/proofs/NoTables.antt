-- An expression without a subquery names no table.
use Rattle.std.specs.Prelude.{◌≡◌, refl, ℕ, List, [], ◌∷◌, ◌++◌, Bool, true, false, ◌||◌, Result, Ok, Err}
use Rattle.std.proofs.Common.{ap, sym, ◌∙◌, append-nil}
use Rattle.std.proofs.lemmas.Bool.{true≢false}
use Rattle.rls_guard.specs.rls_catalog.specs.rls_expr.specs.Naming.{Step, Look, Enter, Leave, names_of, names_all}
use Rattle.rls_guard.specs.rls_catalog.specs.rls_expr.specs.Parts.{has_query, have_query}
use Rattle.rls_guard.specs.rls_catalog.specs.rls_expr.specs.Terms.{Term, Terms, Literal, Column, Var, CurrentUser, Compare, And, Or, Not, IsNull, IsNotNull, InList, NotInList, Exists, InSubquery, NotInSubquery, Scalar, Sum, End, More}
use Rattle.rls_guard.specs.rls_catalog.specs.rls_expr.specs.{declared.column_name.ColumnName.ColumnName, declared.columns.SelectedTable.SelectedTable, declared.expr.Var.Var as VarOf}
use Rattle.rls_guard.specs.rls_catalog.specs.rls_expr.specs.{Resolving.Names, Resolving.column_resolved, Resolving.resolved, Resolving.resolved_all, Scopes.InScope, Scopes.Unknown, Scopes.var_in, Selecting.selected_all, Selecting.selected_of}
use Rattle.rls_expansion.specs.Used.{entered, tables_of}

first_not : (a b : Bool) → (a || b) ≡ false → a ≡ false
first_not false b is = refl
first_not true b is = absurd (true≢false is)

second_not : (a b : Bool) → (a || b) ≡ false → b ≡ false
second_not false b is = is
second_not true b is = absurd (true≢false is)

pub entered-append : (xs ys : List Step) → entered (xs ++ ys) ≡ entered xs ++ entered ys
entered-append [] ys = refl
entered-append (Look name ∷ xs) ys = entered-append xs ys
entered-append (Enter from ∷ xs) ys = ap (λ tables. from.table ∷ tables) (entered-append xs ys)
entered-append (Leave ∷ xs) ys = entered-append xs ys

none_of_both : (xs ys : List Step) → entered xs ≡ [] → entered ys ≡ [] → entered (xs ++ ys) ≡ []
none_of_both xs ys one two = entered-append xs ys ∙ ap (λ tables. tables ++ entered ys) one ∙ two

mutual
  no_tables : (t : Term) → has_query t ≡ false → entered (names_of t) ≡ []
  no_tables (Literal v) is = refl
  no_tables (Column name) is = refl
  no_tables (Var at) is = refl
  no_tables CurrentUser is = refl
  no_tables (Compare how a b) is =
      none_of_both (names_of a) (names_of b) (no_tables a (first_not (has_query a) (has_query b) is)) (no_tables b (second_not (has_query a) (has_query b) is))
  no_tables (And ts) is = no_tables_in ts is
  no_tables (Or ts) is = no_tables_in ts is
  no_tables (Not t) is = no_tables t is
  no_tables (IsNull t) is = no_tables t is
  no_tables (IsNotNull t) is = no_tables t is
  no_tables (InList t ts) is =
      none_of_both (names_of t) (names_all ts) (no_tables t (first_not (has_query t) (have_query ts) is)) (no_tables_in ts (second_not (has_query t) (have_query ts) is))
  no_tables (NotInList t ts) is =
      none_of_both (names_of t) (names_all ts) (no_tables t (first_not (has_query t) (have_query ts) is)) (no_tables_in ts (second_not (has_query t) (have_query ts) is))
  no_tables (Exists q) is = absurd (true≢false is)
  no_tables (InSubquery t q) is = absurd (true≢false is)
  no_tables (NotInSubquery t q) is = absurd (true≢false is)
  no_tables (Scalar q) is = absurd (true≢false is)
  no_tables (Sum signs ts) is = no_tables_in ts is

  -- in each of them
  no_tables_in : (ts : Terms) → have_query ts ≡ false → entered (names_all ts) ≡ []
  no_tables_in End is = refl
  no_tables_in (More t ts) is =
      none_of_both (names_of t) (names_all ts) (no_tables t (first_not (has_query t) (have_query ts) is)) (no_tables_in ts (second_not (has_query t) (have_query ts) is))

-- no table comes behind those that are there
pub none_behind : (tables : List (List ℕ)) (t : Term) → has_query t ≡ false → tables ≡ tables ++ tables_of t
none_behind tables t is = sym (ap (λ more. tables ++ more) (no_tables t is) ∙ append-nil tables)

-- ---- with their columns

none_selected_of_both : (xs ys : List SelectedTable) → xs ≡ [] → ys ≡ [] → xs ++ ys ≡ []
none_selected_of_both xs ys one two = ap (λ tables. tables ++ ys) one ∙ two

column_selects : (found : List InScope) (name : ColumnName) (place : Result VarOf Unknown) → selected_of found (column_resolved name place) ≡ []
column_selects found name (Ok at) = refl
column_selects found name (Err unknown) = refl

mutual
  none_selected : (found : List InScope) (t : Term) (names : Names) → has_query t ≡ false → selected_of found (resolved t names) ≡ []
  none_selected found (Literal v) names is = refl
  none_selected found (Column name) names is = column_selects found name (var_in names.tables name)
  none_selected found (Var at) names is = refl
  none_selected found CurrentUser names is = refl
  none_selected found (Compare how a b) names is =
      none_selected_of_both (selected_of found (resolved a names)) (selected_of found (resolved b names)) (none_selected found a names (first_not (has_query a) (has_query b) is)) (none_selected found b names (second_not (has_query a) (has_query b) is))
  none_selected found (And ts) names is = none_selected_in found ts names is
  none_selected found (Or ts) names is = none_selected_in found ts names is
  none_selected found (Not t) names is = none_selected found t names is
  none_selected found (IsNull t) names is = none_selected found t names is
  none_selected found (IsNotNull t) names is = none_selected found t names is
  none_selected found (InList t ts) names is =
      none_selected_of_both (selected_of found (resolved t names)) (selected_all found (resolved_all ts names)) (none_selected found t names (first_not (has_query t) (have_query ts) is)) (none_selected_in found ts names (second_not (has_query t) (have_query ts) is))
  none_selected found (NotInList t ts) names is =
      none_selected_of_both (selected_of found (resolved t names)) (selected_all found (resolved_all ts names)) (none_selected found t names (first_not (has_query t) (have_query ts) is)) (none_selected_in found ts names (second_not (has_query t) (have_query ts) is))
  none_selected found (Exists q) names is = absurd (true≢false is)
  none_selected found (InSubquery t q) names is = absurd (true≢false is)
  none_selected found (NotInSubquery t q) names is = absurd (true≢false is)
  none_selected found (Scalar q) names is = absurd (true≢false is)
  none_selected found (Sum signs ts) names is = none_selected_in found ts names is

  -- in each of them
  none_selected_in : (found : List InScope) (ts : Terms) (names : Names) → have_query ts ≡ false → selected_all found (resolved_all ts names) ≡ []
  none_selected_in found End names is = refl
  none_selected_in found (More t ts) names is =
      none_selected_of_both (selected_of found (resolved t names)) (selected_all found (resolved_all ts names)) (none_selected found t names (first_not (has_query t) (have_query ts) is)) (none_selected_in found ts names (second_not (has_query t) (have_query ts) is))

-- no table comes behind those that are there
pub none_selected_behind : (tables : List SelectedTable) (found : List InScope) (t : Term) (names : Names) → has_query t ≡ false → tables ≡ tables ++ selected_of found (resolved t names)
none_selected_behind tables found t names is = sym (ap (λ more. tables ++ more) (none_selected found t names is) ∙ append-nil tables)
