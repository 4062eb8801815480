-- Expressions as the definitions see them.
use Rattle.std.specs.Prelude.{ℕ, ◌+◌, List, [], ◌∷◌, Option, Some, None}
use Rattle.rls_value.specs.declared.value.Value.{Value}
use Rattle.rls_expr.specs.declared.column_name.ColumnName.{ColumnName}
use Rattle.rls_expr.specs.declared.expr.Comparison.{Comparison}
use Rattle.rls_expr.specs.declared.expr.Sign.{Sign}
use Rattle.rls_expr.specs.declared.expr.FromItem.{FromItem}
use Rattle.rls_expr.specs.declared.expr.Var.{Var as VarOf}
use Rattle.rls_expr.specs.declared.expr.Selects.{Selects}

mutual
  pub data Term : Type 0 where
    Literal : Value → Term
    -- a column as it is written
    Column : ColumnName → Term
    -- a resolved column
    Var : VarOf → Term
    CurrentUser : Term
    Compare : Comparison → Term → Term → Term
    And : Terms → Term
    Or : Terms → Term
    Not : Term → Term
    IsNull : Term → Term
    IsNotNull : Term → Term
    -- IN, and NOT IN, with a list
    InList : Term → Terms → Term
    NotInList : Term → Terms → Term
    -- EXISTS, IN and NOT IN with a subquery, and a subquery that stands for a value
    Exists : Query → Term
    InSubquery : Term → Query → Term
    NotInSubquery : Term → Query → Term
    Scalar : Query → Term
    -- a sum, with the signs between its parts
    Sum : List Sign → Terms → Term

  pub data Terms : Type 0 where
    End : Terms
    More : Term → Terms → Terms

  pub data Query : Type 0 where
    -- a table, its key's places once it is resolved, what is selected, the items, and WHERE: no term, or one
    Select : FromItem → List ℕ → Selects → Terms → Terms → Query

-- what qualifies a table's columns: its alias or, without one, its name
abbrev pub qualifier_or : List ℕ → Option (List ℕ) → List ℕ
qualifier_or table (Some alias) = alias
qualifier_or table None = table

-- the same of the table of a FROM clause
abbrev pub qualifier_of : FromItem → List ℕ
qualifier_of from = qualifier_or from.table from.alias

-- a list of terms, as a term holds it
abbrev pub terms_of : List Term → Terms
terms_of [] = End
terms_of (t ∷ ts) = More t (terms_of ts)

-- a term that may be left out
abbrev pub maybe_term : Option Term → Terms
maybe_term None = End
maybe_term (Some t) = More t End

abbrev mutual
  pub term_size : Term → ℕ
  term_size (Literal v) = 1
  term_size (Column name) = 1
  term_size (Var at) = 1
  term_size CurrentUser = 1
  term_size (Compare how a b) = term_size a + term_size b + 1
  term_size (And ts) = terms_size ts + 1
  term_size (Or ts) = terms_size ts + 1
  term_size (Not t) = term_size t + 1
  term_size (IsNull t) = term_size t + 1
  term_size (IsNotNull t) = term_size t + 1
  term_size (InList t ts) = term_size t + terms_size ts + 1
  term_size (NotInList t ts) = term_size t + terms_size ts + 1
  term_size (Exists q) = query_size q + 1
  term_size (InSubquery t q) = term_size t + query_size q + 1
  term_size (NotInSubquery t q) = term_size t + query_size q + 1
  term_size (Scalar q) = query_size q + 1
  term_size (Sum signs ts) = terms_size ts + 1

  pub terms_size : Terms → ℕ
  terms_size End = 0
  terms_size (More t ts) = term_size t + terms_size ts

  pub query_size : Query → ℕ
  query_size (Select from key selects items condition) = terms_size items + terms_size condition + 1
