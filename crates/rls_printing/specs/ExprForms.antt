-- The words of which an expression is printed. An operand stands in parentheses, unless it stands alone.
use Rattle.std.specs.Prelude.{ℕ, Bool, true, false, List, [], ◌∷◌, ◌++◌, Option, Some, None, codes}
use Rattle.rls_value.specs.declared.value.Value.{Value}
use Rattle.rls_value.specs.declared.value.Value.TheVariants as v
use Rattle.rls_expr.specs.Terms.{Term, Terms, Query, Literal, Var, CurrentUser, Compare, And, Or, Not, IsNull, IsNotNull, InList, NotInList, Exists, InSubquery, NotInSubquery, Scalar, Sum, End, More, Select}
use Rattle.rls_expr.specs.Terms as e
use Rattle.rls_expr.specs.{declared.expr.Comparison.Comparison, declared.expr.Selects.Selects, declared.expr.Sign.Sign}
use Rattle.rls_expr.specs.declared.expr.Comparison.TheVariants as c
use Rattle.rls_expr.specs.declared.expr.Selects.TheVariants as selects
use Rattle.rls_expr.specs.declared.expr.Sign.TheVariants as part
use Rattle.rls_printing.specs.declared.buffer.Mark.{Mark}
use Rattle.rls_printing.specs.declared.buffer.Mark.TheVariants as m
use Rattle.rls_printing.specs.OutputTokens.{OutputToken, Word, Qualified, Number, Text, Marked, Count}

-- a value
abbrev pub literal : Value → OutputToken
literal v.Null = Word (codes "NULL")
literal (v.Int z) = Number z
literal (v.Text x) = Text x
literal (v.Bool true) = Word (codes "TRUE")
literal (v.Bool false) = Word (codes "FALSE")

-- a name, with what qualifies it where that is written
abbrev pub named : Option (List ℕ) → List ℕ → OutputToken
named None name = Word name
named (Some qualifier) name = Qualified qualifier name

-- a comparison
abbrev pub comparison : Comparison → Mark
comparison c.Equal = m.Equal
comparison c.NotEqual = m.NotEqual
comparison c.Less = m.Less
comparison c.LessOrEqual = m.LessOrEqual
comparison c.Greater = m.Greater
comparison c.GreaterOrEqual = m.GreaterOrEqual

-- whether a part of a sum is added or taken off
abbrev pub sign : Sign → Mark
sign part.Plus = m.Plus
sign part.Minus = m.Minus

-- whether it has no parentheses as an operand; a subquery that stands for a value has its own
abbrev pub stands_alone : Term → Bool
stands_alone (Literal value) = true
stands_alone (e.Column name) = true
stands_alone CurrentUser = true
stands_alone (Exists q) = true
stands_alone (Scalar q) = true
stands_alone _ = false

-- between parentheses
abbrev pub enclosed : List OutputToken → List OutputToken
enclosed ps = Marked m.Open ∷ (ps ++ Marked m.Close ∷ [])

-- the words of an operand, of those of the term
abbrev pub bare_if : Bool → List OutputToken → List OutputToken
bare_if true ps = ps
bare_if false ps = enclosed ps

-- the alias of a table
abbrev pub alias : Option (List ℕ) → List OutputToken
alias None = []
alias (Some name) = Word (codes "AS") ∷ Word name ∷ []

-- FROM, a table and its alias
abbrev pub from_ : (table : List ℕ) → Option (List ℕ) → List OutputToken
from_ table name = Word (codes "FROM") ∷ Word table ∷ alias name

-- what is selected; the words of the items are given
abbrev pub selected : Selects → List OutputToken → List OutputToken
selected selects.All items = Marked m.Star ∷ []
selected selects.Count items = Count ∷ []
selected selects.Items items = items

abbrev mutual
  -- an expression
  pub expr : Term → List OutputToken
  expr (Literal value) = literal value ∷ []
  expr (e.Column name) = named name.qualifier name.name ∷ []
  -- no text says a resolved column
  expr (Var at) = []
  expr CurrentUser = Word (codes "CURRENT_USER") ∷ []
  expr (Compare how a b) = bare_if (stands_alone a) (expr a) ++ Marked (comparison how) ∷ bare_if (stands_alone b) (expr b)
  expr (And ts) = operands (Word (codes "AND")) ts
  expr (Or ts) = operands (Word (codes "OR")) ts
  expr (Not a) = Word (codes "NOT") ∷ bare_if (stands_alone a) (expr a)
  expr (IsNull a) = bare_if (stands_alone a) (expr a) ++ Word (codes "IS") ∷ Word (codes "NULL") ∷ []
  expr (IsNotNull a) = bare_if (stands_alone a) (expr a) ++ Word (codes "IS") ∷ Word (codes "NOT") ∷ Word (codes "NULL") ∷ []
  expr (InList a ts) = bare_if (stands_alone a) (expr a) ++ Word (codes "IN") ∷ enclosed (list ts)
  expr (NotInList a ts) = bare_if (stands_alone a) (expr a) ++ Word (codes "NOT") ∷ Word (codes "IN") ∷ enclosed (list ts)
  expr (Exists q) = Word (codes "EXISTS") ∷ enclosed (query q)
  expr (InSubquery a q) = bare_if (stands_alone a) (expr a) ++ Word (codes "IN") ∷ enclosed (query q)
  expr (NotInSubquery a q) = bare_if (stands_alone a) (expr a) ++ Word (codes "NOT") ∷ Word (codes "IN") ∷ enclosed (query q)
  expr (Scalar q) = enclosed (query q)
  expr (Sum signs ts) = sum signs ts

  -- operands with this word between them
  pub operands : OutputToken → Terms → List OutputToken
  operands word End = []
  operands word (More t ts) = bare_if (stands_alone t) (expr t) ++ further word ts

  -- the word and an operand, again and again
  pub further : OutputToken → Terms → List OutputToken
  further word End = []
  further word (More t ts) = word ∷ (bare_if (stands_alone t) (expr t) ++ further word ts)

  -- the parts of a sum
  pub sum : List Sign → Terms → List OutputToken
  sum signs End = []
  sum signs (More t ts) = bare_if (stands_alone t) (expr t) ++ summands signs ts

  -- a sign and a part, again and again
  pub summands : List Sign → Terms → List OutputToken
  summands signs End = []
  summands [] (More t ts) = []
  summands (x ∷ xs) (More t ts) = Marked (sign x) ∷ (bare_if (stands_alone t) (expr t) ++ summands xs ts)

  -- expressions with commas between them
  pub list : Terms → List OutputToken
  list End = []
  list (More t ts) = expr t ++ more ts

  -- a comma and an expression, again and again
  pub more : Terms → List OutputToken
  more End = []
  more (More t ts) = Marked m.Comma ∷ (expr t ++ more ts)

  -- a SELECT
  pub query : Query → List OutputToken
  query (Select from key selects items condition) =
      Word (codes "SELECT") ∷ (selected selects (list items) ++ (from_ from.table from.alias ++ where_ condition))

  -- WHERE, if there is a condition
  pub where_ : Terms → List OutputToken
  where_ End = []
  where_ (More t ts) = Word (codes "WHERE") ∷ expr t
