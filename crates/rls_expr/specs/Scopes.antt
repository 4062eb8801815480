-- Scopes: the tables that names may mean, and the column that a name means (PostgreSQL manual, 4.2.1 and 7.2.1.2).
use Rattle.std.specs.Prelude.{ℕ, ◌+◌, List, [], ◌∷◌, Option, Some, None, Result, Ok, Err, if◌then◌else◌}
use Rattle.std.specs.Borrow.{Bor}
use Rattle.std.specs.Str.{bytes_eq}
use Rattle.rls_value.specs.declared.refusal.NameKind.{NameKind}
use Rattle.rls_value.specs.declared.refusal.NameKind.TheVariants as kind
use Rattle.rls_expr.specs.declared.column_name.ColumnName.{ColumnName}
use Rattle.rls_expr.specs.declared.table.TableDef.{TableDef}
use Rattle.rls_expr.specs.declared.scope.FromTable.{FromTable}
use Rattle.rls_expr.specs.declared.expr.Category.{Category}
use Rattle.rls_expr.specs.declared.expr.Var.{Var}
use Rattle.rls_expr.specs.Tables.{typed_column}

-- a table in scope: the name that qualifies its columns, and its definition
abbrev pub InScope : Type 0
InScope = List ℕ × TableDef

-- a table of a FROM clause, in scope
abbrev pub in_scope : FromTable → InScope
in_scope from = (from.name.now, from.table.now)

-- the definition of the first table of that name
abbrev pub known_table : List InScope → List ℕ → Option TableDef
known_table [] name = None
known_table (known ∷ others) name = if bytes_eq known.0 name then Some known.1 else known_table others name

-- an unknown name: what it should be the name of, and the name
abbrev pub Unknown : Type 0
Unknown = NameKind × List ℕ

-- the column of the table so many levels up, if it is there
abbrev pub var_or : ℕ → Option (ℕ × Category) → Result Var Unknown → Result Var Unknown
var_or level (Some column) otherwise = Ok (record { level = level; column = column.0; kind = column.1 })
var_or level None otherwise = otherwise

-- a name alone means the column of the innermost table that has one of that name; the first table is so many levels up
abbrev pub unqualified_from : ℕ → List InScope → List ℕ → Result Var Unknown
unqualified_from level [] name = Err (kind.Column, name)
unqualified_from level (from ∷ outer) name = var_or level (typed_column 0 from.1.columns name) (unqualified_from (level + 1) outer name)

-- with a qualifier it means the column of the innermost table of that qualifier, and none further out
abbrev pub qualified_from : ℕ → List InScope → List ℕ → List ℕ → Result Var Unknown
qualified_from level [] qualifier name = Err (kind.Relation, qualifier)
qualified_from level (from ∷ outer) qualifier name =
    if bytes_eq from.0 qualifier then var_or level (typed_column 0 from.1.columns name) (Err (kind.Column, name)) else qualified_from (level + 1) outer qualifier name

-- the same, whether there is a qualifier or not
abbrev pub var_by : List InScope → Option (List ℕ) → List ℕ → Result Var Unknown
var_by tables None name = unqualified_from 0 tables name
var_by tables (Some qualifier) name = qualified_from 0 tables qualifier name

-- the column that a name is resolved to, or which name is unknown
abbrev pub var_in : List InScope → ColumnName → Result Var Unknown
var_in tables column = var_by tables column.qualifier column.name

-- what a call gives that borrows the unknown name
abbrev pub var_borrowed : Result Var (NameKind × Bor (List ℕ)) → Result Var Unknown
var_borrowed (Ok var) = Ok var
var_borrowed (Err (kind, name)) = Err (kind, name.now)
