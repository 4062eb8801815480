-- Tables: the place of a column, and its type.
use Rattle.std.specs.Prelude.{ℕ, suc, List, [], ◌∷◌, Option, Some, None, position, if◌then◌else◌}
use Rattle.std.specs.Str.{bytes_eq}
use Rattle.rls_value.specs.declared.value.ColType.{ColType}
use Rattle.rls_value.specs.declared.value.ColType.TheVariants as c
use Rattle.rls_expr.specs.declared.expr.Category.{Category}
use Rattle.rls_expr.specs.declared.expr.Category.TheVariants as t
use Rattle.rls_expr.specs.declared.table.Column.{Column}

-- the place of the first column of that name
abbrev pub column_named : List Column → List ℕ → Option ℕ
column_named columns name = position (λ column. bytes_eq column.name name) columns

-- whole numbers of 32 and of 64 bits are one type
abbrev pub category_of : ColType → Category
category_of c.Integer = t.Number
category_of c.BigInt = t.Number
category_of c.Text = t.Text
category_of c.Boolean = t.Boolean

-- the place and the type of the first column of that name, the first column being at this place
abbrev pub typed_column : ℕ → List Column → List ℕ → Option (ℕ × Category)
typed_column place [] name = None
typed_column place (column ∷ columns) name = if bytes_eq column.name name then Some (place, category_of column.kind) else typed_column (suc place) columns name
