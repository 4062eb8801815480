-- The columns that GRANT and REVOKE name (PostgreSQL manual, GRANT and REVOKE): each has to be there. A grant option goes with
-- whole tables alone.
use Rattle.std.specs.Prelude.{ℕ, suc, List, ◌++◌, Option, Some, None, Bool, ◌&&◌, is_some, Result, Ok, Err, if◌then◌else◌}
use Rattle.std.specs.List.{position_or_len}
use Rattle.std.specs.Str.{bytes_eq}
use Rattle.rls_value.specs.{declared.refusal.Refusal.Refusal, declared.refusal.Refusal.TheVariants.Undefined, declared.refusal.Refusal.TheVariants.Unsupported}
use Rattle.rls_value.specs.declared.refusal.NameKind.TheVariants as kind
use Rattle.rls_verdict.specs.rls_expr.specs.{declared.table.Column.Column, Tables.column_named}
use Rattle.rls_role.specs.rls_source.specs.Sequences.{each_or_refused}
use Rattle.rls_role.specs.rls_statement.specs.{declared.privileges.Privileges.Privileges, Extents.has_columns}

-- ---- where a grant on a column stands

-- the place of a column among the table's, counted from one, and behind the last one where it isn't there; that of the whole
-- table is 0
abbrev pub column_place : List Column → Option (List ℕ) → ℕ
column_place columns None = 0
column_place columns (Some name) = suc (position_or_len (λ column. bytes_eq column.name name) columns)

-- ---- what is refused

-- the columns that are named: SELECT's, INSERT's, UPDATE's
abbrev pub columns_written : Privileges → List (List ℕ)
columns_written named = named.select.columns ++ (named.insert.columns ++ named.update.columns)

-- the column has to be there
abbrev pub column_or_undefined : List Column → List ℕ → Result (Unit {0}) Refusal
column_or_undefined columns name = if is_some (column_named columns name) then Ok tt else Err (Undefined kind.Column name)

-- each column that is named has to be there, in order
abbrev pub columns_or_undefined : List Column → Privileges → Result (Unit {0}) Refusal
columns_or_undefined columns named = each_or_refused (column_or_undefined columns) (columns_written named)

-- no grant option beside a list of columns, whatever it is written for
abbrev pub option_or_unsupported : Bool → Privileges → Result (Unit {0}) Refusal
option_or_unsupported option named = if option && has_columns named then Err Unsupported else Ok tt
