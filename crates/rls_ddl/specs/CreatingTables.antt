-- CREATE TABLE (PostgreSQL manual, CREATE TABLE, and 5.7 for the owner's privileges): any role makes one and owns it.
-- Names come first, then that the table's own is free.
use Rattle.std.specs.Prelude.{ℕ, List, [], ◌∷◌, Option, false, ◌||◌, Result, Ok, Err, is_some, unwrap_or, map, filter, position}
use Rattle.std.specs.Str.{bytes_eq}
use Rattle.rls_value.specs.{Names.one_of, declared.refusal.Refusal.Refusal, declared.refusal.Refusal.TheVariants.Duplicate, declared.refusal.Refusal.TheVariants.Undefined}
use Rattle.rls_value.specs.declared.refusal.DefinedKind.TheVariants as kind
use Rattle.rls_value.specs.declared.refusal.NameKind.TheVariants as named
use Rattle.rls_expr.specs.{declared.table.Column.Column, declared.table.TableDef.TableDef}
use Rattle.rls_guard.specs.rls_catalog.specs.declared.change.Change.TheVariants as change
use Rattle.rls_statement.specs.{declared.statement.CreateTable.CreateTable, declared.statement.MarkedColumn.MarkedColumn}
use Rattle.rls_guard.specs.{declared.context.Ctx.Ctx, declared.effect.Effect.Effect, Effects.writes}
use Rattle.rls_guard.specs.rls_source.specs.Askings.{Asking, known, asked_if, followed_by}
use Rattle.rls_guard.specs.rls_source.specs.{Asked.asked_table, Asked.asked_grants, Named.found_or, Sequences.each_of}
use Rattle.rls_guard.specs.rls_grant.specs.Granting.{own_grants, with_grants}

-- ---- the primary key

-- the names of the columns that are marked
abbrev pub marked_names : List MarkedColumn → List (List ℕ)
marked_names columns = map (λ marked. marked.column.name) (filter (λ marked. marked.is_key) columns)

-- the names of the key's columns: those of the constraint where there is one, else those that are marked
abbrev pub key_names : CreateTable → List (List ℕ)
key_names create = unwrap_or create.key (marked_names create.columns)

-- the place of the first column of that name
abbrev pub place_of : List MarkedColumn → List ℕ → Option ℕ
place_of columns name = position (λ marked. bytes_eq marked.column.name name) columns

-- the place of a column that has to be defined
abbrev pub place_or_undefined : List MarkedColumn → List ℕ → Result ℕ Refusal
place_or_undefined columns name = found_or (Undefined named.Column name) (place_of columns name)

-- the places of the key's columns, in the key's order
abbrev pub key_or_undefined : CreateTable → Result (List ℕ) Refusal
key_or_undefined create = each_of (place_or_undefined create.columns) (key_names create)

-- a column takes no null where that is written, or where it is one of the key's
abbrev pub column_in : List (List ℕ) → MarkedColumn → Column
column_in key marked = record marked.column { not_null = marked.column.not_null || one_of key marked.column.name }

-- ---- the table

-- row security is off for a new table
abbrev pub table_with : List ℕ → CreateTable → List ℕ → TableDef
table_with owner create key = record {
  owner = owner;
  enabled = false;
  forced = false;
  columns = map (column_in (key_names create)) create.columns;
  key = key;
}

-- the table is made, and its owner has every privilege; grants that stand under its name stay beside the owner's own
unfoldable pub table_made : Ctx → CreateTable → List ℕ → Asking Effect
table_made ctx create key = followed_by (asked_grants create.name) (λ grants.
    known (Ok (writes (change.Table create.name (table_with ctx.role create key) ∷ change.Grants create.name (with_grants grants (own_grants ctx.role)) ∷ []))))

-- the name may not be taken
unfoldable pub table_unless_taken : Ctx → CreateTable → List ℕ → Asking Effect
table_unless_taken ctx create key = followed_by (asked_table create.name) (λ found.
    asked_if (is_some found) (known (Err (Duplicate kind.Relation create.name))) (table_made ctx create key))

-- the columns of the key have to be defined
abbrev pub create_table : Ctx → CreateTable → Asking Effect
create_table ctx create = followed_by (known (key_or_undefined create)) (λ key. table_unless_taken ctx create key)
