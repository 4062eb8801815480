-- Keys whose columns are each the first of its name, so that the names tell them.
use Rattle.std.specs.Prelude.{◌≡◌, ℕ, List}
use Rattle.std.specs.List.{All, position_or_len}
use Rattle.std.specs.Str.{bytes_eq}
use Rattle.rls_expr.specs.declared.table.{Column.Column, TableDef.TableDef}
use Rattle.rls_core.specs.rls_guard.specs.Effects.{changes_of}
use Rattle.rls_core.specs.Records.{Record}
use Rattle.rls_audit.specs.Lines.{Content, content_of}
use Rattle.rls_audit.specs.Lines as lines
use Rattle.rls_audit.specs.Shows.{NamesColumn}

-- the place of the first column of that name, or behind the last one
abbrev pub place_of : List Column → List ℕ → ℕ
place_of columns name = position_or_len (λ column. bytes_eq column.name name) columns

-- the column at the place is the first of its name
abbrev pub IsFirstNamed : List Column → ℕ → Type 0
IsFirstNamed columns place = (name : List ℕ) × NamesColumn columns name place × (place_of columns name ≡ place)

-- so is each column of the table's key
abbrev pub HasFirstKey : TableDef → Type 0
HasFirstKey def = All (IsFirstNamed def.columns) def.key

-- if it is a table, so is each of its key
abbrev pub KeyIsFirst : Content → Type 0
KeyIsFirst (lines.Table def) = HasFirstKey def
KeyIsFirst _ = Unit {0}

-- of each table that the record's statements wrote
abbrev pub KeysAreFirst : Record → Type 0
KeysAreFirst it = All (λ effect. All (λ change. KeyIsFirst (content_of change)) (changes_of effect)) it.effects
