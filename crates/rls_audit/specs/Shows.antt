-- What a line shows. Statements, policies and the columns of a key stand in it as texts and names; it shows what they spell and name.
use Rattle.std.specs.Prelude.{◌≡◌, ℕ, List, Bool, Some, option_map, slice_get}
use Rattle.std.specs.List.{AllZip}
use Rattle.rls_expr.specs.{declared.policy.Policy.Policy, declared.table.TableDef.TableDef, declared.table.Column.Column}
use Rattle.rls_statement.specs.declared.statement.Statement.TheVariants.{CreatePolicy}
use Rattle.rls_audit_lines.specs.rls_text.specs.{ParseResults.IsSpelled, Words.words_of}
use Rattle.rls_audit_lines.specs.declared.contents.TableShape.{TableShape}
use Rattle.rls_audit_lines.specs.declared.changes.Changed.{Changed}
use Rattle.rls_audit_lines.specs.declared.changes.Changed.TheVariants as c
use Rattle.rls_audit_lines.specs.declared.lines.Answered.{Answered}
use Rattle.rls_audit_lines.specs.declared.lines.Shown.{Shown}
use Rattle.rls_audit_lines.specs.declared.lines.Line.{Line}
use Rattle.rls_audit_lines.specs.declared.lines.Line.TheVariants.{Head, Txn, End}
use Rattle.rls_audit_lines.specs.Asked.{IsAsked}
use Rattle.rls_audit_lines.specs.ChangeCodecs.{object_of}
use Rattle.rls_audit.specs.Lines as shown
use Rattle.rls_audit_lines.specs.Reading.{MeansLine}

-- the column at the place has the name
abbrev pub NamesColumn : List Column → List ℕ → ℕ → Type 0
NamesColumn columns name place = option_map (λ column. column.name) (slice_get columns place) ≡ Some name

-- the table is so, and its key has the columns at the places
pub record ShowsTable (shape : TableShape) (def : TableDef) : Type 0 where
  pub owner : shape.owner ≡ def.owner
  pub enabled : shape.enabled ≡ def.enabled
  pub forced : shape.forced ≡ def.forced
  pub columns : shape.columns ≡ def.columns
  pub key : AllZip (NamesColumn def.columns) shape.key def.key

-- the text spells the statement that creates the policy of the table
abbrev pub SpellsPolicy : List ℕ → List ℕ → Policy → Type 0
SpellsPolicy table text policy = IsSpelled (words_of text) (CreatePolicy record { table = table; policy = policy })

-- the object has this then
abbrev pub ShowsContent : Changed → shown.Content → Type 0
ShowsContent (c.Role name def) (shown.Role content) = def ≡ content
ShowsContent (c.Members member memberships) (shown.Members content) = memberships ≡ content
ShowsContent (c.Table name shape) (shown.Table content) = ShowsTable shape content
ShowsContent (c.Grants table grants) (shown.Grants content) = grants ≡ content
ShowsContent (c.Policies table texts) (shown.Policies content) = AllZip (SpellsPolicy table) texts content
ShowsContent (c.Row table id values) (shown.Row content) = values ≡ content
ShowsContent _ _ = ⊥

-- the object was changed, and has this then
pub record ShowsChanged (changed : Changed) (it : shown.Written) : Type 0 where
  pub object : object_of changed ≡ it.object
  pub content : ShowsContent changed it.content

-- the statement was answered so
pub record ShowsAnswered (answered : Answered) (it : shown.Answered) : Type 0 where
  pub statement : IsAsked (words_of answered.text) it.statement
  pub reply : answered.reply ≡ it.reply
  pub decisions : answered.decisions ≡ it.decisions

-- what the members of a transaction's line show
pub record ShowsTxn (line : Shown) (it : shown.Shown) : Type 0 where
  pub commit : line.commit ≡ it.commit
  pub txn : line.txn ≡ it.txn
  pub login : line.login ≡ it.begin.login
  pub role : line.role ≡ it.begin.role
  pub mode : line.mode ≡ it.begin.mode
  pub snap : line.snap ≡ it.snap
  pub statements : AllZip ShowsAnswered line.statements it.statements
  pub changes : AllZip ShowsChanged line.changes it.changes

-- the line shows this
abbrev pub ShowsLine : Line → shown.Line → Type 0
ShowsLine Head shown.Head = Unit {0}
ShowsLine (Txn line) (shown.Txn it) = ShowsTxn line it
ShowsLine (End count order) (shown.End commits numbers) = (count ≡ commits) × (order ≡ numbers)
ShowsLine _ _ = ⊥

-- the text is a line of the format that shows this
pub record Means (second : Bool) (text : List ℕ) (it : shown.Line) : Type 0 where
  pub line : Line
  pub reads : MeansLine second text line
  pub shows : ShowsLine line it
