-- The ways back of tables and policies, as those of `WaysBack`.
use Rattle.std.specs.Prelude.{◌≡◌, Bool, true, false, List, [], ◌∷◌, ◌++◌, map, Option, Some, None, ℕ, refl}
use Rattle.std.proofs.Common.{sym, ap, ◌∙◌}
use denote.Enum.Bare.{sameb, same_true}
use Rattle.rls_value.specs.{declared.value.ColType.ColType, declared.verb.Kind.Kind, declared.verb.PolicyKind.PolicyKind}
use Rattle.rls_value.specs.contracts.value.ColType as col_type
use Rattle.rls_value.specs.contracts.verb.Kind as command
use Rattle.rls_expr.specs.{Terms.Term, declared.policy.Grantee.Grantee}
use Rattle.rls_statement.specs.{declared.statement.MarkedColumn.MarkedColumn, declared.statement.RowSecurity.RowSecurity, declared.statement.Statement.Statement}
use Rattle.rls_statement.specs.contracts.statement.RowSecurity as row_security
use Rattle.rls_text.specs.{declared.columns.ColumnMark.ColumnMark, declared.tables.TableElement.TableElement, declared.tables.TableElements.TableElements, Writes.some_is, Rule.Telling, Elements.elements_of, Elements.key_if, Elements.put_behind}
use Rattle.rls_text.specs.contracts.columns.ColumnMark as column_mark
use Rattle.rls_text.specs.Values as g

-- ---- tables

-- types, told apart
abbrev pub column_types : Telling ColType
column_types = record { are_same = sameb col_type.the_type; same_is = same_true col_type.the_type tt }

-- marks, told apart
abbrev pub column_marks : Telling ColumnMark
column_marks = record { are_same = sameb column_mark.the_type; same_is = same_true column_mark.the_type tt }

-- the mark, where it is so
abbrev pub mark_if : Bool → ColumnMark → List ColumnMark
mark_if true x = x ∷ []
mark_if false x = []

-- NOT NULL, then PRIMARY KEY
abbrev pub as_marks : (not_null is_key : Bool) → List ColumnMark
as_marks not_null is_key = mark_if not_null ColumnMark.NotNull ++ mark_if is_key ColumnMark.PrimaryKey

-- name, type, marks
abbrev pub as_definition : MarkedColumn → Option ((List ℕ × ColType) × List ColumnMark)
as_definition x = Some ((x.column.name, x.column.kind), as_marks x.column.not_null x.is_key)

definition_back : (name : List ℕ) (kind : ColType) (not_null is_key : Bool)
    → record { column = record { name = name; kind = kind; not_null = not_null }; is_key = is_key } ≡ g.column_of ((name, kind), as_marks not_null is_key)
definition_back name kind true true = refl
definition_back name kind true false = refl
definition_back name kind false true = refl
definition_back name kind false false = refl

pub definition_law : (b : MarkedColumn) (a : (List ℕ × ColType) × List ColumnMark) → as_definition b ≡ Some a → b ≡ g.column_of a
definition_law b a h =
    definition_back b.column.name b.column.kind b.column.not_null b.is_key
    ∙ ap g.column_of (some_is ((b.column.name, b.column.kind), as_marks b.column.not_null b.is_key) a h)

-- a column, as an element
abbrev pub as_column : TableElement → Option MarkedColumn
as_column (TableElement.Column x) = Some x
as_column _ = None

pub column_law : (b : TableElement) (a : MarkedColumn) → as_column b ≡ Some a → b ≡ TableElement.Column a
column_law (TableElement.Column x) a h = ap TableElement.Column (some_is x a h)
column_law _ a h = cc

-- the key's names, as an element
abbrev pub as_key : TableElement → Option (List (List ℕ))
as_key (TableElement.Key x) = Some x
as_key _ = None

pub key_law : (b : TableElement) (a : List (List ℕ)) → as_key b ≡ Some a → b ≡ TableElement.Key a
key_law (TableElement.Key x) a h = ap TableElement.Key (some_is x a h)
key_law _ a h = cc

-- the columns, and the constraint last
abbrev pub listed_elements : List MarkedColumn → Option (List (List ℕ)) → Bool → Option (MarkedColumn × List TableElement)
listed_elements (x ∷ xs) key true = Some (x, map TableElement.Column xs ++ key_if key)
listed_elements _ _ _ = None

-- the first column, and the other elements
abbrev pub as_elements : TableElements → Option (MarkedColumn × List TableElement)
as_elements x = listed_elements x.columns x.key x.key_last

elements_back : (columns : List MarkedColumn) (key : Option (List (List ℕ))) (last : Bool) (a : MarkedColumn × List TableElement) → listed_elements columns key last ≡ Some a
    → record { columns = columns; key = key; key_last = last } ≡ elements_of a
elements_back (x ∷ xs) key true a h = sym (put_behind (x ∷ []) xs key) ∙ ap elements_of (some_is (x, map TableElement.Column xs ++ key_if key) a h)
elements_back (x ∷ xs) key false a h = cc
elements_back [] key true a h = cc
elements_back [] key false a h = cc

pub elements_law : (b : TableElements) (a : MarkedColumn × List TableElement) → as_elements b ≡ Some a → b ≡ elements_of a
elements_law b a h = elements_back b.columns b.key b.key_last a h

-- name, elements
abbrev pub as_table : Statement → Option (List ℕ × TableElements)
as_table (Statement.CreateTable x) = Some (x.name, g.elements_with (x.columns, x.key))
as_table _ = None

pub table_law : (b : Statement) (a : List ℕ × TableElements) → as_table b ≡ Some a → b ≡ g.table_of a
table_law (Statement.CreateTable x) a h = ap g.table_of (some_is (x.name, g.elements_with (x.columns, x.key)) a h)
table_law _ a h = cc

-- changes of row security, told apart
abbrev pub row_changes : Telling RowSecurity
row_changes = record { are_same = sameb row_security.the_type; same_is = same_true row_security.the_type tt }

-- table, change of its row security
abbrev pub as_altering_table : Statement → Option (List ℕ × RowSecurity)
as_altering_table (Statement.AlterTable x) = Some (x.table, x.change)
as_altering_table _ = None

pub altering_table_law : (b : Statement) (a : List ℕ × RowSecurity) → as_altering_table b ≡ Some a → b ≡ g.altering_table_of a
altering_table_law (Statement.AlterTable x) a h = ap g.altering_table_of (some_is (x.table, x.change) a h)
altering_table_law _ a h = cc

-- ---- policies

-- PUBLIC
abbrev pub as_public : Grantee → Option (Unit {0})
as_public Grantee.Public = Some tt
as_public _ = None

pub public_law : (b : Grantee) (a : Unit {0}) → as_public b ≡ Some a → b ≡ Grantee.Public
public_law Grantee.Public a h = refl
public_law _ a h = cc

-- a role that is a grantee
abbrev pub as_grantee : Grantee → Option (List ℕ)
as_grantee (Grantee.Role x) = Some x
as_grantee _ = None

pub grantee_law : (b : Grantee) (a : List ℕ) → as_grantee b ≡ Some a → b ≡ Grantee.Role a
grantee_law (Grantee.Role x) a h = ap Grantee.Role (some_is x a h)
grantee_law _ a h = cc

-- TO is always written
abbrev pub as_for : List Grantee → Option (Option (List Grantee))
as_for all = Some (Some all)

pub grantees_law : (b : List Grantee) (a : Option (List Grantee)) → as_for b ≡ Some a → b ≡ g.or_public a
grantees_law b a h = ap g.or_public (some_is (Some b) a h)

-- AS is always written
abbrev pub as_permissive : Bool → Option (Option Bool)
as_permissive b = Some (Some b)

pub permissive_law : (b : Bool) (a : Option Bool) → as_permissive b ≡ Some a → b ≡ g.or_permissive a
permissive_law b a h = ap g.or_permissive (some_is (Some b) a h)

-- types of commands, told apart
abbrev pub commands : Telling Kind
commands = record { are_same = sameb command.the_type; same_is = same_true command.the_type tt }

-- all commands
abbrev pub as_all : PolicyKind → Option (Unit {0})
as_all PolicyKind.All = Some tt
as_all _ = None

pub all_law : (b : PolicyKind) (a : Unit {0}) → as_all b ≡ Some a → b ≡ PolicyKind.All
all_law PolicyKind.All a h = refl
all_law _ a h = cc

-- one type of command
abbrev pub as_only : PolicyKind → Option Kind
as_only (PolicyKind.Only x) = Some x
as_only _ = None

pub only_law : (b : PolicyKind) (a : Kind) → as_only b ≡ Some a → b ≡ PolicyKind.Only a
only_law (PolicyKind.Only x) a h = ap PolicyKind.Only (some_is x a h)
only_law _ a h = cc

-- FOR is always written
abbrev pub as_commands : PolicyKind → Option (Option PolicyKind)
as_commands b = Some (Some b)

pub commands_law : (b : PolicyKind) (a : Option PolicyKind) → as_commands b ≡ Some a → b ≡ g.or_all a
commands_law b a h = ap g.or_all (some_is (Some b) a h)

-- name and table, description
abbrev pub as_policy : Statement → Option ((List ℕ × List ℕ) × g.Description Term)
as_policy (Statement.CreatePolicy x) = Some ((x.policy.name, x.table), ((x.policy.permissive, x.policy.kind), (x.policy.to, (x.policy.using, x.policy.check))))
as_policy _ = None

pub policy_law : (b : Statement) (a : (List ℕ × List ℕ) × g.Description Term) → as_policy b ≡ Some a → b ≡ g.policy_of a
policy_law (Statement.CreatePolicy x) a h =
    ap g.policy_of (some_is ((x.policy.name, x.table), ((x.policy.permissive, x.policy.kind), (x.policy.to, (x.policy.using, x.policy.check)))) a h)
policy_law _ a h = cc

-- name and table, what changes
abbrev pub as_altering_policy : Statement → Option ((List ℕ × List ℕ) × g.PolicyChange Term)
as_altering_policy (Statement.AlterPolicy x) = Some ((x.name, x.table), (x.to, (x.using, x.check)))
as_altering_policy _ = None

pub altering_policy_law : (b : Statement) (a : (List ℕ × List ℕ) × g.PolicyChange Term) → as_altering_policy b ≡ Some a → b ≡ g.altering_policy_of a
altering_policy_law (Statement.AlterPolicy x) a h = ap g.altering_policy_of (some_is ((x.name, x.table), (x.to, (x.using, x.check))) a h)
altering_policy_law _ a h = cc

-- name and table
abbrev pub as_dropping_policy : Statement → Option (List ℕ × List ℕ)
as_dropping_policy (Statement.DropPolicy x) = Some (x.name, x.table)
as_dropping_policy _ = None

pub dropping_policy_law : (b : Statement) (a : List ℕ × List ℕ) → as_dropping_policy b ≡ Some a → b ≡ g.dropping_policy_of a
dropping_policy_law (Statement.DropPolicy x) a h = ap g.dropping_policy_of (some_is (x.name, x.table) a h)
dropping_policy_law _ a h = cc
