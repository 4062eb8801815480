-- What the phrases of the grammar stand for, each by what its parts stand for.
use Rattle.std.specs.Prelude.{ℕ, zero, suc, nat_le, nat_eq, pos, ◌-ℤ◌, ◌-◌, ◌^◌, Bool, true, false, not, ◌&&◌, ◌||◌, if◌then◌else◌, List, [], ◌∷◌, ◌++◌, length, map, ◌⊎◌, Option, Some, None, is_some}
use Rattle.std.specs.{List.list_any, Str.bytes_eq}
use Rattle.std.proofs.Common.{inl, inr}
use denote.Enum.Bare.{sameb}
use Rattle.rls_value.specs.{Names.reserved, Names.spells_name, Names.folded, declared.value.Value.Value, declared.value.ColType.ColType, declared.verb.Privilege.Privilege, declared.verb.PolicyKind.PolicyKind, declared.verb.Kind.Kind}
use Rattle.rls_expr.specs.{Terms.Term, Terms.Query, Terms.terms_of, Terms.maybe_term, declared.column_name.ColumnName.ColumnName, declared.expr.Comparison.Comparison, declared.expr.Selects.Selects, declared.expr.Sign.Sign, declared.policy.Grantee.Grantee}
use Rattle.rls_expr.specs.Terms as e
use Rattle.rls_text.specs.{declared.token.Token.Token, declared.attributes.RoleAttribute.RoleAttribute, declared.columns.ColumnMark.ColumnMark, declared.tables.TableElements.TableElements, Lang.put_in, declared.token.Token.TheVariants.Word, declared.token.Token.TheVariants.Number, declared.token.Token.TheVariants.Text}
use Rattle.rls_text.specs.contracts.columns.ColumnMark as column_mark
use Rattle.rls_statement.specs.declared.changing.Assignment as changing
use Rattle.rls_statement.specs.{declared.statement.Attributes.Attributes, declared.statement.MembershipOption.MembershipOption, declared.statement.MarkedColumn.MarkedColumn, declared.statement.MembershipOptions.MembershipOptions, declared.privileges.Privileges.Privileges, declared.privileges.Extent.Extent, declared.statement.RowSecurity.RowSecurity, declared.statement.Selected.Selected, declared.statement.Statement.Statement}
use Rattle.rls_statement.specs.contracts.statement.MembershipOption as option

-- ---- tokens

-- the name of a word, if it is one: in lower case, of 63 bytes at most
abbrev pub named : List ℕ → Option (List ℕ)
named w = if spells_name w && nat_le (length w) 63 then Some (folded w) else None

-- a word that isn't reserved, of 63 bytes at most
abbrev pub name_of : Token → Option (List ℕ)
name_of (Word w) = if reserved w then None else named w
name_of _ = None

-- what a text in quotes says
abbrev pub text_of : Token → Option (List ℕ)
text_of (Text x) = Some x
text_of _ = None

-- a number without a sign
abbrev pub number_of : Token → Option ℕ
number_of (Number n) = Some n
number_of _ = None

-- ---- literals

-- a number with its sign lies in the range of 64 bits
abbrev pub in_range : Option (Unit {0}) × ℕ → Bool
in_range (None, n) = nat_le n (2 ^ 63 - 1)
in_range (Some _, n) = nat_le n (2 ^ 63)

-- the number with its sign
abbrev pub signed : Option (Unit {0}) × ℕ → Value
signed (None, n) = Value.Int (pos n)
signed (Some _, n) = Value.Int (pos 0 -ℤ pos n)

-- ---- expressions

-- a column, of the name that stands first and of the one behind a dot, if there is one
abbrev pub column_name_of : List ℕ × Option (List ℕ) → ColumnName
column_name_of (name, None) = record { qualifier = None; name = name }
column_name_of (qualifier, Some name) = record { qualifier = Some qualifier; name = name }

-- the signs of the parts behind the first
abbrev pub signs_of : List (Sign × Term) → List Sign
signs_of [] = []
signs_of (part ∷ parts) = part.0 ∷ signs_of parts

-- those parts
abbrev pub parts_of : List (Sign × Term) → List Term
parts_of [] = []
parts_of (part ∷ parts) = part.1 ∷ parts_of parts

-- a sum, one node with all its parts; one alone makes no node
abbrev pub sum_of : Term → List (Sign × Term) → Term
sum_of first [] = first
sum_of first (second ∷ more) = e.Sum (signs_of (second ∷ more)) (terms_of (first ∷ parts_of (second ∷ more)))

-- what stands behind FROM: a table, and its alias, if there is one
abbrev pub TableAndAlias : Type 0
TableAndAlias = List ℕ × Option (List ℕ)

-- of what a SELECT is made: what it selects, its table, and its condition, if there is one
abbrev pub SelectParts : Type 0
SelectParts = Selected × (TableAndAlias × Option Term)

-- what a subquery selects
abbrev pub selects_of : Selected → Selects
selects_of Selected.All = Selects.All
selects_of Selected.Count = Selects.Count
selects_of (Selected.Items items) = Selects.Items

-- its items; none where it selects all, or counts
abbrev pub items_of : Selected → List Term
items_of (Selected.Items items) = items
items_of _ = []

-- a SELECT inside an expression, of its parts; the key isn't resolved yet
abbrev pub query_of : SelectParts → Query
query_of r = e.Select record { table = r.1.0.0; alias = r.1.0.1 } [] (selects_of r.0) (terms_of (items_of r.0)) (maybe_term r.1.1)

-- among which IN looks: a list, or what a SELECT gives
abbrev pub Choices : Type 0
Choices = List Term ⊎ SelectParts

-- IN, or NOT IN
abbrev pub among_of : Term → Option (Unit {0}) → Choices → Term
among_of left None (inl list) = e.InList left (terms_of list)
among_of left (Some _) (inl list) = e.NotInList left (terms_of list)
among_of left None (inr select) = e.InSubquery left (query_of select)
among_of left (Some _) (inr select) = e.NotInSubquery left (query_of select)

-- the same, or its left side alone
abbrev pub among : Term → Option (Option (Unit {0}) × Choices) → Term
among left None = left
among left (Some r) = among_of left r.0 r.1

-- a comparison, or its left side alone
abbrev pub compared : Term → Option (Comparison × Term) → Term
compared left None = left
compared left (Some r) = e.Compare r.0 left r.1

-- IS NULL, or IS NOT NULL
abbrev pub null_test : Term → Option (Unit {0}) → Term
null_test tested None = e.IsNull tested
null_test tested (Some _) = e.IsNotNull tested

-- negated so many times
abbrev pub negated : ℕ → Term → Term
negated zero operand = operand
negated (suc n) operand = negated n (e.Not operand)

-- AND, one node with all its operands; one alone makes no node
abbrev pub and_of : Term → List Term → Term
and_of first [] = first
and_of first (second ∷ more) = e.And (terms_of (first ∷ second ∷ more))

-- OR, likewise
abbrev pub or_of : Term → List Term → Term
or_of first [] = first
or_of first (second ∷ more) = e.Or (terms_of (first ∷ second ∷ more))

-- ---- statements

-- SELECT, of its parts
abbrev pub select_of : SelectParts → Statement
select_of r = Statement.Select record { items = r.0; table = r.1.0.0; alias = r.1.0.1; condition = r.1.1 }

-- each is of that length
abbrev pub have_length : ℕ → List (List Term) → Bool
have_length n [] = true
have_length n (x ∷ xs) = nat_eq (length x) n && have_length n xs

-- tuples of one length
abbrev pub are_even : List (List Term) → Bool
are_even [] = true
are_even (x ∷ xs) = have_length (length x) xs

-- each is as long as the list of columns, where one is written
abbrev pub are_as_long : Option (List (List ℕ)) → List (List Term) → Bool
are_as_long None tuples = true
are_as_long (Some names) tuples = have_length (length names) tuples

-- the rows of INSERT: columns, if they are written, and tuples
abbrev pub Rows : Type 0
Rows = Option (List (List ℕ)) × List (List Term)

-- INSERT, of its parts
abbrev pub insert_of : List ℕ × (Rows × Option Selected) → Statement
insert_of r = Statement.Insert record { table = r.0; columns = r.1.0.0; tuples = r.1.0.1; returning = r.1.1 }

-- a column of UPDATE, and what it is set to
abbrev pub set_column_of : List ℕ × Term → changing.Assignment
set_column_of r = record { column = r.0; value = r.1 }

-- the columns that are set
abbrev pub set_names : List changing.Assignment → List (List ℕ)
set_names = map (λ x. x.column)

-- by which UPDATE and DELETE end: WHERE and RETURNING
abbrev pub Ending : Type 0 → Type 0
Ending A = Option A × Option Selected

-- UPDATE, of its parts
abbrev pub update_of : List ℕ × (List changing.Assignment × Ending Term) → Statement
update_of r = Statement.Update record { table = r.0; assignments = r.1.0; condition = r.1.1.0; returning = r.1.1.1 }

-- DELETE, of its parts
abbrev pub delete_of : List ℕ × Ending Term → Statement
delete_of r = Statement.Delete record { table = r.0; condition = r.1.0; returning = r.1.1 }

-- two that say the same or the contrary
abbrev pub are_one_kind : RoleAttribute → RoleAttribute → Bool
are_one_kind (RoleAttribute.Superuser _) (RoleAttribute.Superuser _) = true
are_one_kind (RoleAttribute.Login _) (RoleAttribute.Login _) = true
are_one_kind (RoleAttribute.BypassRls _) (RoleAttribute.BypassRls _) = true
are_one_kind _ _ = false

-- none of them is of its kind
abbrev pub lacks : RoleAttribute → List RoleAttribute → Bool
lacks x [] = true
lacks x (y ∷ ys) = not (are_one_kind x y) && lacks x ys

-- no two are of one kind
abbrev pub each_once : List RoleAttribute → Bool
each_once [] = true
each_once (x ∷ xs) = lacks x xs && each_once xs

-- where nothing is written; a user may log in
abbrev pub opening : Bool → Attributes
opening is_user = record { superuser = None; login = (if is_user then Some true else None); bypass_rls = None }

-- as this attribute says
abbrev pub with_attribute : Attributes → RoleAttribute → Attributes
with_attribute all (RoleAttribute.Superuser flag) = record all { superuser = Some flag }
with_attribute all (RoleAttribute.Login flag) = record all { login = Some flag }
with_attribute all (RoleAttribute.BypassRls flag) = record all { bypass_rls = Some flag }

-- the list, or none
abbrev pub or_empty : {A : Type 0} → Option (List A) → List A
or_empty None = []
or_empty (Some xs) = xs

-- CREATE ROLE, of its parts
abbrev pub role_of : List ℕ × Attributes → Statement
role_of r = Statement.CreateRole record { name = r.0; attributes = r.1 }

-- the attributes that are written, over those that hold without
abbrev pub attributes_from : Bool → Option (List RoleAttribute) → Attributes
attributes_from is_user written = put_in with_attribute (opening is_user) (or_empty written)

-- ALTER ROLE, of its parts
abbrev pub altering_of : List ℕ × Attributes → Statement
altering_of r = Statement.AlterRole record { name = r.0; attributes = r.1 }

-- ---- tables

-- the mark is among them
abbrev pub has_mark : ColumnMark → List ColumnMark → Bool
has_mark x [] = false
has_mark x (y ∷ ys) = sameb column_mark.the_type x y || has_mark x ys

-- no two are one
abbrev pub marked_once : List ColumnMark → Bool
marked_once [] = true
marked_once (x ∷ xs) = not (has_mark x xs) && marked_once xs

-- a column, of its name, its type and its marks
abbrev pub column_of : (List ℕ × ColType) × List ColumnMark → MarkedColumn
column_of r = record { column = record { name = r.0.0; kind = r.0.1; not_null = has_mark ColumnMark.NotNull r.1 }; is_key = has_mark ColumnMark.PrimaryKey r.1 }

-- one of them is that name
abbrev pub has_name : List ℕ → List (List ℕ) → Bool
has_name name names = list_any (λ other. bytes_eq other name) names

-- no two are one
abbrev pub are_distinct : List (List ℕ) → Bool
are_distinct [] = true
are_distinct (name ∷ names) = not (has_name name names) && are_distinct names

-- a table's columns and its key, if there is one; it comes last
abbrev pub elements_with : List MarkedColumn × Option (List (List ℕ)) → TableElements
elements_with r = record { columns = r.0; key = r.1; key_last = true }

-- none is marked as the key
abbrev pub has_no_key : List MarkedColumn → Bool
has_no_key [] = true
has_no_key (x ∷ xs) = not x.is_key && has_no_key xs

-- at most one is marked as the key
abbrev pub has_one_key : List MarkedColumn → Bool
has_one_key [] = true
has_one_key (x ∷ xs) = if x.is_key then has_no_key xs else has_one_key xs

-- at most one primary key is written, as the mark of a column or as the constraint
abbrev pub keyed_once : List MarkedColumn → Option (List (List ℕ)) → Bool
keyed_once columns None = has_one_key columns
keyed_once columns (Some names) = has_no_key columns

-- the names of columns
abbrev pub column_names : List MarkedColumn → List (List ℕ)
column_names = map (λ x. x.column.name)

-- there is one primary key at most, and no two columns have one name
abbrev pub is_table : TableElements → Bool
is_table x = keyed_once x.columns x.key && are_distinct (column_names x.columns)

-- CREATE TABLE, of its parts
abbrev pub table_of : List ℕ × TableElements → Statement
table_of r = Statement.CreateTable record { name = r.0; columns = r.1.columns; key = r.1.key }

-- ALTER TABLE .. ROW LEVEL SECURITY, of its parts
abbrev pub altering_table_of : List ℕ × RowSecurity → Statement
altering_table_of r = Statement.AlterTable record { table = r.0; change = r.1 }

-- ---- policies

-- without TO it is for PUBLIC
abbrev pub or_public : Option (List Grantee) → List Grantee
or_public None = Grantee.Public ∷ []
or_public (Some all) = all

-- without AS it is permissive
abbrev pub or_permissive : Option Bool → Bool
or_permissive None = true
or_permissive (Some permissive) = permissive

-- without FOR it is for all commands
abbrev pub or_all : Option PolicyKind → PolicyKind
or_all None = PolicyKind.All
or_all (Some commands) = commands

-- Which expressions a policy may have: one for SELECT or DELETE has no WITH CHECK, one for INSERT no USING.
abbrev pub may_have : PolicyKind → (using check : Bool) → Bool
may_have (PolicyKind.Only Kind.Select) using check = not check
may_have (PolicyKind.Only Kind.Insert) using check = not using
may_have (PolicyKind.Only Kind.Update) using check = true
may_have (PolicyKind.Only Kind.Delete) using check = not check
may_have PolicyKind.All using check = true

-- what a policy is described by: AS, FOR, TO, USING, WITH CHECK
abbrev pub Description : Type 0 → Type 0
Description A = (Bool × PolicyKind) × (List Grantee × (Option A × Option A))

-- the policy may have its expressions
abbrev pub is_policy : {A : Type 0} → Description A → Bool
is_policy r = may_have r.0.1 (is_some r.1.1.0) (is_some r.1.1.1)

-- CREATE POLICY, of its parts; the policy's name stands before the table's
abbrev pub policy_of : (List ℕ × List ℕ) × Description Term → Statement
policy_of r = Statement.CreatePolicy record {
  table = r.0.1;
  policy = record { name = r.0.0; permissive = r.1.0.0; kind = r.1.0.1; to = r.1.1.0; using = r.1.1.1.0; check = r.1.1.1.1 };
}

-- what changes of a policy: TO, USING, WITH CHECK
abbrev pub PolicyChange : Type 0 → Type 0
PolicyChange A = Option (List Grantee) × (Option A × Option A)

-- something does
abbrev pub is_change : {A : Type 0} → PolicyChange A → Bool
is_change r = is_some r.0 || (is_some r.1.0 || is_some r.1.1)

-- ALTER POLICY, of its parts
abbrev pub altering_policy_of : (List ℕ × List ℕ) × PolicyChange Term → Statement
altering_policy_of r = Statement.AlterPolicy record { name = r.0.0; table = r.0.1; to = r.1.0; using = r.1.1.0; check = r.1.1.1 }

-- DROP POLICY, of its parts
abbrev pub dropping_policy_of : List ℕ × List ℕ → Statement
dropping_policy_of r = Statement.DropPolicy record { name = r.0; table = r.1 }

-- ---- GRANT and REVOKE of privileges

-- a privilege as it is named: for the whole table, or for the columns that are listed behind it
abbrev pub NamedPrivilege : Type 0
NamedPrivilege = Privilege × Option (List (List ℕ))

-- for the whole table
abbrev pub on_whole : Privilege → NamedPrivilege
on_whole privilege = (privilege, None)

-- for nothing
abbrev pub nothing : Extent
nothing = record { whole = false; columns = [] }

-- for the whole too, or for these columns too, behind those that are there
abbrev pub extended : Extent → Option (List (List ℕ)) → Extent
extended extent None = record { whole = true; columns = extent.columns }
extended extent (Some columns) = record { whole = extent.whole; columns = extent.columns ++ columns }

-- none of the four
abbrev pub no_privileges : Privileges
no_privileges = record { select = nothing; insert = nothing; update = nothing; delete = false }

-- with this one too
unfoldable pub with_privilege : Privileges → NamedPrivilege → Privileges
with_privilege all (Privilege.Select, columns) = record all { select = extended all.select columns }
with_privilege all (Privilege.Insert, columns) = record all { insert = extended all.insert columns }
with_privilege all (Privilege.Update, columns) = record all { update = extended all.update columns }
with_privilege all (Privilege.Delete, columns) = record all { delete = true }

-- those that are named; one may be named again, for the whole table or for further columns
abbrev pub privileges_of : List NamedPrivilege → Privileges
privileges_of = put_in with_privilege no_privileges

-- ALL: the four for the whole table, or for columns the three that may be
abbrev pub all_of : Option (List (List ℕ)) → Privileges
all_of None = record { select = extended nothing None; insert = extended nothing None; update = extended nothing None; delete = true }
all_of (Some columns) = record { select = extended nothing (Some columns); insert = extended nothing (Some columns); update = extended nothing (Some columns); delete = false }

-- for no privilege a column is named twice
abbrev pub columns_are_distinct : Privileges → Bool
columns_are_distinct x = are_distinct x.select.columns && (are_distinct x.insert.columns && are_distinct x.update.columns)

-- whether words that may be left out are there
abbrev pub are_written : Option (Unit {0}) → Bool
are_written None = false
are_written (Some _) = true

-- RESTRICT, where nothing is written
abbrev pub or_restrict : Option Bool → Bool
or_restrict None = false
or_restrict (Some cascade) = cascade

-- GRANT of privileges, of its parts
abbrev pub grant_of : (Privileges × List ℕ) × (List Grantee × Bool) → Statement
grant_of r = Statement.Grant record { privileges = r.0.0; table = r.0.1; to = r.1.0; with_option = r.1.1 }

-- REVOKE of privileges, of its parts
abbrev pub revoke_of : Bool × ((Privileges × List ℕ) × (List Grantee × Bool)) → Statement
revoke_of r = Statement.Revoke record { option_only = r.0; privileges = r.1.0.0; table = r.1.0.1; from = r.1.1.0; cascade = r.1.1.1 }

-- ---- memberships

-- an option of a membership, on or off
abbrev pub Setting : Type 0
Setting = MembershipOption × Bool

-- none of them is of that option
abbrev pub lacks_option : MembershipOption → List Setting → Bool
lacks_option x [] = true
lacks_option x (y ∷ ys) = not (sameb option.the_type x y.0) && lacks_option x ys

-- no two are of one option
abbrev pub set_once : List Setting → Bool
set_once [] = true
set_once (x ∷ xs) = lacks_option x.0 xs && set_once xs

-- where nothing is written
abbrev pub no_options : MembershipOptions
no_options = record { admin = None; inherit = None; set = None }

-- with this one set so
abbrev pub with_setting : MembershipOptions → Setting → MembershipOptions
with_setting all (MembershipOption.Admin, flag) = record all { admin = Some flag }
with_setting all (MembershipOption.Inherit, flag) = record all { inherit = Some flag }
with_setting all (MembershipOption.Set, flag) = record all { set = Some flag }

-- those that are written
abbrev pub options_from : Option (List Setting) → MembershipOptions
options_from written = put_in with_setting no_options (or_empty written)

-- GRANT of roles, of its parts
abbrev pub granting_of : List (List ℕ) × (List (List ℕ) × MembershipOptions) → Statement
granting_of r = Statement.GrantRoles record { roles = r.0; to = r.1.0; options = r.1.1 }

-- REVOKE of roles, of its parts
abbrev pub revoking_of : List (List ℕ) × (List (List ℕ) × Bool) → Statement
revoking_of r = Statement.RevokeRoles record { option = None; roles = r.0; from = r.1.0; cascade = r.1.1 }

-- REVOKE of an option, of its parts
abbrev pub option_revoking_of : MembershipOption × (List (List ℕ) × (List (List ℕ) × Bool)) → Statement
option_revoking_of r = Statement.RevokeRoles record { option = Some r.0; roles = r.1.0; from = r.1.1.0; cascade = r.1.1.1 }
