-- The words of which a statement is printed.
use Rattle.std.specs.Prelude.{ℕ, Bool, true, false, ◌||◌, if◌then◌else◌, List, [], ◌∷◌, ◌++◌, Option, Some, None, is_some, codes}
use Rattle.rls_value.specs.{declared.value.ColType.ColType, declared.verb.PolicyKind.PolicyKind, declared.verb.Privilege.Privilege, declared.verb.Kind.Kind}
use Rattle.rls_expr.specs.{Terms.Term, Terms.terms_of, Terms.maybe_term, declared.policy.Grantee.Grantee, declared.policy.Policy.Policy}
use Rattle.rls_expr.specs.declared.policy.Grantee.TheVariants as to
use Rattle.rls_statement.specs.{declared.changing.Assignment.Assignment, declared.statement.Attributes.Attributes, declared.statement.MarkedColumn.MarkedColumn, declared.statement.MembershipOption.MembershipOption, declared.statement.MembershipOptions.MembershipOptions, declared.privileges.Privileges.Privileges, declared.statement.RowSecurity.RowSecurity, declared.statement.Selected.Selected, declared.statement.SetRole.SetRole, declared.statement.Statement.Statement}
use Rattle.rls_statement.specs.declared.statement.MembershipOption.TheVariants as o
use Rattle.rls_statement.specs.declared.statement.RowSecurity.TheVariants as change
use Rattle.rls_statement.specs.declared.statement.Selected.TheVariants as selected
use Rattle.rls_statement.specs.declared.statement.SetRole.TheVariants as sr
use Rattle.rls_statement.specs.declared.command.AccessMode.TheVariants as mode
use Rattle.rls_statement.specs.declared.command.TransactionCommand.{TransactionCommand}
use Rattle.rls_statement.specs.declared.command.TransactionCommand.TheVariants as tc
use Rattle.rls_statement.specs.declared.statement.Statement.TheVariants as st
use Rattle.rls_text.specs.{Values.NamedPrivilege, WaysBack.are_all, WaysBack.named_of}
use Rattle.rls_printing.specs.declared.buffer.Mark.TheVariants as m
use Rattle.rls_printing.specs.{ExprForms.expr, ExprForms.list, ExprForms.where_, ExprForms.enclosed, ExprForms.from_, OutputTokens.OutputToken, OutputTokens.Word, OutputTokens.Marked, OutputTokens.Count}

-- ---- lists

-- a comma and an item, again and again
abbrev pub also : {A : Type 0} → (A → List OutputToken) → List A → List OutputToken
also form [] = []
also form (x ∷ xs) = Marked m.Comma ∷ (form x ++ also form xs)

-- items with commas between them
abbrev pub listed : {A : Type 0} → (A → List OutputToken) → List A → List OutputToken
listed form [] = []
listed form (x ∷ xs) = form x ++ also form xs

-- the same, behind a comma where something stands before
abbrev pub listed_behind : {A : Type 0} → (before : Bool) → (A → List OutputToken) → List A → List OutputToken
listed_behind true form xs = also form xs
listed_behind false form xs = listed form xs

-- a name
abbrev pub name : List ℕ → List OutputToken
name x = Word x ∷ []

-- a grantee
abbrev pub grantee : Grantee → List OutputToken
grantee to.Public = Word (codes "PUBLIC") ∷ []
grantee (to.Role x) = Word x ∷ []

-- a row of INSERT
abbrev pub tuple : List Term → List OutputToken
tuple xs = enclosed (list (terms_of xs))

-- a column and what it is set to
abbrev pub assignment : Assignment → List OutputToken
assignment x = Word x.column ∷ Marked m.Equal ∷ expr x.value

-- ---- SELECT, INSERT, UPDATE, DELETE

-- what is selected or returned
abbrev pub selected_items : Selected → List OutputToken
selected_items selected.All = Marked m.Star ∷ []
selected_items (selected.Items items) = list (terms_of items)
selected_items selected.Count = Count ∷ []

-- RETURNING
abbrev pub returning : Option Selected → List OutputToken
returning None = []
returning (Some x) = Word (codes "RETURNING") ∷ selected_items x

-- the columns behind INSERT INTO
abbrev pub columns_if_any : Option (List (List ℕ)) → List OutputToken
columns_if_any None = []
columns_if_any (Some names) = enclosed (listed name names)

-- ---- roles

-- a word, if it is written, and which
abbrev pub flag : Option Bool → (on off : List ℕ) → List OutputToken
flag None on off = []
flag (Some true) on off = Word on ∷ []
flag (Some false) on off = Word off ∷ []

-- the attributes of a role
abbrev pub attributes : Attributes → List OutputToken
attributes x = flag x.superuser (codes "SUPERUSER") (codes "NOSUPERUSER") ++ (flag x.login (codes "LOGIN") (codes "NOLOGIN") ++ flag x.bypass_rls (codes "BYPASSRLS") (codes "NOBYPASSRLS"))

-- ---- tables

-- the type of a column
abbrev pub column_type : ColType → OutputToken
column_type ColType.Integer = Word (codes "INTEGER")
column_type ColType.BigInt = Word (codes "BIGINT")
column_type ColType.Text = Word (codes "TEXT")
column_type ColType.Boolean = Word (codes "BOOLEAN")

-- the mark NOT NULL
abbrev pub not_null : Bool → List OutputToken
not_null true = Word (codes "NOT") ∷ Word (codes "NULL") ∷ []
not_null false = []

-- the mark PRIMARY KEY
abbrev pub is_key : Bool → List OutputToken
is_key true = Word (codes "PRIMARY") ∷ Word (codes "KEY") ∷ []
is_key false = []

-- a column of a new table
abbrev pub column : MarkedColumn → List OutputToken
column x = Word x.column.name ∷ column_type x.column.kind ∷ (not_null x.column.not_null ++ is_key x.is_key)

-- the key as a constraint
abbrev pub key : Option (List (List ℕ)) → List OutputToken
key None = []
key (Some names) = Marked m.Comma ∷ Word (codes "PRIMARY") ∷ Word (codes "KEY") ∷ enclosed (listed name names)

-- a change of row security
abbrev pub row_change : RowSecurity → List OutputToken
row_change change.Enable = Word (codes "ENABLE") ∷ []
row_change change.Disable = Word (codes "DISABLE") ∷ []
row_change change.Force = Word (codes "FORCE") ∷ []
row_change change.NoForce = Word (codes "NO") ∷ Word (codes "FORCE") ∷ []

-- ---- policies

-- a policy's name and its table
abbrev pub policy_on : (policy table : List ℕ) → List OutputToken
policy_on policy table = Word policy ∷ Word (codes "ON") ∷ Word table ∷ []

-- AS
abbrev pub permissive : Bool → OutputToken
permissive true = Word (codes "PERMISSIVE")
permissive false = Word (codes "RESTRICTIVE")

-- FOR
abbrev pub policy_kind : PolicyKind → OutputToken
policy_kind PolicyKind.All = Word (codes "ALL")
policy_kind (PolicyKind.Only Kind.Select) = Word (codes "SELECT")
policy_kind (PolicyKind.Only Kind.Insert) = Word (codes "INSERT")
policy_kind (PolicyKind.Only Kind.Update) = Word (codes "UPDATE")
policy_kind (PolicyKind.Only Kind.Delete) = Word (codes "DELETE")

-- USING
abbrev pub using_ : Option Term → List OutputToken
using_ None = []
using_ (Some x) = Word (codes "USING") ∷ enclosed (expr x)

-- WITH CHECK
abbrev pub check_ : Option Term → List OutputToken
check_ None = []
check_ (Some x) = Word (codes "WITH") ∷ Word (codes "CHECK") ∷ enclosed (expr x)

-- TO, where it is there
abbrev pub to_if_any : Option (List Grantee) → List OutputToken
to_if_any None = []
to_if_any (Some all) = Word (codes "TO") ∷ listed grantee all

-- AS, FOR, TO, USING and WITH CHECK
abbrev pub description : Policy → List OutputToken
description x =
    Word (codes "AS") ∷ permissive x.permissive ∷ Word (codes "FOR") ∷ policy_kind x.kind ∷ Word (codes "TO") ∷ (listed grantee x.to ++ (using_ x.using ++ check_ x.check))

-- a policy, as CREATE POLICY
abbrev pub policy : (table : List ℕ) → Policy → List OutputToken
policy table x = Word (codes "CREATE") ∷ Word (codes "POLICY") ∷ (policy_on x.name table ++ description x)

-- ---- GRANT and REVOKE

-- a comma, where something stands before
abbrev pub comma_if : Bool → List OutputToken
comma_if true = Marked m.Comma ∷ []
comma_if false = []

-- a privilege's word
abbrev pub privilege_word : Privilege → OutputToken
privilege_word Privilege.Select = Word (codes "SELECT")
privilege_word Privilege.Insert = Word (codes "INSERT")
privilege_word Privilege.Update = Word (codes "UPDATE")
privilege_word Privilege.Delete = Word (codes "DELETE")

-- a privilege as it is named, and the columns that are listed behind it
abbrev pub named_privilege : NamedPrivilege → List OutputToken
named_privilege x = privilege_word x.0 ∷ columns_if_any x.1

-- privileges: ALL for the four where no columns are listed, or else each that is named, for the whole table before its columns
abbrev pub privileges : Privileges → List OutputToken
privileges x = if are_all x then Word (codes "ALL") ∷ [] else listed named_privilege (named_of x)

-- WITH GRANT OPTION
abbrev pub with_option : Bool → List OutputToken
with_option true = Word (codes "WITH") ∷ Word (codes "GRANT") ∷ Word (codes "OPTION") ∷ []
with_option false = []

-- GRANT OPTION FOR
abbrev pub option_only : Bool → List OutputToken
option_only true = Word (codes "GRANT") ∷ Word (codes "OPTION") ∷ Word (codes "FOR") ∷ []
option_only false = []

-- CASCADE
abbrev pub cascade : Bool → List OutputToken
cascade true = Word (codes "CASCADE") ∷ []
cascade false = []

-- an option of a membership, if it is written
abbrev pub option_if : Option Bool → (before : Bool) → List ℕ → List OutputToken
option_if None before word = []
option_if (Some on) before word = comma_if before ++ Word word ∷ flag (Some on) (codes "TRUE") (codes "FALSE")

-- those that are written
abbrev pub some_options : MembershipOptions → List OutputToken
some_options x =
    option_if x.admin false (codes "ADMIN") ++ (option_if x.inherit (is_some x.admin) (codes "INHERIT") ++ option_if x.set (is_some x.admin || is_some x.inherit) (codes "SET"))

-- WITH and the options, if there are some
abbrev pub options : MembershipOptions → List OutputToken
options x = if is_some x.admin || (is_some x.inherit || is_some x.set) then Word (codes "WITH") ∷ some_options x else []

-- an option's word
abbrev pub option_word : MembershipOption → OutputToken
option_word o.Admin = Word (codes "ADMIN")
option_word o.Inherit = Word (codes "INHERIT")
option_word o.Set = Word (codes "SET")

-- an option, and OPTION FOR
abbrev pub option_for : Option MembershipOption → List OutputToken
option_for None = []
option_for (Some x) = option_word x ∷ Word (codes "OPTION") ∷ Word (codes "FOR") ∷ []

-- SET ROLE, RESET ROLE
abbrev pub set_role : SetRole → List OutputToken
set_role (sr.To x) = Word (codes "SET") ∷ Word (codes "ROLE") ∷ Word x ∷ []
set_role sr.None = Word (codes "SET") ∷ Word (codes "ROLE") ∷ Word (codes "NONE") ∷ []
set_role sr.Reset = Word (codes "RESET") ∷ Word (codes "ROLE") ∷ []

-- BEGIN, COMMIT, ROLLBACK; READ WRITE isn't printed
abbrev pub transaction : TransactionCommand → List OutputToken
transaction (tc.Begin mode.ReadWrite) = Word (codes "BEGIN") ∷ []
transaction (tc.Begin mode.ReadOnly) = Word (codes "BEGIN") ∷ Word (codes "READ") ∷ Word (codes "ONLY") ∷ []
transaction tc.Commit = Word (codes "COMMIT") ∷ []
transaction tc.Rollback = Word (codes "ROLLBACK") ∷ []

-- a statement
abbrev pub statement : Statement → List OutputToken
statement (st.Select x) = Word (codes "SELECT") ∷ (selected_items x.items ++ (from_ x.table x.alias ++ where_ (maybe_term x.condition)))
statement (st.Insert x) =
    Word (codes "INSERT") ∷ Word (codes "INTO") ∷ Word x.table ∷ (columns_if_any x.columns ++ Word (codes "VALUES") ∷ (listed tuple x.tuples ++ returning x.returning))
statement (st.Update x) = Word (codes "UPDATE") ∷ Word x.table ∷ Word (codes "SET") ∷ (listed assignment x.assignments ++ (where_ (maybe_term x.condition) ++ returning x.returning))
statement (st.Delete x) = Word (codes "DELETE") ∷ Word (codes "FROM") ∷ Word x.table ∷ (where_ (maybe_term x.condition) ++ returning x.returning)
statement (st.CreateRole x) = Word (codes "CREATE") ∷ Word (codes "ROLE") ∷ Word x.name ∷ attributes x.attributes
statement (st.AlterRole x) = Word (codes "ALTER") ∷ Word (codes "ROLE") ∷ Word x.name ∷ attributes x.attributes
statement (st.CreateTable x) = Word (codes "CREATE") ∷ Word (codes "TABLE") ∷ Word x.name ∷ enclosed (listed column x.columns ++ key x.key)
statement (st.AlterTable x) =
    Word (codes "ALTER") ∷ Word (codes "TABLE") ∷ Word x.table ∷ (row_change x.change ++ Word (codes "ROW") ∷ Word (codes "LEVEL") ∷ Word (codes "SECURITY") ∷ [])
statement (st.CreatePolicy x) = policy x.table x.policy
statement (st.AlterPolicy x) = Word (codes "ALTER") ∷ Word (codes "POLICY") ∷ (policy_on x.name x.table ++ (to_if_any x.to ++ (using_ x.using ++ check_ x.check)))
statement (st.DropPolicy x) = Word (codes "DROP") ∷ Word (codes "POLICY") ∷ policy_on x.name x.table
statement (st.Grant x) = Word (codes "GRANT") ∷ (privileges x.privileges ++ Word (codes "ON") ∷ Word x.table ∷ Word (codes "TO") ∷ (listed grantee x.to ++ with_option x.with_option))
statement (st.Revoke x) =
    Word (codes "REVOKE") ∷ (option_only x.option_only ++ (privileges x.privileges ++ Word (codes "ON") ∷ Word x.table ∷ Word (codes "FROM") ∷ (listed grantee x.from ++ cascade x.cascade)))
statement (st.GrantRoles x) = Word (codes "GRANT") ∷ (listed name x.roles ++ Word (codes "TO") ∷ (listed name x.to ++ options x.options))
statement (st.RevokeRoles x) = Word (codes "REVOKE") ∷ (option_for x.option ++ (listed name x.roles ++ Word (codes "FROM") ∷ (listed name x.from ++ cascade x.cascade)))
statement (st.SetRole x) = set_role x
statement (st.Transaction x) = transaction x
