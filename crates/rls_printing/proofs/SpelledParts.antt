-- What is spelled is written: roles, tables, privileges and memberships, which have no expressions.
use Rattle.std.proofs.Common.{◌≡◌, ℕ, Bool, true, false, ◌||◌, if◌then◌else◌, List, [], ◌∷◌, ◌++◌, map, Option, Some, None, refl, ap, sym, ◌∙◌, inl, inr, subst}
use Rattle.std.specs.Prelude.{codes, is_some, slice_get}
use Rattle.rls_value.specs.{declared.value.ColType.ColType, declared.verb.PolicyKind.PolicyKind, declared.verb.Privilege.Privilege, declared.verb.Kind.Kind}
use Rattle.rls_expr.specs.declared.policy.Grantee.{Grantee}
use Rattle.rls_statement.specs.{declared.statement.Attributes.Attributes, declared.statement.MarkedColumn.MarkedColumn, declared.statement.MembershipOption.MembershipOption, declared.statement.MembershipOptions.MembershipOptions, declared.privileges.Extent.Extent, declared.privileges.Privileges.Privileges, Extents.names_some, declared.statement.RowSecurity.RowSecurity, declared.statement.SetRole.SetRole, declared.statement.Statement.Statement}
use Rattle.rls_text.specs.{declared.attributes.RoleAttribute.RoleAttribute, declared.tables.TableElement.TableElement, declared.tables.TableElements.TableElements, declared.token.Token.Token, Elements.key_if, Lang.only, Lang.Perhaps, Lang.After, Lang.Before, Lang.Many, Lang.put_in, Rule.with_comma, Rule.in_parentheses, Writes.Writer, Writes.joined, Writes.or_else, Writes.many_writes, declared.token.Symbol.Symbol}
use Rattle.rls_text.specs.declared.token.Token.TheVariants as t
use Rattle.rls_text.specs.Grammar as g
use Rattle.rls_text.specs.Values as values
use Rattle.rls_text.specs.WaysBack as back
use Rattle.rls_text.specs.TablesBack as tables
use Rattle.rls_printing.proofs.{Writing.There, Writing.there_both, Writing.there_parts, Writing.parens, SpelledExprs.there_parens, SpelledExprs.Says, SpelledExprs.If, SpelledExprs.Each, SpelledExprs.after_says, SpelledExprs.many_say, SpelledExprs.perhaps_says, Spelled.Full, Spelled.there_first, Spelled.there_last, Spelled.there_if, Spelled.each_full, Spelled.only_full, Spelled.both_full, Spelled.after_full, Spelled.before_full, Spelled.mapped_full, Spelled.either_full, Spelled.perhaps_full, Spelled.checked_full, Spelled.listed_full, Spelled.name_full, Spelled.names_full, Spelled.distinct_full}

-- ---- words and parentheses

-- behind a keyword
pub word_full : {B : Type 0} (x : List ℕ) (q : List Token → B → Type 0) (u : B → Option (List Token)) → Full q u → Full (After (only (t.Word x)) q) (λ b. joined (Some (t.Word x ∷ [])) (u b))
word_full x q u h = after_full (only (t.Word x)) (λ z. Some (t.Word x ∷ [])) q u tt tt h

-- "(" .. ")"
pub enclosed_full : {A : Type 0} (p : List Token → A → Type 0) (w : A → Option (List Token)) → Full p w → Full (After (only (t.Symbol Symbol.LParen)) (Before p (only (t.Symbol Symbol.RParen)))) (λ x. parens (w x))
enclosed_full p w h =
    after_full (only (t.Symbol Symbol.LParen)) (λ z. Some (t.Symbol Symbol.LParen ∷ [])) (Before p (only (t.Symbol Symbol.RParen))) (λ x. joined (w x) (Some (t.Symbol Symbol.RParen ∷ []))) tt tt
    (before_full p w (only (t.Symbol Symbol.RParen)) (λ z. Some (t.Symbol Symbol.RParen ∷ [])) tt tt h)

or_true : (b c : Bool) → c ≡ true → (b || c) ≡ true
or_true true c h = refl
or_true false c h = h

-- ---- roles

attribute_there : (x : RoleAttribute) → There (g.attribute.prints.writes x)
unfolding g.attribute
attribute_there (RoleAttribute.Superuser true) = tt
attribute_there (RoleAttribute.Superuser false) = tt
attribute_there (RoleAttribute.Login true) = tt
attribute_there (RoleAttribute.Login false) = tt
attribute_there (RoleAttribute.BypassRls true) = tt
attribute_there (RoleAttribute.BypassRls false) = tt

more_attributes : (xs : List RoleAttribute) → There (many_writes g.attribute.spells g.attribute.prints xs)
more_attributes [] = tt
more_attributes (x ∷ xs) = there_both (g.attribute.prints.writes x) (many_writes g.attribute.spells g.attribute.prints xs) (attribute_there x) (more_attributes xs)

list_there : (x : RoleAttribute) (xs : List RoleAttribute) → values.each_once (x ∷ xs) ≡ true → There (g.attributes.prints.writes (x ∷ xs))
unfolding g.attributes g.first_and_more
list_there x xs h =
    there_if (values.each_once (x ∷ xs)) (joined (g.attribute.prints.writes x) (many_writes g.attribute.spells g.attribute.prints xs)) h
    (there_both (g.attribute.prints.writes x) (many_writes g.attribute.spells g.attribute.prints xs) (attribute_there x) (more_attributes xs))

-- the attributes in their order
abbrev ordered : Option Bool → Option Bool → Option Bool → List RoleAttribute
ordered s l b = back.one_if RoleAttribute.Superuser s ++ back.one_if RoleAttribute.Login l ++ back.one_if RoleAttribute.BypassRls b

ordered_once : (s l b : Option Bool) → values.each_once (ordered s l b) ≡ true
ordered_once None None None = refl
ordered_once None None (Some z) = refl
ordered_once None (Some y) None = refl
ordered_once None (Some y) (Some z) = refl
ordered_once (Some x) None None = refl
ordered_once (Some x) None (Some z) = refl
ordered_once (Some x) (Some y) None = refl
ordered_once (Some x) (Some y) (Some z) = refl

if_any_there : (xs : List RoleAttribute) → values.each_once xs ≡ true → There (g.attributes_if_any.prints.writes (back.if_any xs))
unfolding g.attributes_if_any
if_any_there [] h = tt
if_any_there (x ∷ xs) h = there_both (Some []) (g.attributes.prints.writes (x ∷ xs)) tt (list_there x xs h)

attributes_there : (b : Attributes) → There ((g.attributes_of_role false).prints.writes b)
unfolding g.attributes_of_role
attributes_there b = if_any_there (ordered b.superuser b.login b.bypass_rls) (ordered_once b.superuser b.login b.bypass_rls)

-- CREATE ROLE and CREATE USER, which is written as CREATE ROLE
pub role_full : (is_user : Bool) → Full (g.role is_user).spells (g.role false).prints.writes
unfolding g.role
role_full is_user = record {
  written = λ ts x h. subst (λ z. There ((g.role false).prints.writes z)) (sym h.value)
      (there_both (g.name.prints.writes h.source.0) ((g.attributes_of_role false).prints.writes h.source.1) (name_full.written h.spelled.front h.source.0 h.spelled.one) (attributes_there h.source.1));
}

-- one attribute at least is written
abbrev has_some : Attributes → Bool
has_some b = is_some b.superuser || (is_some b.login || is_some b.bypass_rls)

has_that : (b : Attributes) (x : RoleAttribute) → has_some (values.with_attribute b x) ≡ true
has_that b (RoleAttribute.Superuser flag) = refl
has_that b (RoleAttribute.Login flag) = or_true (is_some b.superuser) true refl
has_that b (RoleAttribute.BypassRls flag) = or_true (is_some b.superuser) (is_some b.login || true) (or_true (is_some b.login) true refl)

still_has : (b : Attributes) (xs : List RoleAttribute) → has_some b ≡ true → has_some (put_in values.with_attribute b xs) ≡ true
still_has b [] h = h
still_has b (x ∷ xs) h = still_has (values.with_attribute b x) xs (has_that b x)

written_there : (s l b : Option Bool) → has_some record { superuser = s; login = l; bypass_rls = b } ≡ true → There (g.written_attributes.prints.writes record { superuser = s; login = l; bypass_rls = b })
unfolding g.written_attributes
written_there None None None h = cc
written_there None None (Some z) h = there_both (Some []) (g.attributes.prints.writes (RoleAttribute.BypassRls z ∷ [])) tt (list_there (RoleAttribute.BypassRls z) [] refl)
written_there None (Some y) None h = there_both (Some []) (g.attributes.prints.writes (RoleAttribute.Login y ∷ [])) tt (list_there (RoleAttribute.Login y) [] refl)
written_there None (Some y) (Some z) h = there_both (Some []) (g.attributes.prints.writes (RoleAttribute.Login y ∷ RoleAttribute.BypassRls z ∷ [])) tt (list_there (RoleAttribute.Login y) (RoleAttribute.BypassRls z ∷ []) refl)
written_there (Some x) l b h = there_both (Some []) (g.attributes.prints.writes (ordered (Some x) l b)) tt (list_there (RoleAttribute.Superuser x) (back.one_if RoleAttribute.Login l ++ back.one_if RoleAttribute.BypassRls b) (ordered_once (Some x) l b))

written_full : Full g.written_attributes.spells g.written_attributes.prints.writes
unfolding g.written_attributes g.attributes g.first_and_more
written_full = record {
  written = λ ts b h.
      let x = h.spelled.spelled.other.spelled in
      let all : h.source ≡ x.source.0 ∷ x.source.1 = h.spelled.value ∙ x.value in
      let said = still_has (values.with_attribute (values.opening false) x.source.0) x.source.1 (has_that (values.opening false) x.source.0) in
      let some : has_some b ≡ true = rw (h.value, all) said in
      written_there b.superuser b.login b.bypass_rls some;
}

pub altered_role_full : Full g.altered_role.spells g.altered_role.prints.writes
unfolding g.altered_role
altered_role_full = mapped_full values.altering_of back.as_altering _ _ (λ r. refl) (both_full g.name.spells g.name.prints.writes g.written_attributes.spells g.written_attributes.prints.writes name_full written_full)

-- ---- tables

type_there : (x : ColType) → There (g.column_type.prints.writes x)
unfolding g.column_type
type_there ColType.Integer = tt
type_there ColType.BigInt = tt
type_there ColType.Text = tt
type_there ColType.Boolean = tt

marks_there : (not_null is_key : Bool) → There (g.column_marks.prints.writes (tables.as_marks not_null is_key))
unfolding g.column_marks g.all_marks g.column_mark
marks_there true true = tt
marks_there true false = tt
marks_there false true = tt
marks_there false false = tt

definition_full : Full g.column_definition.spells g.column_definition.prints.writes
unfolding g.column_definition
definition_full = record {
  written = λ ts x h.
      let r = h.source in
      let y = h.spelled.one in
      let c = values.column_of r in
      subst (λ z. There (g.column_definition.prints.writes z)) (sym h.value)
      (there_both (joined (g.name.prints.writes r.0.0) (g.column_type.prints.writes r.0.1)) (g.column_marks.prints.writes (tables.as_marks c.column.not_null c.is_key))
      (there_both (g.name.prints.writes r.0.0) (g.column_type.prints.writes r.0.1) (name_full.written y.front r.0.0 y.one) (type_there r.0.1)) (marks_there c.column.not_null c.is_key));
}

key_full : Full g.primary_key.spells g.primary_key.prints.writes
unfolding g.primary_key
key_full = word_full (codes "primary") _ _ (word_full (codes "key") _ _ (enclosed_full g.distinct_names.spells g.distinct_names.prints.writes distinct_full))

comma_there : (x : TableElement) → There (g.table_element.prints.writes x) → There ((with_comma g.table_element).prints.writes x)
unfolding with_comma
comma_there x h = there_both (Some (t.Symbol Symbol.Comma ∷ [])) (g.table_element.prints.writes x) tt h

column_there : (x : MarkedColumn) → There (g.column_definition.prints.writes x) → There (g.table_element.prints.writes (TableElement.Column x))
unfolding g.table_element
column_there x h = there_first (g.column_definition.prints.writes x) None h

key_there : (x : List (List ℕ)) → There (g.primary_key.prints.writes x) → There (g.table_element.prints.writes (TableElement.Key x))
unfolding g.table_element
key_there x h = h

elements_there : (xs : List MarkedColumn) (key : Option (List (List ℕ))) → Each (λ x. There (g.column_definition.prints.writes x)) xs → If (λ x. There (g.primary_key.prints.writes x)) key
    → There (many_writes (with_comma g.table_element).spells (with_comma g.table_element).prints (map TableElement.Column xs ++ key_if key))
elements_there [] None h k = tt
elements_there [] (Some names) h k = there_both ((with_comma g.table_element).prints.writes (TableElement.Key names)) (Some []) (comma_there (TableElement.Key names) (key_there names k)) tt
elements_there (x ∷ xs) key h k =
    there_both ((with_comma g.table_element).prints.writes (TableElement.Column x)) (many_writes (with_comma g.table_element).spells (with_comma g.table_element).prints (map TableElement.Column xs ++ key_if key))
    (comma_there (TableElement.Column x) (column_there x h.0)) (elements_there xs key h.1 k)

-- columns that are spelled
columns_say : Says (with_comma g.column_definition).spells (λ x. There (g.column_definition.prints.writes x))
unfolding with_comma
columns_say = after_says (only (t.Symbol Symbol.Comma)) g.column_definition.spells (λ x. There (g.column_definition.prints.writes x)) (record { says = λ ts x h. definition_full.written ts x h })

keys_say : Says (with_comma g.primary_key).spells (λ x. There (g.primary_key.prints.writes x))
unfolding with_comma
keys_say = after_says (only (t.Symbol Symbol.Comma)) g.primary_key.spells (λ x. There (g.primary_key.prints.writes x)) (record { says = λ ts x h. key_full.written ts x h })

-- the columns, the key behind them
listed_there : (ts : List Token) (x : TableElements) → g.ColumnsAndKey ts x → There (g.columns_and_key.prints.writes (values.elements_with (x.columns, x.key)))
unfolding g.columns_and_key g.listed_elements g.table_elements
listed_there ts x h =
    let y = h.spelled in
    let z = y.one in
    let first = z.source.0 in
    let more = z.source.1 in
    let key = h.source.1 in
    let columns : x.columns ≡ first ∷ more = ap (λ e. e.columns) h.value ∙ z.value in
    let same : x.key ≡ key = ap (λ e. e.key) h.value in
    rw (columns, same)
    (there_both (g.column_definition.prints.writes first) (many_writes (with_comma g.table_element).spells (with_comma g.table_element).prints (map TableElement.Column more ++ key_if key))
    (definition_full.written z.spelled.front first z.spelled.one)
    (elements_there more key ((many_say _ _ columns_say).says z.spelled.rest more z.spelled.other) ((perhaps_says _ _ keys_say).says y.rest key y.other)))

proper_there : (ts : List Token) (x : TableElements) → g.proper_elements.spells ts x → There (g.proper_elements.prints.writes (values.elements_with (x.columns, x.key)))
unfolding g.proper_elements g.columns_and_key
proper_there ts x h =
    let passes : values.is_table (values.elements_with (x.columns, x.key)) ≡ true = h.passes in
    there_if (values.is_table (values.elements_with (x.columns, x.key))) (g.columns_and_key.prints.writes (values.elements_with (x.columns, x.key))) passes (listed_there ts x h.spelled)

enclosed_elements : Says (in_parentheses g.proper_elements refl).spells (λ x. There (g.proper_elements.prints.writes (values.elements_with (x.columns, x.key))))
enclosed_elements = record {
  says = λ ts x h.
      let y = h.spelled.other in
      let z = y.spelled.one in
      let same : x ≡ y.source.0 = h.value ∙ y.value in
      subst (λ e. There (g.proper_elements.prints.writes (values.elements_with (e.columns, e.key)))) (sym same) (proper_there y.spelled.front y.source.0 z);
}

pub table_full : Full g.table.spells g.table.prints.writes
unfolding g.table
table_full = record {
  written = λ ts x h.
      let r = h.source in
      let y = h.spelled in
      subst (λ z. There (g.table.prints.writes z)) (sym h.value)
      (there_both (g.name.prints.writes r.0) (parens (g.proper_elements.prints.writes (values.elements_with (r.1.columns, r.1.key)))) (name_full.written y.front r.0 y.one)
      (there_parens (g.proper_elements.prints.writes (values.elements_with (r.1.columns, r.1.key))) (enclosed_elements.says y.rest r.1 y.other)));
}

change_there : (x : RowSecurity) → There (g.row_change.prints.writes x)
unfolding g.row_change
change_there RowSecurity.Enable = tt
change_there RowSecurity.Disable = tt
change_there RowSecurity.Force = tt
change_there RowSecurity.NoForce = tt

pub altered_table_full : Full g.altered_table.spells g.altered_table.prints.writes
unfolding g.altered_table
altered_table_full = mapped_full values.altering_table_of tables.as_altering_table _ _ (λ r. refl)
    (both_full g.name.spells g.name.prints.writes _ _ name_full (before_full g.row_change.spells g.row_change.prints.writes _ (λ z. Some (t.Word (codes "row") ∷ t.Word (codes "level") ∷ t.Word (codes "security") ∷ [])) tt tt (each_full _ _ change_there)))

-- ---- policies

pub policy_on_full : Full g.policy_on.spells g.policy_on.prints.writes
unfolding g.policy_on
policy_on_full = both_full g.name.spells g.name.prints.writes _ _ name_full (word_full (codes "on") g.name.spells g.name.prints.writes name_full)

permissive_there : (x : Bool) → There (g.permissive.prints.writes x)
unfolding g.permissive
permissive_there true = tt
permissive_there false = tt

commands_there : (x : PolicyKind) → There (g.for_commands.prints.writes x)
unfolding g.for_commands g.policy_kind g.command_type
commands_there PolicyKind.All = tt
commands_there (PolicyKind.Only Kind.Select) = tt
commands_there (PolicyKind.Only Kind.Insert) = tt
commands_there (PolicyKind.Only Kind.Update) = tt
commands_there (PolicyKind.Only Kind.Delete) = tt

pub options_full : Full g.policy_options.spells g.policy_options.prints.writes
unfolding g.policy_options
options_full = both_full g.permissive.spells g.permissive.prints.writes g.for_commands.spells g.for_commands.prints.writes (each_full _ _ permissive_there) (each_full _ _ commands_there)

grantee_full : Full g.grantee.spells g.grantee.prints.writes
unfolding g.grantee
grantee_full = either_full _ _ _ _ (mapped_full (λ z. Grantee.Public) tables.as_public _ _ (λ x. refl) (only_full (t.Word (codes "public")))) (mapped_full Grantee.Role tables.as_grantee g.name.spells g.name.prints.writes (λ x. refl) name_full)

grantees_full : Full g.grantees.spells g.grantees.prints.writes
unfolding g.grantees
grantees_full = listed_full g.grantee grantee_full

to_full : Full g.to_grantees.spells g.to_grantees.prints.writes
unfolding g.to_grantees
to_full = word_full (codes "to") g.grantees.spells g.grantees.prints.writes grantees_full

public_there : There (g.to_grantees.prints.writes (Grantee.Public ∷ []))
unfolding g.to_grantees g.grantees g.grantee
public_there = tt

pub for_full : Full g.for_grantees.spells g.for_grantees.prints.writes
unfolding g.for_grantees
for_full = record { written = λ ts x h. subst (λ z. There (g.for_grantees.prints.writes z)) (sym h.value) (go ts h.source h.spelled) }
  where
    go : (ts : List Token) (o : Option (List Grantee)) → Perhaps g.to_grantees.spells ts o → There (g.to_grantees.prints.writes (values.or_public o))
    go ts None h = public_there
    go ts (Some all) h = to_full.written ts all h

pub grantees_if_any_full : Full g.grantees_if_any.spells g.grantees_if_any.prints.writes
unfolding g.grantees_if_any
grantees_if_any_full = perhaps_full g.to_grantees to_full

dropped_full : Full g.dropped_policy.spells g.dropped_policy.prints.writes
unfolding g.dropped_policy
dropped_full = mapped_full values.dropping_policy_of tables.as_dropping_policy _ _ (λ r. refl) (word_full (codes "drop") _ _ (word_full (codes "policy") g.policy_on.spells g.policy_on.prints.writes policy_on_full))

-- ---- privileges

-- each name is written, behind a comma
abbrev are_there : List (List ℕ) → Type 0
are_there xs = There (many_writes (with_comma g.name).spells (with_comma g.name).prints xs)

-- and there is one
abbrev some_there : List (List ℕ) → Type 0
some_there [] = ⊥
some_there (x ∷ xs) = are_there (x ∷ xs)

-- the columns are written, if some are listed
abbrev columns_said : Option (List (List ℕ)) → Type 0
columns_said None = Unit {0}
columns_said (Some columns) = some_there columns

first_there : (x : List ℕ) (xs : List (List ℕ)) → There (g.names.prints.writes (x ∷ xs)) → are_there (x ∷ xs)
unfolding g.names with_comma
first_there x xs h =
    let a = there_parts (g.name.prints.writes x) (many_writes (with_comma g.name).spells (with_comma g.name).prints xs) h in
    there_both (joined (Some (t.Symbol Symbol.Comma ∷ [])) (g.name.prints.writes x)) (many_writes (with_comma g.name).spells (with_comma g.name).prints xs) (there_both (Some (t.Symbol Symbol.Comma ∷ [])) (g.name.prints.writes x) tt a.0) a.1

names_there : (x : List ℕ) (xs : List (List ℕ)) → are_there (x ∷ xs) → There (g.names.prints.writes (x ∷ xs))
unfolding g.names with_comma
names_there x xs h =
    let a = there_parts (joined (Some (t.Symbol Symbol.Comma ∷ [])) (g.name.prints.writes x)) (many_writes (with_comma g.name).spells (with_comma g.name).prints xs) h in
    let b = there_parts (Some (t.Symbol Symbol.Comma ∷ [])) (g.name.prints.writes x) a.0 in
    there_both (g.name.prints.writes x) (many_writes (with_comma g.name).spells (with_comma g.name).prints xs) b.1 a.1

no_names : There (g.names.prints.writes []) → ⊥
unfolding g.names
no_names h = h

spelled_there : (ts : List Token) (xs : List (List ℕ)) → g.names.spells ts xs → some_there xs
spelled_there ts [] h = no_names (names_full.written ts [] h)
spelled_there ts (x ∷ xs) h = first_there x xs (names_full.written ts (x ∷ xs) h)

columns_spelled : (ts : List Token) (x : Option (List (List ℕ))) → g.column_list.spells ts x → columns_said x
unfolding g.column_list
columns_spelled ts None h = tt
columns_spelled ts (Some columns) h =
    let inner = h.spelled.other in
    subst (λ z. some_there z) (sym (h.value ∙ inner.value)) (spelled_there inner.spelled.front inner.source.0 inner.spelled.one)

privilege_spelled : (ts : List Token) (x : values.NamedPrivilege) → g.privilege.spells ts x → columns_said x.1
unfolding g.privilege
privilege_spelled ts x h = elim h [
  | inl y ↦ columns_spelled y.rest x.1 y.other
  | inr y ↦ subst (λ z. columns_said z.1) (sym y.value) tt
]

-- there is a privilege at least
abbrev has_privilege : Privileges → Bool
has_privilege b = names_some b.select || (names_some b.insert || (names_some b.update || b.delete))

-- and the columns of each are written
record Sayable (b : Privileges) : Type 0 where
  select : are_there b.select.columns
  insert : are_there b.insert.columns
  update : are_there b.update.columns

there_append : {A : Type 0} (p : List Token → A → Type 0) (W : Writer p) (xs ys : List A) → There (many_writes p W xs) → There (many_writes p W ys) → There (many_writes p W (xs ++ ys))
there_append p W [] ys h k = k
there_append p W (x ∷ xs) ys h k =
    let a = there_parts (W.writes x) (many_writes p W xs) h in
    there_both (W.writes x) (many_writes p W (xs ++ ys)) a.0 (there_append p W xs ys a.1 k)

further_there : (e : Extent) (columns : Option (List (List ℕ))) → are_there e.columns → columns_said columns → are_there (values.extended e columns).columns
further_there e None h k = h
further_there e (Some []) h k = absurd k
further_there e (Some (x ∷ xs)) h k = there_append (with_comma g.name).spells (with_comma g.name).prints e.columns (x ∷ xs) h k

some_behind : (xs : List (List ℕ)) (y : List ℕ) (ys : List (List ℕ)) → is_some (slice_get (xs ++ y ∷ ys) 0) ≡ true
some_behind [] y ys = refl
some_behind (x ∷ xs) y ys = refl

names_further : (e : Extent) (columns : Option (List (List ℕ))) → columns_said columns → names_some (values.extended e columns) ≡ true
names_further e None k = refl
names_further e (Some []) k = absurd k
names_further e (Some (x ∷ xs)) k = or_true e.whole (is_some (slice_get (e.columns ++ x ∷ xs) 0)) (some_behind e.columns x xs)

or_first : (b c : Bool) → b ≡ true → (b || c) ≡ true
or_first true c h = refl
or_first false c h = cc

has_it : (b : Privileges) (x : values.NamedPrivilege) → columns_said x.1 → has_privilege (values.with_privilege b x) ≡ true
unfolding values.with_privilege
has_it b (Privilege.Select, columns) k = or_first (names_some (values.extended b.select columns)) _ (names_further b.select columns k)
has_it b (Privilege.Insert, columns) k = or_true (names_some b.select) _ (or_first (names_some (values.extended b.insert columns)) _ (names_further b.insert columns k))
has_it b (Privilege.Update, columns) k = or_true (names_some b.select) _ (or_true (names_some b.insert) _ (or_first (names_some (values.extended b.update columns)) _ (names_further b.update columns k)))
has_it b (Privilege.Delete, columns) k = or_true (names_some b.select) _ (or_true (names_some b.insert) _ (or_true (names_some b.update) true refl))

stays_sayable : (b : Privileges) (x : values.NamedPrivilege) → columns_said x.1 → Sayable b → Sayable (values.with_privilege b x)
unfolding values.with_privilege
stays_sayable b (Privilege.Select, columns) k h = record { select = further_there b.select columns h.select k; insert = h.insert; update = h.update }
stays_sayable b (Privilege.Insert, columns) k h = record { select = h.select; insert = further_there b.insert columns h.insert k; update = h.update }
stays_sayable b (Privilege.Update, columns) k h = record { select = h.select; insert = h.insert; update = further_there b.update columns h.update k }
stays_sayable b (Privilege.Delete, columns) k h = record { select = h.select; insert = h.insert; update = h.update }

-- privileges that are put in one by one, of which there is one at least
put_sayable : (ts : List Token) (b : Privileges) (xs : List values.NamedPrivilege) → Many (with_comma g.privilege).spells ts xs → has_privilege b ≡ true → Sayable b
    → (has_privilege (put_in values.with_privilege b xs) ≡ true) × Sayable (put_in values.with_privilege b xs)
unfolding with_comma
put_sayable ts b [] h some k = (some, k)
put_sayable ts b (x ∷ xs) h some k =
    let there : columns_said x.1 = subst (λ z. columns_said z.1) (sym h.3.value) (privilege_spelled h.3.spelled.rest h.3.source.1 h.3.spelled.other) in
    put_sayable h.1 (values.with_privilege b x) xs h.4 (has_it b x there) (stays_sayable b x there k)

-- ---- they are written

whole_there : (x : Privilege) → There ((with_comma g.privilege).prints.writes (values.on_whole x))
unfolding with_comma g.privilege g.column_privilege g.column_list
whole_there Privilege.Select = tt
whole_there Privilege.Insert = tt
whole_there Privilege.Update = tt
whole_there Privilege.Delete = tt

if_whole_there : (x : Privilege) (b : Bool) → There (many_writes (with_comma g.privilege).spells (with_comma g.privilege).prints (back.where_whole x b))
if_whole_there x true = there_both ((with_comma g.privilege).prints.writes (values.on_whole x)) (Some []) (whole_there x) tt
if_whole_there x false = tt

columns_there : (x : Privilege) (column : List ℕ) (columns : List (List ℕ)) → There (g.column_privilege.prints.writes x) → are_there (column ∷ columns) → There ((with_comma g.privilege).prints.writes (x, Some (column ∷ columns)))
unfolding with_comma g.privilege g.column_list
columns_there x column columns h k =
    let words = joined (g.column_privilege.prints.writes x) (parens (g.names.prints.writes (column ∷ columns))) in
    let there : There words = there_both (g.column_privilege.prints.writes x) (parens (g.names.prints.writes (column ∷ columns))) h (there_parens (g.names.prints.writes (column ∷ columns)) (names_there column columns k)) in
    there_both (Some (t.Symbol Symbol.Comma ∷ [])) (or_else words None) tt (there_first words None there)

if_listed_there : (x : Privilege) (columns : List (List ℕ)) → There (g.column_privilege.prints.writes x) → are_there columns → There (many_writes (with_comma g.privilege).spells (with_comma g.privilege).prints (back.where_listed x columns))
if_listed_there x [] h k = tt
if_listed_there x (column ∷ columns) h k = there_both ((with_comma g.privilege).prints.writes (x, Some (column ∷ columns))) (Some []) (columns_there x column columns h k) tt

naming_there : (x : Privilege) (e : Extent) → There (g.column_privilege.prints.writes x) → are_there e.columns → There (many_writes (with_comma g.privilege).spells (with_comma g.privilege).prints (back.naming x e))
naming_there x e h k =
    there_append (with_comma g.privilege).spells (with_comma g.privilege).prints (back.where_whole x e.whole) (back.where_listed x e.columns) (if_whole_there x e.whole) (if_listed_there x e.columns h k)

all_named_there : (b : Privileges) → Sayable b → There (many_writes (with_comma g.privilege).spells (with_comma g.privilege).prints (back.named_of b))
unfolding g.column_privilege
all_named_there b h =
    let delete = back.where_whole Privilege.Delete b.delete in
    let update = back.naming Privilege.Update b.update in
    let insert = back.naming Privilege.Insert b.insert in
    let select = back.naming Privilege.Select b.select in
    there_append (with_comma g.privilege).spells (with_comma g.privilege).prints select (insert ++ (update ++ delete)) (naming_there Privilege.Select b.select tt h.select)
    (there_append (with_comma g.privilege).spells (with_comma g.privilege).prints insert (update ++ delete) (naming_there Privilege.Insert b.insert tt h.insert)
    (there_append (with_comma g.privilege).spells (with_comma g.privilege).prints update delete (naming_there Privilege.Update b.update tt h.update) (if_whole_there Privilege.Delete b.delete)))

some_list_there : (xs : List values.NamedPrivilege) → (xs ≡ [] → ⊥) → There (many_writes (with_comma g.privilege).spells (with_comma g.privilege).prints xs) → There (g.privilege_list.prints.writes xs)
unfolding g.privilege_list with_comma
some_list_there [] some h = absurd (some refl)
some_list_there (x ∷ xs) some h =
    let a = there_parts (joined (Some (t.Symbol Symbol.Comma ∷ [])) (g.privilege.prints.writes x)) (many_writes (with_comma g.privilege).spells (with_comma g.privilege).prints xs) h in
    let b = there_parts (Some (t.Symbol Symbol.Comma ∷ [])) (g.privilege.prints.writes x) a.0 in
    there_both (g.privilege.prints.writes x) (many_writes (with_comma g.privilege).spells (with_comma g.privilege).prints xs) b.1 a.1

never_both : (b : Bool) → b ≡ true → b ≡ false → ⊥
never_both b h k = cc

some_named : (b : Privileges) → has_privilege b ≡ true → back.named_of b ≡ [] → ⊥
some_named b h e = never_both (has_privilege b) h (ap has_privilege (sym (back.named_back b) ∙ ap values.privileges_of e))

named_there : (b : Privileges) → has_privilege b ≡ true → Sayable b → There (g.named_privileges.prints.writes b)
unfolding g.named_privileges
named_there b some h = some_list_there (back.named_of b) (some_named b some) (all_named_there b h)

named_full : Full g.named_privileges.spells g.named_privileges.prints.writes
unfolding g.named_privileges g.privilege_list
named_full = record {
  written = λ ts b h.
      let list = h.spelled in
      let all = list.spelled in
      let there = privilege_spelled all.front list.source.0 all.one in
      let none : Sayable values.no_privileges = record { select = tt; insert = tt; update = tt } in
      let said = put_sayable all.rest (values.with_privilege values.no_privileges list.source.0) list.source.1 all.other (has_it values.no_privileges list.source.0 there) (stays_sayable values.no_privileges list.source.0 there none) in
      subst (λ z. There (g.named_privileges.prints.writes z)) (sym (h.value ∙ ap values.privileges_of list.value)) (named_there (values.privileges_of (list.source.0 ∷ list.source.1)) said.0 said.1);
}

all_there : (columns : Option (List (List ℕ))) → columns_said columns → There (g.table_privileges.prints.writes (values.all_of columns))
unfolding g.table_privileges g.all_privileges g.column_list
all_there None h = tt
all_there (Some []) h = absurd h
all_there (Some (x ∷ xs)) h =
    let all = values.all_of (Some (x ∷ xs)) in
    there_last (g.all_privileges.prints.writes all) (g.named_privileges.prints.writes all) (named_there all refl record { select = h; insert = h; update = h })

table_privileges_full : Full g.table_privileges.spells g.table_privileges.prints.writes
unfolding g.table_privileges g.all_privileges
table_privileges_full = record {
  written = λ ts b h. elim h [
    | inl y ↦
        let inner = y.spelled.spelled.other in
        let columns = columns_spelled inner.spelled.rest inner.source.1 inner.spelled.other in
        subst (λ z. There (g.table_privileges.prints.writes z)) (sym (y.value ∙ ap values.all_of (y.spelled.value ∙ inner.value))) (all_there inner.source.1 columns)
    | inr y ↦ there_last (g.all_privileges.prints.writes b) (g.named_privileges.prints.writes b) (named_full.written ts b y)
  ];
}

privileges_full : Full g.privileges.spells g.privileges.prints.writes
unfolding g.privileges
privileges_full = checked_full values.columns_are_distinct g.table_privileges.spells g.table_privileges.prints.writes table_privileges_full

table_name_full : Full g.table_name.spells g.table_name.prints.writes
unfolding g.table_name
table_name_full = after_full (Perhaps (only (t.Word (codes "table")))) (λ z. Some []) g.name.spells g.name.prints.writes None tt name_full

privileges_on_full : Full g.privileges_on.spells g.privileges_on.prints.writes
unfolding g.privileges_on
privileges_on_full = both_full g.privileges.spells g.privileges.prints.writes _ _ privileges_full (word_full (codes "on") g.table_name.spells g.table_name.prints.writes table_name_full)

with_option_there : (x : Bool) → There (g.with_option.prints.writes x)
unfolding g.with_option
with_option_there true = tt
with_option_there false = tt

granted_to_full : Full g.granted_to.spells g.granted_to.prints.writes
unfolding g.granted_to
granted_to_full = both_full g.to_grantees.spells g.to_grantees.prints.writes g.with_option.spells g.with_option.prints.writes to_full (each_full _ _ with_option_there)

granted_privileges_full : Full g.granted_privileges.spells g.granted_privileges.prints.writes
unfolding g.granted_privileges
granted_privileges_full = mapped_full values.grant_of back.as_grant _ _ (λ r. refl) (both_full g.privileges_on.spells g.privileges_on.prints.writes g.granted_to.spells g.granted_to.prints.writes privileges_on_full granted_to_full)

option_only_there : (x : Bool) → There (g.option_only.prints.writes x)
unfolding g.option_only
option_only_there true = tt
option_only_there false = tt

cascade_there : (x : Bool) → There (g.cascade.prints.writes x)
unfolding g.cascade
cascade_there true = tt
cascade_there false = tt

revoked_from_full : Full g.revoked_from.spells g.revoked_from.prints.writes
unfolding g.revoked_from
revoked_from_full = word_full (codes "from") _ _ (both_full g.grantees.spells g.grantees.prints.writes g.cascade.spells g.cascade.prints.writes grantees_full (each_full _ _ cascade_there))

revoked_privileges_full : Full g.revoked_privileges.spells g.revoked_privileges.prints.writes
unfolding g.revoked_privileges
revoked_privileges_full = mapped_full values.revoke_of back.as_revoke _ _ (λ r. refl)
    (both_full g.option_only.spells g.option_only.prints.writes _ _ (each_full _ _ option_only_there) (both_full g.privileges_on.spells g.privileges_on.prints.writes g.revoked_from.spells g.revoked_from.prints.writes privileges_on_full revoked_from_full))

-- ---- memberships

option_there : (x : MembershipOption) → There (g.option.prints.writes x)
unfolding g.option
option_there MembershipOption.Admin = tt
option_there MembershipOption.Inherit = tt
option_there MembershipOption.Set = tt

flag_there : (x : Bool) → There (g.flag.prints.writes x)
unfolding g.flag
flag_there true = tt
flag_there false = tt

setting_there : (x : values.Setting) → There (g.setting.prints.writes x)
unfolding g.setting
setting_there x = there_both (g.option.prints.writes x.0) (g.flag.prints.writes x.1) (option_there x.0) (flag_there x.1)

more_settings : (xs : List values.Setting) → There (many_writes (with_comma g.setting).spells (with_comma g.setting).prints xs)
unfolding with_comma
more_settings [] = tt
more_settings (x ∷ xs) =
    there_both (joined (Some (t.Symbol Symbol.Comma ∷ [])) (g.setting.prints.writes x)) (many_writes (with_comma g.setting).spells (with_comma g.setting).prints xs)
    (there_both (Some (t.Symbol Symbol.Comma ∷ [])) (g.setting.prints.writes x) tt (setting_there x)) (more_settings xs)

settings_there : (xs : List values.Setting) → values.set_once xs ≡ true → There (g.settings_if_any.prints.writes (back.if_any xs))
unfolding g.settings_if_any g.settings g.all_settings
settings_there [] h = tt
settings_there (x ∷ xs) h =
    there_both (Some (t.Word (codes "with") ∷ [])) (if values.set_once (x ∷ xs) then joined (g.setting.prints.writes x) (many_writes (with_comma g.setting).spells (with_comma g.setting).prints xs) else None) tt
    (there_if (values.set_once (x ∷ xs)) (joined (g.setting.prints.writes x) (many_writes (with_comma g.setting).spells (with_comma g.setting).prints xs)) h
    (there_both (g.setting.prints.writes x) (many_writes (with_comma g.setting).spells (with_comma g.setting).prints xs) (setting_there x) (more_settings xs)))

settings_once : (x y z : Option Bool) → values.set_once (back.setting_if MembershipOption.Admin x ++ back.setting_if MembershipOption.Inherit y ++ back.setting_if MembershipOption.Set z) ≡ true
settings_once None None None = refl
settings_once None None (Some z) = refl
settings_once None (Some y) None = refl
settings_once None (Some y) (Some z) = refl
settings_once (Some x) None None = refl
settings_once (Some x) None (Some z) = refl
settings_once (Some x) (Some y) None = refl
settings_once (Some x) (Some y) (Some z) = refl

membership_there : (b : MembershipOptions) → There (g.options.prints.writes b)
unfolding g.options
membership_there b = settings_there (back.setting_if MembershipOption.Admin b.admin ++ back.setting_if MembershipOption.Inherit b.inherit ++ back.setting_if MembershipOption.Set b.set) (settings_once b.admin b.inherit b.set)

granted_roles_full : Full g.granted_roles.spells g.granted_roles.prints.writes
unfolding g.granted_roles
granted_roles_full = mapped_full values.granting_of back.as_granting _ _ (λ r. refl)
    (both_full g.names.spells g.names.prints.writes _ _ names_full (word_full (codes "to") _ _ (both_full g.names.spells g.names.prints.writes g.options.spells g.options.prints.writes names_full (each_full _ _ membership_there))))

grant_full : Full g.grant.spells g.grant.prints.writes
unfolding g.grant
grant_full = word_full (codes "grant") _ _ (either_full g.granted_privileges.spells g.granted_roles.spells g.granted_privileges.prints.writes g.granted_roles.prints.writes granted_privileges_full granted_roles_full)

roles_from_full : Full g.roles_from.spells g.roles_from.prints.writes
unfolding g.roles_from
roles_from_full = both_full g.names.spells g.names.prints.writes _ _ names_full (word_full (codes "from") _ _ (both_full g.names.spells g.names.prints.writes g.cascade.spells g.cascade.prints.writes names_full (each_full _ _ cascade_there)))

revoked_roles_full : Full g.revoked_roles.spells g.revoked_roles.prints.writes
unfolding g.revoked_roles
revoked_roles_full = mapped_full values.revoking_of back.as_revoking g.roles_from.spells g.roles_from.prints.writes (λ r. refl) roles_from_full

option_for_there : (x : MembershipOption) → There (g.option_for.prints.writes x)
unfolding g.option_for
option_for_there x = there_both (g.option.prints.writes x) (Some (t.Word (codes "option") ∷ t.Word (codes "for") ∷ [])) (option_there x) tt

revoked_option_full : Full g.revoked_option.spells g.revoked_option.prints.writes
unfolding g.revoked_option
revoked_option_full = mapped_full values.option_revoking_of back.as_option_revoking _ _ (λ r. refl)
    (both_full g.option_for.spells g.option_for.prints.writes g.roles_from.spells g.roles_from.prints.writes (each_full _ _ option_for_there) roles_from_full)

revoked_memberships_full : Full g.revoked_memberships.spells g.revoked_memberships.prints.writes
unfolding g.revoked_memberships
revoked_memberships_full = either_full g.revoked_option.spells g.revoked_roles.spells g.revoked_option.prints.writes g.revoked_roles.prints.writes revoked_option_full revoked_roles_full

revoke_full : Full g.revoke.spells g.revoke.prints.writes
unfolding g.revoke
revoke_full = word_full (codes "revoke") _ _
    (either_full g.revoked_privileges.spells g.revoked_memberships.spells g.revoked_privileges.prints.writes g.revoked_memberships.prints.writes revoked_privileges_full revoked_memberships_full)

-- ---- SET ROLE, and all of these

chosen_full : Full g.chosen_role.spells g.chosen_role.prints.writes
unfolding g.chosen_role
chosen_full = either_full _ _ _ _ (mapped_full (λ z. SetRole.None) back.as_no_role _ _ (λ x. refl) (only_full (t.Word (codes "none")))) (mapped_full SetRole.To back.as_chosen g.name.spells g.name.prints.writes (λ x. refl) name_full)

role_set_full : Full g.role_set.spells g.role_set.prints.writes
unfolding g.role_set
role_set_full = word_full (codes "set") _ _ (word_full (codes "role") g.chosen_role.spells g.chosen_role.prints.writes chosen_full)

role_reset_full : Full g.role_reset.spells g.role_reset.prints.writes
unfolding g.role_reset
role_reset_full = mapped_full (λ z. SetRole.Reset) back.as_reset _ _ (λ x. refl) (word_full (codes "reset") _ _ (only_full (t.Word (codes "role"))))

set_role_full : Full g.set_role.spells g.set_role.prints.writes
unfolding g.set_role g.role_change
set_role_full = mapped_full Statement.SetRole back.as_set_role _ _ (λ x. refl) (either_full g.role_set.spells g.role_reset.spells g.role_set.prints.writes g.role_reset.prints.writes role_set_full role_reset_full)

-- What has no expression is written.
pub flat_full : Full g.flat_body.spells g.flat_body.prints.writes
unfolding g.flat_body
flat_full = either_full g.dropped_policy.spells _ g.dropped_policy.prints.writes _ dropped_full
    (either_full g.grant.spells _ g.grant.prints.writes _ grant_full (either_full g.revoke.spells g.set_role.spells g.revoke.prints.writes g.set_role.prints.writes revoke_full set_role_full))
