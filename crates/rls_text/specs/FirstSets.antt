-- By which tokens the phrases of the grammar begin, and which tokens would go on with a phrase, so that they may not
-- follow it; where names are apart from keywords, since a reserved word is no name.
use Rattle.std.specs.Prelude.{◌≡◌, true, List, [], ◌∷◌, ◌++◌, codes, refl}
use Rattle.rls_value.specs.Names.{reserved}
use Rattle.rls_text.specs.declared.token.Symbol.TheVariants as s
use Rattle.rls_text.specs.Heads.{Head, Names, Numbers, Texts, Keyword, Sign, apart}

-- TRUE, FALSE, NULL
abbrev pub constant_heads : List Head
constant_heads = Keyword (codes "true") ∷ Keyword (codes "false") ∷ Keyword (codes "null") ∷ []

-- a literal
abbrev pub literal_heads : List Head
literal_heads = constant_heads ++ Texts ∷ Sign s.Minus ∷ Numbers ∷ []

-- an item
abbrev pub item_heads : List Head
item_heads = literal_heads ++ Names ∷ Keyword (codes "current_user") ∷ []

-- what goes on behind an item: the dot behind a column's qualifier
abbrev pub item_more : List Head
item_more = Sign s.Dot ∷ []

-- behind items
abbrev pub items_more : List Head
items_more = Sign s.Comma ∷ item_more

-- an operand
abbrev pub prim_heads : List Head
prim_heads = item_heads ++ Keyword (codes "exists") ∷ Sign s.LParen ∷ []

-- a sign between the parts of a sum
abbrev pub sign_heads : List Head
sign_heads = Sign s.Plus ∷ Sign s.Minus ∷ []

-- what goes on behind a sum
abbrev pub sum_more : List Head
sum_more = sign_heads ++ item_more

-- IN, NOT IN
abbrev pub in_heads : List Head
in_heads = Keyword (codes "not") ∷ Keyword (codes "in") ∷ []

-- what goes on behind a sum that may be the left side of IN
abbrev pub memb_more : List Head
memb_more = in_heads ++ sum_more

-- a comparison
abbrev pub comparison_heads : List Head
comparison_heads = Sign s.Equal ∷ Sign s.NotEqual ∷ Sign s.Less ∷ Sign s.LessOrEqual ∷ Sign s.Greater ∷ Sign s.GreaterOrEqual ∷ []

-- what goes on behind a side of a comparison, or behind the comparison
abbrev pub cmp_more : List Head
cmp_more = comparison_heads ++ memb_more

-- what goes on behind an operand: a comparison, IN, a sign, or a test for nulls
abbrev pub is_more : List Head
is_more = Keyword (codes "is") ∷ cmp_more

-- an expression
abbrev pub expr_heads : List Head
expr_heads = Keyword (codes "not") ∷ prim_heads

-- what goes on behind an expression
abbrev pub expr_more : List Head
expr_more = Keyword (codes "or") ∷ Keyword (codes "and") ∷ is_more

-- another name of a table
abbrev pub alias_heads : List Head
alias_heads = Keyword (codes "as") ∷ Names ∷ []

-- behind a statement with a condition
abbrev pub condition_more : List Head
condition_more = Keyword (codes "where") ∷ expr_more

-- behind SELECT, as a statement or inside an expression
abbrev pub select_more : List Head
select_more = alias_heads ++ condition_more

-- behind rows that are inserted
abbrev pub inserted_more : List Head
inserted_more = Sign s.Comma ∷ Sign s.Dot ∷ Keyword (codes "returning") ∷ []

-- behind UPDATE and DELETE
abbrev pub changed_more : List Head
changed_more = inserted_more ++ condition_more

-- a role's attributes
abbrev pub attribute_heads : List Head
attribute_heads = Keyword (codes "superuser") ∷ Keyword (codes "nosuperuser") ∷ Keyword (codes "login") ∷ Keyword (codes "nologin") ∷ Keyword (codes "bypassrls") ∷ Keyword (codes "nobypassrls") ∷ []

-- what goes on behind a new role
abbrev pub role_more : List Head
role_more = Keyword (codes "with") ∷ attribute_heads

-- a mark of a column
abbrev pub mark_heads : List Head
mark_heads = Keyword (codes "not") ∷ Keyword (codes "primary") ∷ []

-- behind what changes of a policy
abbrev pub change_more : List Head
change_more = Sign s.Comma ∷ Keyword (codes "to") ∷ Keyword (codes "using") ∷ Keyword (codes "with") ∷ []

-- behind a new policy
abbrev pub policy_more : List Head
policy_more = Keyword (codes "as") ∷ Keyword (codes "for") ∷ change_more

-- behind what is created
abbrev pub create_more : List Head
create_more = attribute_heads ++ policy_more

-- behind what is altered
abbrev pub alter_more : List Head
alter_more = attribute_heads ++ change_more

-- a privilege that may be of columns
abbrev pub column_privilege_heads : List Head
column_privilege_heads = Keyword (codes "select") ∷ Keyword (codes "insert") ∷ Keyword (codes "update") ∷ []

-- a privilege
abbrev pub privilege_heads : List Head
privilege_heads = column_privilege_heads ++ Keyword (codes "delete") ∷ []

-- an option of a membership
abbrev pub option_heads : List Head
option_heads = Keyword (codes "admin") ∷ Keyword (codes "inherit") ∷ Keyword (codes "set") ∷ []

-- privileges
abbrev pub privileges_heads : List Head
privileges_heads = Keyword (codes "all") ∷ privilege_heads

-- behind privileges
abbrev pub privileges_more : List Head
privileges_more = Keyword (codes "privileges") ∷ Sign s.LParen ∷ Sign s.Comma ∷ []

-- behind what is granted
abbrev pub granted_more : List Head
granted_more = Sign s.Comma ∷ Keyword (codes "with") ∷ []

-- behind what is revoked
abbrev pub revoked_more : List Head
revoked_more = Sign s.Comma ∷ Keyword (codes "cascade") ∷ Keyword (codes "restrict") ∷ []

-- a statement without an expression
abbrev pub flat_heads : List Head
flat_heads = Keyword (codes "drop") ∷ Keyword (codes "grant") ∷ Keyword (codes "revoke") ∷ Keyword (codes "set") ∷ Keyword (codes "reset") ∷ []

-- behind one
abbrev pub flat_more : List Head
flat_more = Keyword (codes "with") ∷ revoked_more

-- a statement
abbrev pub body_heads : List Head
body_heads = Keyword (codes "select") ∷ Keyword (codes "insert") ∷ Keyword (codes "update") ∷ Keyword (codes "delete") ∷ Keyword (codes "create") ∷ Keyword (codes "alter") ∷ flat_heads

-- behind a statement
abbrev pub body_more : List Head
body_more = alias_heads ++ policy_more ++ attribute_heads ++ changed_more ++ revoked_more

pub literal_apart : apart literal_heads (Names ∷ Keyword (codes "current_user") ∷ []) ≡ true
unfolding reserved
literal_apart = refl

pub name_apart : apart (Names ∷ []) (Keyword (codes "current_user") ∷ []) ≡ true
unfolding reserved
name_apart = refl

pub exists_apart : apart item_heads (Keyword (codes "exists") ∷ Sign s.LParen ∷ []) ≡ true
unfolding reserved
exists_apart = refl

pub select_apart : apart (Keyword (codes "select") ∷ []) expr_heads ≡ true
unfolding reserved
select_apart = refl

pub not_apart : apart (Keyword (codes "not") ∷ []) prim_heads ≡ true
unfolding reserved
not_apart = refl

pub as_apart : apart (Keyword (codes "as") ∷ []) (Names ∷ []) ≡ true
unfolding reserved
as_apart = refl

pub alias_apart : apart alias_heads (Keyword (codes "where") ∷ []) ≡ true
unfolding reserved
alias_apart = refl

pub public_apart : apart (Keyword (codes "public") ∷ []) (Names ∷ []) ≡ true
unfolding reserved
public_apart = refl

pub primary_apart : apart (Names ∷ []) (Keyword (codes "primary") ∷ []) ≡ true
unfolding reserved
primary_apart = refl

pub table_apart : apart (Keyword (codes "table") ∷ []) (Names ∷ []) ≡ true
unfolding reserved
table_apart = refl

pub none_apart : apart (Keyword (codes "none") ∷ []) (Names ∷ []) ≡ true
unfolding reserved
none_apart = refl

pub on_apart : apart (Names ∷ []) (Keyword (codes "on") ∷ []) ≡ true
unfolding reserved
on_apart = refl

pub to_apart : apart (Names ∷ []) (Keyword (codes "to") ∷ Keyword (codes "from") ∷ []) ≡ true
unfolding reserved
to_apart = refl
