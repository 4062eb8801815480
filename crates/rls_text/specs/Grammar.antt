-- The grammar: which lists of tokens spell which statements, and how a statement is written (PostgreSQL manual, part VI,
-- of which this is a part). Behind a rule's type stand the tokens by which its phrases begin, those that may not follow
-- them, and whether one may be empty. What the parts stand for together is in `Values`, how it is taken apart to be
-- written in `WaysBack`.
use Rattle.std.{specs.Prelude.◌≡◌, specs.Prelude.ℕ, specs.Prelude.zero, specs.Prelude.suc, specs.Prelude.◌≤◌, specs.Prelude.length, specs.Prelude.Bool, specs.Prelude.true, specs.Prelude.false, specs.Prelude.List, specs.Prelude.[], specs.Prelude.◌∷◌, specs.Prelude.◌++◌, specs.Prelude.Option, specs.Prelude.Some, specs.Prelude.None, specs.Prelude.codes, specs.Prelude.refl, proofs.Common.arith, proofs.Common.ap, proofs.Common.inl, proofs.Common.inr}
use Rattle.rls_value.specs.{declared.value.Value.Value, declared.value.ColType.ColType, declared.verb.Kind.Kind, declared.verb.PolicyKind.PolicyKind, declared.verb.Privilege.Privilege}
use Rattle.rls_expr.specs.{Terms.Term, Terms.terms_of, declared.column_name.ColumnName.ColumnName, declared.expr.Comparison.Comparison, declared.expr.Sign.Sign as PartSign, declared.policy.Grantee.Grantee}
use Rattle.rls_expr.specs.Terms as e
use Rattle.rls_statement.specs.{declared.statement.Attributes.Attributes, declared.statement.MarkedColumn.MarkedColumn, declared.statement.MembershipOption.MembershipOption, declared.statement.MembershipOptions.MembershipOptions, declared.privileges.Privileges.Privileges, declared.statement.RowSecurity.RowSecurity, declared.statement.Selected.Selected, declared.statement.SetRole.SetRole, declared.statement.Statement.Statement}
use Rattle.rls_text.specs.{declared.token.Symbol.Symbol, declared.token.Token.Token, declared.token.Token.TheVariants.Word, declared.attributes.RoleAttribute.RoleAttribute, declared.columns.ColumnMark.ColumnMark, declared.tables.TableElement.TableElement, declared.tables.TableElements.TableElements, Elements.elements_of, Parses.unseen_parts, declared.tree.Choices.TheVariants.Listed, declared.tree.Choices.TheVariants.Queried, Heights.height, Heights.heights, Cut.Cut, Cut.of_some, Heads.Names, Heads.Numbers, Heads.Texts, Heads.Keyword, Heads.Sign, Heads.begins, Heads.sees, Lang.only, Lang.Both, Lang.Mapped, Lang.Perhaps, Lang.Many, Lang.put_in, Writes.through, Writes.without_second, Writes.without_first, FirstSets.constant_heads, FirstSets.literal_heads, FirstSets.item_heads, FirstSets.item_more, FirstSets.items_more, FirstSets.prim_heads, FirstSets.sign_heads, FirstSets.sum_more, FirstSets.in_heads, FirstSets.memb_more, FirstSets.comparison_heads, FirstSets.cmp_more, FirstSets.is_more, FirstSets.expr_heads, FirstSets.expr_more, FirstSets.alias_heads, FirstSets.condition_more, FirstSets.select_more, FirstSets.inserted_more, FirstSets.changed_more, FirstSets.attribute_heads, FirstSets.role_more, FirstSets.mark_heads, FirstSets.change_more, FirstSets.policy_more, FirstSets.create_more, FirstSets.alter_more, FirstSets.column_privilege_heads, FirstSets.privilege_heads, FirstSets.privileges_heads, FirstSets.privileges_more, FirstSets.option_heads, FirstSets.granted_more, FirstSets.revoked_more, FirstSets.flat_heads, FirstSets.flat_more, FirstSets.body_heads, FirstSets.body_more, FirstSets.literal_apart, FirstSets.name_apart, FirstSets.exists_apart, FirstSets.select_apart, FirstSets.not_apart, FirstSets.as_apart, FirstSets.alias_apart, FirstSets.public_apart, FirstSets.primary_apart, FirstSets.table_apart, FirstSets.none_apart, FirstSets.on_apart, FirstSets.to_apart, Ahead.on_comes_first, Ahead.second_is, Ahead.Skips, Ahead.both_skips, Ahead.mapped_skips, Ahead.checked_skips, Ahead.either_skips, Ahead.perhaps_skips, Ahead.many_skips, Ahead.token_skips, Ahead.one_skips, Ahead.decided_at, Ahead.decided_before, Ahead.decided_behind, Ahead.Begins, Ahead.only_begins, Ahead.one_begins, Ahead.mapped_begins, Ahead.checked_begins, Ahead.either_begins, Ahead.both_begins, Ahead.perhaps_begins, Ahead.no_second, Ahead.Alone, Ahead.only_alone, Ahead.mapped_alone, Ahead.either_alone, Rule.Rule, Rule.word, Rule.sign, Rule.one, Rule.both, Rule.mapped, Rule.after_as, Rule.after, Rule.before, Rule.in_parentheses, Rule.either, Rule.either_by, Rule.perhaps, Rule.many, Rule.checked, Rule.widened, Rule.with_comma, Rule.as_list, Rule.list_law, Rule.listed, Rule.spelled_as, Rule.standing_for, Rule.word_for, Rule.sign_for, Cutting.tree_of, Cutting.selected_kept, Cutting.select_kept, Cutting.choices_kept, Cutting.in_kept, Cutting.exists_kept, Cutting.scalar_kept, Cutting.tuple_kept, Cutting.tuples_kept, Cutting.rows_kept, Cutting.set_column_kept, Cutting.set_columns_kept, Cutting.ending_kept, Cutting.tree_with_depth_of, Cutting.signed_kept, Cutting.sum_kept, Cutting.among_kept, Cutting.compared_kept, Cutting.tested_kept, Cutting.negated_kept, Cutting.and_kept, Cutting.or_kept, Cutting.tuple_is_kept, Cutting.tuples_are_kept, Cutting.set_columns_are_kept, Cutting.even_kept, Cutting.long_kept, Cutting.distinct_kept, Cutting.conditions_kept, Cutting.description_kept, Cutting.change_kept, Cutting.is_policy_kept, Cutting.is_change_kept}
use Rattle.rls_text.specs.Elements as elements
use Rattle.rls_text.specs.Trees as t
use Rattle.rls_text.specs.Cut as cut
use Rattle.rls_text.specs.Values as g
use Rattle.rls_text.specs.WaysBack as back
use Rattle.rls_text.specs.TablesBack as tables

-- ---- names and literals

-- a word that isn't reserved, of 63 bytes at most
unfoldable pub name : Rule (List ℕ) (Names ∷ []) [] false
name = one g.name_of back.name_begins back.as_name back.name_law

-- name {"," name}
unfoldable pub names : Rule (List (List ℕ)) (Names ∷ []) (Sign Symbol.Comma ∷ []) false
names = listed name

-- name {"," name}, no name twice
unfoldable pub distinct_names : Rule (List (List ℕ)) (Names ∷ []) (Sign Symbol.Comma ∷ []) false
distinct_names = checked g.are_distinct names

-- TRUE | FALSE | NULL
unfoldable pub constant : Rule Value constant_heads [] false
constant = either (word_for back.constants (Value.Bool true) (codes "true")) (either (word_for back.constants (Value.Bool false) (codes "false")) (word_for back.constants Value.Null (codes "null")) refl) refl

-- digits
unfoldable pub digits : Rule ℕ (Numbers ∷ []) [] false
digits = one g.number_of back.number_begins back.as_digits back.number_law

-- a text in quotes
unfoldable pub text : Rule Value (Texts ∷ []) [] false
text = mapped Value.Text back.as_text back.as_text_law (one g.text_of back.text_begins back.as_quoted back.text_law)

-- ["-"] digits
unfoldable pub number : Rule Value (Sign Symbol.Minus ∷ Numbers ∷ []) [] false
number = mapped g.signed back.as_signed back.signed_law (checked g.in_range (both (perhaps (sign Symbol.Minus)) digits refl))

-- constant | text | number
unfoldable pub literal : Rule Value literal_heads [] false
literal = either constant (either text number refl) refl

-- ---- items

-- ["." name]
unfoldable pub behind_dot : Rule (Option (List ℕ)) (Sign Symbol.Dot ∷ []) item_more true
behind_dot = perhaps (after (sign Symbol.Dot) name refl)

-- name ["." name], of which the first is the qualifier where there are two
unfoldable pub column : Rule ColumnName (Names ∷ []) item_more false
column = mapped g.column_name_of back.as_column_name back.column_name_law (both name behind_dot refl)

-- literal | column | CURRENT_USER
unfoldable pub item : Rule Term item_heads item_more false
item = either (mapped e.Literal back.as_literal back.literal_law literal) (either (mapped e.Column back.as_column back.column_law column) (mapped (λ _. e.CurrentUser) back.as_user back.user_law (word (codes "current_user"))) name_apart) literal_apart

-- an item has the height of a leaf,
item_height : (ts : List Token) (x : Term) → item.spells ts x → height x ≡ 1
unfolding item
item_height ts x h = elim h [ inl y ↦ rw (y.value) refl | inr y ↦ elim y [ inl z ↦ rw (z.value) refl | inr z ↦ rw (z.value) refl ] ]

-- and is kept as it is
pub item_kept : (ts : List Token) (x : Term) → item.spells ts x → tree_of x ≡ t.leaf x
item_kept ts x h = rw (item_height ts x h) refl

-- ---- what a SELECT selects, and its table

-- item {"," item}
unfoldable pub item_list : Rule (List Term) item_heads items_more false
item_list = widened (mapped (λ r. r.0 ∷ r.1) as_list list_law (both item (many (with_comma item) refl) refl)) refl refl

-- items, as what is selected, where no parenthesis follows
unfoldable pub selected_items : Rule Selected item_heads (Sign Symbol.LParen ∷ items_more) false
selected_items = widened (mapped Selected.Items back.as_items back.items_law item_list) refl refl

-- COUNT "(" "*" ")"
unfoldable pub count : Rule Selected (Keyword (codes "count") ∷ []) [] false
count = mapped (λ _. Selected.Count) back.as_count back.count_law (after (word (codes "count")) (in_parentheses (sign Symbol.Star) refl) refl)

-- where rows are counted the second token is a parenthesis
pub paren_second : (front rest : List Token) (a : Selected) → count.spells front a → sees [] rest ≡ false → second_is (Sign Symbol.LParen ∷ []) (front ++ rest) ≡ true
unfolding count
paren_second front rest a h stop =
    let x = h.spelled.spelled in
    let y = x.other.spelled in
    rw (x.split, x.one, y.split, y.one) refl

-- no parenthesis stands behind the first token of a literal,
literal_begins : Begins (Sign Symbol.LParen ∷ []) literal.spells
unfolding literal constant text number digits
literal_begins = either_begins _ _ _ (either_begins _ _ _ (mapped_begins _ _ (only_begins _ _) _) (either_begins _ _ _ (mapped_begins _ _ (only_begins _ _) _) (mapped_begins _ _ (only_begins _ _) _)))
    (either_begins _ _ _ (mapped_begins _ _ (one_begins _ _) _) (mapped_begins _ _ (checked_begins _ _ (perhaps_begins _ _ _ _ _ _ (only_begins _ _) digits.parses refl (one_begins _ _)) _) _))

-- of an item
item_begins : Begins (Sign Symbol.LParen ∷ []) item.spells
unfolding item column name
item_begins = either_begins _ _ _ (mapped_begins _ _ literal_begins _) (either_begins _ _ _ (mapped_begins _ _ (mapped_begins _ _ (both_begins _ _ _ _ _ _ (one_begins _ _) behind_dot.parses refl) _) _) (mapped_begins _ _ (only_begins _ _) _))

-- or of items
items_begin : Begins (Sign Symbol.LParen ∷ []) selected_items.spells
unfolding selected_items item_list
items_begin = mapped_begins _ _ (mapped_begins _ _ (both_begins _ _ _ _ _ _ item_begins (many (with_comma item) refl).parses refl) _) _

-- so where items are selected the second token is none
pub no_paren_second : (front rest : List Token) (a : Selected) → selected_items.spells front a → sees (Sign Symbol.LParen ∷ items_more) rest ≡ false → second_is (Sign Symbol.LParen ∷ []) (front ++ rest) ≡ false
no_paren_second front rest a h stop = no_second _ _ items_begin front rest a h (unseen_parts (Sign Symbol.LParen ∷ []) items_more rest stop).0

-- "*" | count | items: where the second token is a parenthesis, rows are counted
unfoldable pub items : Rule Selected (Sign Symbol.Star ∷ Keyword (codes "count") ∷ item_heads) (Sign Symbol.LParen ∷ items_more) false
items = either (mapped (λ _. Selected.All) back.as_all back.all_law (sign Symbol.Star)) (either_by (second_is (Sign Symbol.LParen ∷ [])) count selected_items paren_second no_paren_second) refl

-- items have it too
more_height : (ts : List Token) (xs : List Term) → Many (with_comma item).spells ts xs → heights (terms_of xs) ≤ 1
unfolding with_comma
more_height ts [] h = omega arith
more_height ts (x ∷ xs) h =
    let one : height x ≡ 1 = rw (h.3.value) (item_height h.3.spelled.rest h.3.source.1 h.3.spelled.other) in
    let more = more_height h.1 xs h.4 in omega (arith, one, more)

list_height : (ts : List Token) (xs : List Term) → item_list.spells ts xs → heights (terms_of xs) ≡ 1
unfolding item_list
list_height ts xs h =
    let one = item_height h.spelled.front h.source.0 h.spelled.one in
    let more = more_height h.spelled.rest h.source.1 h.spelled.other in
    rw (h.value) (omega (arith, one, more))

-- and are kept with it
pub items_kept : (ts : List Token) (x : Selected) → items.spells ts x → selected_kept x ≡ t.with_depth x
unfolding items count selected_items
items_kept ts x h = elim h [ inl y ↦ rw (y.value) refl | inr y ↦ elim y [ inl z ↦ rw (z.value) refl | inr z ↦ rw (z.value) (ap (λ n. (Selected.Items z.source, n)) (list_height ts z.source z.spelled)) ] ]

-- [AS] name; AS is written
unfoldable pub alias : Rule (List ℕ) alias_heads [] false
alias = after_as (Some tt) (perhaps (word (codes "as"))) name as_apart

-- [[AS] name]
unfoldable pub alias_if_any : Rule (Option (List ℕ)) alias_heads alias_heads true
alias_if_any = perhaps alias

-- FROM name [[AS] name]
unfoldable pub from_table : Rule g.TableAndAlias (Keyword (codes "from") ∷ []) alias_heads false
from_table = after (word (codes "from")) (both name alias_if_any refl) refl

-- ---- expressions

-- "=" | "<>" | "<" | "<=" | ">" | ">="
unfoldable pub comparison : Rule Comparison comparison_heads [] false
comparison = either (sign_for back.comparisons Comparison.Equal Symbol.Equal) (either (sign_for back.comparisons Comparison.NotEqual Symbol.NotEqual) (either (sign_for back.comparisons Comparison.Less Symbol.Less)
    (either (sign_for back.comparisons Comparison.LessOrEqual Symbol.LessOrEqual) (either (sign_for back.comparisons Comparison.Greater Symbol.Greater) (sign_for back.comparisons Comparison.GreaterOrEqual Symbol.GreaterOrEqual) refl) refl) refl) refl) refl

-- "+" | "-", between the parts of a sum
unfoldable pub part_sign : Rule PartSign sign_heads [] false
part_sign = either (sign_for back.signs PartSign.Plus Symbol.Plus) (sign_for back.signs PartSign.Minus Symbol.Minus) refl

-- [NOT] IN
unfoldable pub in_word : Rule (Option (Unit {0})) in_heads [] false
in_word = before (perhaps (word (codes "not"))) (word (codes "in")) refl

-- IS [NOT] NULL
unfoldable pub null_test : Rule (Option (Unit {0})) (Keyword (codes "is") ∷ []) [] false
null_test = after (word (codes "is")) (before (perhaps (word (codes "not"))) (word (codes "null")) refl) refl

-- {NOT}
unfoldable pub nots : Rule ℕ (Keyword (codes "not") ∷ []) (Keyword (codes "not") ∷ []) true
nots = mapped length back.as_repeated back.repeated_law (many (word (codes "not")) refl)

-- An operand is written as a prim, in parentheses where it isn't one; so a prim is a phrase of each level.
module _ (inner : Cut tree_of expr_heads expr_more false) where
  -- "(" expr ")"
  unfoldable pub parenthesized : Cut tree_of (Sign Symbol.LParen ∷ []) [] false
  parenthesized = cut.in_parentheses inner refl

  -- [WHERE expr]
  unfoldable pub condition : Cut (of_some tree_of) (Keyword (codes "where") ∷ []) condition_more true
  condition = cut.widened (cut.perhaps (cut.after (word (codes "where")) inner refl)) refl refl

  -- SELECT items FROM name [[AS] name] [WHERE expr]
  unfoldable pub select_parts : Cut select_kept (Keyword (codes "select") ∷ []) select_more false
  select_parts = cut.widened (cut.after (word (codes "select")) (cut.both (cut.kept_as selected_kept t.with_depth items items_kept) (cut.both (cut.plain from_table) condition alias_apart) refl) refl) refl refl

  -- EXISTS "(" select ")"
  unfoldable pub exists : Cut tree_of (Keyword (codes "exists") ∷ []) [] false
  exists = cut.mapped tree_of (λ r. e.Exists (g.query_of r)) t.exists_of exists_kept back.as_exists back.exists_law (cut.after (word (codes "exists")) (cut.in_parentheses select_parts refl) refl)

  -- a select that stands for a value
  unfoldable pub scalar : Cut tree_of (Keyword (codes "select") ∷ []) select_more false
  scalar = cut.mapped tree_of (λ r. e.Scalar (g.query_of r)) t.scalar_of scalar_kept back.as_scalar back.scalar_law select_parts

  -- select | expr
  unfoldable pub enclosed : Cut tree_of (Keyword (codes "select") ∷ expr_heads) select_more false
  enclosed = cut.widened (cut.either scalar inner select_apart) refl refl

  -- item | EXISTS "(" select ")" | "(" (select | expr) ")"
  unfoldable pub prim : Cut tree_of prim_heads item_more false
  prim = cut.either (cut.kept_as tree_of t.leaf item item_kept) (cut.either exists (cut.in_parentheses enclosed refl) refl) exists_apart

  -- ("+" | "-") prim
  unfoldable pub sum_next : Cut signed_kept sign_heads item_more false
  sum_next = cut.both (cut.plain part_sign) prim refl

  -- prim {("+" | "-") prim}, one node with all its parts
  unfoldable pub sum : Cut tree_of prim_heads sum_more false
  sum = cut.widened (cut.chain (λ r. g.sum_of r.0 r.1) (λ r. t.sum_of (t.summed r.0 r.1)) sum_kept back.as_sum back.sum_law prim prim.rule.prints (cut.many sum_next refl) [] refl (λ x. refl) refl) refl refl

  pub prim_sum : (ts : List Token) (x : Term) → prim.rule.spells ts x → sum.rule.spells ts x
  unfolding sum
  prim_sum = without_second (λ r. g.sum_of r.0 r.1) prim.rule.spells (Many sum_next.rule.spells) (λ x. x) [] refl (λ x. refl)

  -- expr {"," expr}
  unfoldable pub parts : Cut tuple_kept expr_heads (Sign Symbol.Comma ∷ expr_more) false
  parts = cut.widened (cut.mapped tuple_kept (λ r. r.0 ∷ r.1) (λ r. t.tuple_of r.0 r.1) tuple_is_kept as_list list_law (cut.both inner (cut.many (cut.with_comma inner) refl) refl)) refl refl

  -- "(" expr {"," expr} ")"
  unfoldable pub tuple : Cut tuple_kept (Sign Symbol.LParen ∷ []) [] false
  tuple = cut.in_parentheses parts refl

  -- select | expr {"," expr}
  unfoldable pub choices : Cut choices_kept (Keyword (codes "select") ∷ expr_heads) (Sign Symbol.Comma ∷ select_more) false
  choices = cut.widened (cut.either (cut.mapped choices_kept (λ r. inr r) Queried (λ r. refl) back.as_queried back.queried_law select_parts) (cut.mapped choices_kept (λ xs. inl xs) Listed (λ xs. refl) back.as_listed back.listed_law parts) select_apart) refl refl

  -- "(" (select | expr {"," expr}) ")"
  unfoldable pub enclosed_choices : Cut choices_kept (Sign Symbol.LParen ∷ []) [] false
  enclosed_choices = cut.in_parentheses choices refl

  -- [NOT] IN "(" (select | expr {"," expr}) ")"
  unfoldable pub in_choices : Cut in_kept in_heads [] false
  in_choices = cut.both (cut.plain in_word) enclosed_choices refl

  -- sum [[NOT] IN "(" (select | expr {"," expr}) ")"]
  unfoldable pub memb : Cut tree_of prim_heads memb_more false
  memb = cut.chain (λ r. g.among r.0 r.1) (λ r. t.among r.0 r.1) among_kept back.as_among back.among_law sum (through prim.rule.prints prim_sum) (cut.perhaps in_choices) None refl (λ x. refl) refl

  pub prim_memb : (ts : List Token) (x : Term) → prim.rule.spells ts x → memb.rule.spells ts x
  unfolding memb
  prim_memb ts x h = without_second (λ r. g.among r.0 r.1) sum.rule.spells (Perhaps in_choices.rule.spells) (λ x. x) None refl (λ x. refl) ts x (prim_sum ts x h)

  -- a side of a comparison, written as an operand
  abbrev pub side : Cut tree_of prim_heads memb_more false
  side = cut.writing memb (through prim.rule.prints prim_memb)

  -- memb [comparison memb]
  unfoldable pub cmp : Cut tree_of prim_heads cmp_more false
  cmp = cut.widened (cut.chain (λ r. g.compared r.0 r.1) (λ r. t.compared r.0 r.1) compared_kept back.as_compared back.compared_law memb (through prim.rule.prints prim_memb) (cut.perhaps (cut.both (cut.plain comparison) side refl)) None refl (λ x. refl) refl) refl refl

  pub prim_cmp : (ts : List Token) (x : Term) → prim.rule.spells ts x → cmp.rule.spells ts x
  unfolding cmp
  prim_cmp ts x h = without_second (λ r. g.compared r.0 r.1) memb.rule.spells (Perhaps (Both comparison.spells memb.rule.spells)) (λ x. x) None refl (λ x. refl) ts x (prim_memb ts x h)

  -- cmp {IS [NOT] NULL}, the tests one upon another
  unfoldable pub is : Cut tree_of prim_heads is_more false
  is = cut.chain (λ r. put_in g.null_test r.0 r.1) (λ r. put_in t.null_test_of r.0 r.1) tested_kept back.as_tested back.tested_law cmp (through prim.rule.prints prim_cmp) (cut.plain (many null_test refl)) [] refl (λ x. refl) refl

  pub prim_is : (ts : List Token) (x : Term) → prim.rule.spells ts x → is.rule.spells ts x
  unfolding is
  prim_is ts x h = without_second (λ r. put_in g.null_test r.0 r.1) cmp.rule.spells (Many null_test.spells) (λ x. x) [] refl (λ x. refl) ts x (prim_cmp ts x h)

  abbrev pub not_node : Cut tree_of expr_heads is_more false
  not_node = cut.mapped tree_of (λ r. g.negated r.0 r.1) (λ r. t.negated r.0 r.1) negated_kept back.as_negated back.negated_law (cut.both (cut.plain nots) (cut.writing is (through prim.rule.prints prim_is)) not_apart)

  pub is_not : (ts : List Token) (x : Term) → is.rule.spells ts x → not_node.rule.spells ts x
  unfolding nots
  is_not = without_first (λ r. g.negated r.0 r.1) nots.spells is.rule.spells (λ x. x) 0 (record { source = []; spelled = refl; value = refl }) (λ x. refl)

  -- {NOT} is
  unfoldable pub not_ : Cut tree_of expr_heads is_more false
  not_ = cut.level not_node is.rule.prints is_not

  pub prim_not : (ts : List Token) (x : Term) → prim.rule.spells ts x → not_.rule.spells ts x
  unfolding not_
  prim_not ts x h = is_not ts x (prim_is ts x h)

  -- AND not
  unfoldable pub and_next : Cut tree_of (Keyword (codes "and") ∷ []) is_more false
  and_next = cut.after (word (codes "and")) (cut.writing not_ (through prim.rule.prints prim_not)) refl

  -- not {AND not}, one node with all its operands
  unfoldable pub and : Cut tree_of expr_heads (Keyword (codes "and") ∷ is_more) false
  and = cut.widened (cut.chain (λ r. g.and_of r.0 r.1) (λ r. t.and_of (t.operands r.0 r.1)) and_kept back.as_and back.and_law not_ (through prim.rule.prints prim_not) (cut.many and_next refl) [] refl (λ x. refl) refl) refl refl

  pub prim_and : (ts : List Token) (x : Term) → prim.rule.spells ts x → and.rule.spells ts x
  unfolding and
  prim_and ts x h = without_second (λ r. g.and_of r.0 r.1) not_.rule.spells (Many and_next.rule.spells) (λ x. x) [] refl (λ x. refl) ts x (prim_not ts x h)

  -- OR and
  unfoldable pub or_next : Cut tree_of (Keyword (codes "or") ∷ []) (Keyword (codes "and") ∷ is_more) false
  or_next = cut.after (word (codes "or")) (cut.writing and (through prim.rule.prints prim_and)) refl

  -- and {OR and}, one node with all its operands
  unfoldable pub or : Cut tree_of expr_heads expr_more false
  or = cut.widened (cut.chain (λ r. g.or_of r.0 r.1) (λ r. t.or_of (t.operands r.0 r.1)) or_kept back.as_or back.or_law and (through prim.rule.prints prim_and) (cut.many or_next refl) [] refl (λ x. refl) refl) refl refl

-- or, with parentheses to this depth
unfoldable pub expr : (depth : ℕ) → Cut tree_of expr_heads expr_more false
expr zero = cut.never
expr (suc depth) = or (expr depth)

-- ---- SELECT, INSERT, UPDATE and DELETE

-- "*" | items
unfoldable pub returned : Rule Selected (Sign Symbol.Star ∷ item_heads) items_more false
returned = either (mapped (λ _. Selected.All) back.as_all back.all_law (sign Symbol.Star)) (mapped Selected.Items back.as_items back.items_law item_list) refl

-- [RETURNING ("*" | items)]
unfoldable pub returning : Rule (Option Selected) (Keyword (codes "returning") ∷ []) inserted_more true
returning = perhaps (after (word (codes "returning")) returned refl)

-- ["(" names ")"], no name twice
unfoldable pub columns_if_any : Rule (Option (List (List ℕ))) (Sign Symbol.LParen ∷ []) (Sign Symbol.LParen ∷ []) true
columns_if_any = perhaps (in_parentheses distinct_names refl)

module _ (inner : Cut tree_of expr_heads expr_more false) where
  -- SELECT items FROM name [[AS] name] [WHERE expr]
  unfoldable pub select : Cut tree_with_depth_of (Keyword (codes "select") ∷ []) select_more false
  select = cut.mapped tree_with_depth_of g.select_of t.select_of (λ r. refl) back.as_select back.select_law (select_parts inner)

  -- tuple {"," tuple}
  unfoldable pub tuples : Cut tuples_kept (Sign Symbol.LParen ∷ []) (Sign Symbol.Comma ∷ []) false
  tuples = cut.mapped tuples_kept (λ r. r.0 ∷ r.1) (λ r. t.tuples_of r.0 r.1) tuples_are_kept as_list list_law (cut.both (tuple inner) (cut.many (cut.with_comma (tuple inner)) refl) refl)

  -- tuple {"," tuple}, all of one length
  unfoldable pub even_tuples : Cut tuples_kept (Sign Symbol.LParen ∷ []) (Sign Symbol.Comma ∷ []) false
  even_tuples = cut.checked g.are_even (λ kept. g.are_even kept.0) even_kept tuples

  -- ["(" names ")"] VALUES tuples
  unfoldable pub rows : Cut rows_kept (Sign Symbol.LParen ∷ Keyword (codes "values") ∷ []) (Sign Symbol.Comma ∷ []) false
  rows = cut.both (cut.plain columns_if_any) (cut.after (word (codes "values")) even_tuples refl) refl

  -- ["(" names ")"] VALUES tuples, as long as the list of names, where one is written
  unfoldable pub proper_rows : Cut rows_kept (Sign Symbol.LParen ∷ Keyword (codes "values") ∷ []) (Sign Symbol.Comma ∷ []) false
  proper_rows = cut.checked (λ r. g.are_as_long r.0 r.1) (λ kept. g.are_as_long kept.0 kept.1.0) long_kept rows

  -- INSERT INTO name ["(" names ")"] VALUES tuples [RETURNING ..]
  unfoldable pub insert : Cut tree_with_depth_of (Keyword (codes "insert") ∷ []) inserted_more false
  insert = cut.widened (cut.mapped tree_with_depth_of g.insert_of t.insert_of (λ r. refl) back.as_insert back.insert_law
      (cut.after (word (codes "insert")) (cut.after (word (codes "into")) (cut.both (cut.plain name) (cut.both proper_rows (cut.plain returning) refl) refl) refl) refl)) refl refl

  -- name "=" expr
  unfoldable pub set_column : Cut set_column_kept (Names ∷ []) expr_more false
  set_column = cut.widened (cut.mapped set_column_kept g.set_column_of t.set_column_of (λ r. refl) back.as_set_column back.set_column_law (cut.both (cut.plain name) (cut.after (sign Symbol.Equal) inner refl) refl)) refl refl

  -- name "=" expr {"," name "=" expr}
  unfoldable pub all_set_columns : Cut set_columns_kept (Names ∷ []) (Sign Symbol.Comma ∷ expr_more) false
  all_set_columns = cut.widened (cut.mapped set_columns_kept (λ r. r.0 ∷ r.1) (λ r. t.set_columns_of r.0 r.1) set_columns_are_kept as_list list_law (cut.both set_column (cut.many (cut.with_comma set_column) refl) refl)) refl refl

  -- name "=" expr {"," name "=" expr}, no column twice
  unfoldable pub set_columns : Cut set_columns_kept (Names ∷ []) (Sign Symbol.Comma ∷ expr_more) false
  set_columns = cut.checked (λ xs. g.are_distinct (g.set_names xs)) (λ kept. g.are_distinct (g.set_names kept.0)) distinct_kept all_set_columns

  -- [WHERE expr] [RETURNING ..]
  unfoldable pub ending : Cut ending_kept (Keyword (codes "where") ∷ Keyword (codes "returning") ∷ []) changed_more true
  ending = cut.widened (cut.both (condition inner) (cut.plain returning) refl) refl refl

  -- UPDATE name SET set_columns [WHERE expr] [RETURNING ..]
  unfoldable pub update : Cut tree_with_depth_of (Keyword (codes "update") ∷ []) changed_more false
  update = cut.widened (cut.mapped tree_with_depth_of g.update_of t.update_of (λ r. refl) back.as_update back.update_law
      (cut.after (word (codes "update")) (cut.both (cut.plain name) (cut.after (word (codes "set")) (cut.both set_columns ending refl) refl) refl) refl)) refl refl

  -- DELETE FROM name [WHERE expr] [RETURNING ..]
  unfoldable pub delete : Cut tree_with_depth_of (Keyword (codes "delete") ∷ []) changed_more false
  delete = cut.widened (cut.mapped tree_with_depth_of g.delete_of t.delete_of (λ r. refl) back.as_delete back.delete_law
      (cut.after (word (codes "delete")) (cut.after (word (codes "from")) (cut.both (cut.plain name) ending refl) refl) refl)) refl refl

-- ---- roles

-- [NO]SUPERUSER | [NO]LOGIN | [NO]BYPASSRLS
unfoldable pub attribute : Rule RoleAttribute attribute_heads [] false
attribute = either (word_for back.role_attributes (RoleAttribute.Superuser true) (codes "superuser")) (either (word_for back.role_attributes (RoleAttribute.Superuser false) (codes "nosuperuser"))
    (either (word_for back.role_attributes (RoleAttribute.Login true) (codes "login")) (either (word_for back.role_attributes (RoleAttribute.Login false) (codes "nologin"))
    (either (word_for back.role_attributes (RoleAttribute.BypassRls true) (codes "bypassrls")) (word_for back.role_attributes (RoleAttribute.BypassRls false) (codes "nobypassrls")) refl) refl) refl) refl) refl

-- attribute {attribute}
unfoldable pub first_and_more : Rule (List RoleAttribute) attribute_heads attribute_heads false
first_and_more = widened (mapped (λ r. r.0 ∷ r.1) as_list list_law (both attribute (many attribute refl) refl)) refl refl

-- attribute {attribute}, no two of one kind
unfoldable pub attributes : Rule (List RoleAttribute) attribute_heads attribute_heads false
attributes = checked g.each_once first_and_more

-- [[WITH] attributes]; WITH isn't written
unfoldable pub attributes_if_any : Rule (Option (List RoleAttribute)) role_more role_more true
attributes_if_any = widened (perhaps (after_as None (perhaps (word (codes "with"))) attributes refl)) refl refl

-- the attributes of CREATE ROLE, or of CREATE USER, who may log in unless it is written otherwise
unfoldable pub attributes_of_role : (is_user : Bool) → Rule Attributes role_more role_more true
attributes_of_role is_user = mapped (g.attributes_from is_user) (back.as_attributes is_user) (back.attributes_law is_user) attributes_if_any

-- name [[WITH] attributes]
unfoldable pub role : (is_user : Bool) → Rule Statement (Names ∷ []) role_more false
role is_user = mapped g.role_of back.as_role back.role_law (both name (attributes_of_role is_user) refl)

-- [WITH] attributes; WITH isn't written
unfoldable pub written_attributes : Rule Attributes role_more attribute_heads false
written_attributes = mapped (λ all. g.attributes_from false (Some all)) back.in_order back.some_attributes_law (after_as None (perhaps (word (codes "with"))) attributes refl)

-- name [WITH] attributes
unfoldable pub altered_role : Rule Statement (Names ∷ []) attribute_heads false
altered_role = mapped g.altering_of back.as_altering back.altering_law (both name written_attributes refl)

-- ---- tables

-- INTEGER | INT | BIGINT | TEXT | BOOLEAN | BOOL, of which INTEGER and BOOLEAN are written
unfoldable pub column_type : Rule ColType (Keyword (codes "integer") ∷ Keyword (codes "int") ∷ Keyword (codes "bigint") ∷ Keyword (codes "text") ∷ Keyword (codes "boolean") ∷ Keyword (codes "bool") ∷ []) [] false
column_type = either (word_for tables.column_types ColType.Integer (codes "integer")) (either (word_for tables.column_types ColType.Integer (codes "int")) (either (word_for tables.column_types ColType.BigInt (codes "bigint"))
    (either (word_for tables.column_types ColType.Text (codes "text")) (either (word_for tables.column_types ColType.Boolean (codes "boolean")) (word_for tables.column_types ColType.Boolean (codes "bool")) refl) refl) refl) refl) refl

-- NOT NULL | PRIMARY KEY
unfoldable pub column_mark : Rule ColumnMark mark_heads [] false
column_mark = either (standing_for tables.column_marks ColumnMark.NotNull (after (word (codes "not")) (word (codes "null")) refl)) (standing_for tables.column_marks ColumnMark.PrimaryKey (after (word (codes "primary")) (word (codes "key")) refl)) refl

-- {mark}
unfoldable pub all_marks : Rule (List ColumnMark) mark_heads mark_heads true
all_marks = many column_mark refl

-- {mark}, each once at most
unfoldable pub column_marks : Rule (List ColumnMark) mark_heads mark_heads true
column_marks = checked g.marked_once all_marks

-- name type {mark}
unfoldable pub column_definition : Rule MarkedColumn (Names ∷ []) mark_heads false
column_definition = mapped g.column_of tables.as_definition tables.definition_law (both (both name column_type refl) column_marks refl)

-- PRIMARY KEY "(" names ")", no name twice
unfoldable pub primary_key : Rule (List (List ℕ)) (Keyword (codes "primary") ∷ []) [] false
primary_key = after (word (codes "primary")) (after (word (codes "key")) (in_parentheses distinct_names refl) refl) refl

-- column | key
unfoldable pub table_element : Rule TableElement (Names ∷ Keyword (codes "primary") ∷ []) mark_heads false
table_element = either (mapped TableElement.Column tables.as_column tables.column_law column_definition) (mapped TableElement.Key tables.as_key tables.key_law primary_key) primary_apart

-- column {"," element}
unfoldable pub table_elements : Rule TableElements (Names ∷ []) (Sign Symbol.Comma ∷ mark_heads) false
table_elements = widened (mapped elements_of tables.as_elements tables.elements_law (both column_definition (many (with_comma table_element) refl) refl)) refl refl

-- column {"," element}, where the key comes last
unfoldable pub listed_elements : Rule TableElements (Names ∷ []) (Sign Symbol.Comma ∷ mark_heads) false
listed_elements = checked (λ x. x.key_last) table_elements

-- column {"," column} ["," key]
abbrev pub ColumnsAndKey : List Token → TableElements → Type 0
ColumnsAndKey = Mapped g.elements_with (Both (Mapped (λ r. r.0 ∷ r.1) (Both column_definition.spells (Many (with_comma column_definition).spells))) (Perhaps (with_comma primary_key).spells))

pub are_columns : (ts : List Token) (x : TableElements) → listed_elements.spells ts x → ColumnsAndKey ts x
unfolding listed_elements table_elements table_element with_comma
are_columns = elements.are_columns column_definition.spells primary_key.spells

pub are_listed : (ts : List Token) (x : TableElements) → ColumnsAndKey ts x → listed_elements.spells ts x
unfolding listed_elements table_elements table_element with_comma
are_listed = elements.are_listed column_definition.spells primary_key.spells

-- column {"," column} ["," key]; since a comma goes on with either, elements are read
unfoldable pub columns_and_key : Rule TableElements (Names ∷ []) (Sign Symbol.Comma ∷ mark_heads) false
columns_and_key = spelled_as ColumnsAndKey listed_elements are_columns are_listed

-- the same, with one primary key at most and no two columns of one name
unfoldable pub proper_elements : Rule TableElements (Names ∷ []) (Sign Symbol.Comma ∷ mark_heads) false
proper_elements = checked g.is_table columns_and_key

-- name "(" columns_and_key ")"
unfoldable pub table : Rule Statement (Names ∷ []) [] false
table = mapped g.table_of tables.as_table tables.table_law (both name (in_parentheses proper_elements refl) refl)

-- ENABLE | DISABLE | FORCE | NO FORCE
unfoldable pub row_change : Rule RowSecurity (Keyword (codes "enable") ∷ Keyword (codes "disable") ∷ Keyword (codes "force") ∷ Keyword (codes "no") ∷ []) [] false
row_change = either (word_for tables.row_changes RowSecurity.Enable (codes "enable")) (either (word_for tables.row_changes RowSecurity.Disable (codes "disable"))
    (either (word_for tables.row_changes RowSecurity.Force (codes "force")) (standing_for tables.row_changes RowSecurity.NoForce (after (word (codes "no")) (word (codes "force")) refl)) refl) refl) refl

-- name change ROW LEVEL SECURITY
unfoldable pub altered_table : Rule Statement (Names ∷ []) [] false
altered_table = mapped g.altering_table_of tables.as_altering_table tables.altering_table_law (both name (before row_change (after (word (codes "row")) (after (word (codes "level")) (word (codes "security")) refl) refl) refl) refl)

-- ---- policies

-- name ON name
unfoldable pub policy_on : Rule (List ℕ × List ℕ) (Names ∷ []) [] false
policy_on = both name (after (word (codes "on")) name refl) refl

-- [AS (PERMISSIVE | RESTRICTIVE)], without which it is permissive; it is always written
unfoldable pub permissive : Rule Bool (Keyword (codes "as") ∷ []) (Keyword (codes "as") ∷ []) true
permissive = mapped g.or_permissive tables.as_permissive tables.permissive_law (perhaps (after (word (codes "as")) (either (word_for back.flags true (codes "permissive")) (word_for back.flags false (codes "restrictive")) refl) refl))

-- SELECT | INSERT | UPDATE | DELETE
unfoldable pub command_type : Rule Kind privilege_heads [] false
command_type = either (word_for tables.commands Kind.Select (codes "select")) (either (word_for tables.commands Kind.Insert (codes "insert"))
    (either (word_for tables.commands Kind.Update (codes "update")) (word_for tables.commands Kind.Delete (codes "delete")) refl) refl) refl

-- ALL | command
unfoldable pub policy_kind : Rule PolicyKind privileges_heads [] false
policy_kind = either (mapped (λ _. PolicyKind.All) tables.as_all tables.all_law (word (codes "all"))) (mapped PolicyKind.Only tables.as_only tables.only_law command_type) refl

-- [FOR kind], without which it is for all commands; it is always written
unfoldable pub for_commands : Rule PolicyKind (Keyword (codes "for") ∷ []) (Keyword (codes "for") ∷ []) true
for_commands = mapped g.or_all tables.as_commands tables.commands_law (perhaps (after (word (codes "for")) policy_kind refl))

-- [AS ..] [FOR ..]
unfoldable pub policy_options : Rule (Bool × PolicyKind) (Keyword (codes "as") ∷ Keyword (codes "for") ∷ []) (Keyword (codes "for") ∷ Keyword (codes "as") ∷ []) true
policy_options = both permissive for_commands refl

-- PUBLIC | name
unfoldable pub grantee : Rule Grantee (Keyword (codes "public") ∷ Names ∷ []) [] false
grantee = either (mapped (λ _. Grantee.Public) tables.as_public tables.public_law (word (codes "public"))) (mapped Grantee.Role tables.as_grantee tables.grantee_law name) public_apart

-- grantee {"," grantee}
unfoldable pub grantees : Rule (List Grantee) (Keyword (codes "public") ∷ Names ∷ []) (Sign Symbol.Comma ∷ []) false
grantees = listed grantee

-- TO grantees
unfoldable pub to_grantees : Rule (List Grantee) (Keyword (codes "to") ∷ []) (Sign Symbol.Comma ∷ []) false
to_grantees = after (word (codes "to")) grantees refl

-- [TO grantees], without which it is for PUBLIC; it is always written
unfoldable pub for_grantees : Rule (List Grantee) (Keyword (codes "to") ∷ []) (Sign Symbol.Comma ∷ Keyword (codes "to") ∷ []) true
for_grantees = mapped g.or_public tables.as_for tables.grantees_law (perhaps to_grantees)

-- [TO grantees], where there may be none
unfoldable pub grantees_if_any : Rule (Option (List Grantee)) (Keyword (codes "to") ∷ []) (Sign Symbol.Comma ∷ Keyword (codes "to") ∷ []) true
grantees_if_any = perhaps to_grantees

-- DROP POLICY name ON name
unfoldable pub dropped_policy : Rule Statement (Keyword (codes "drop") ∷ []) [] false
dropped_policy = mapped g.dropping_policy_of tables.as_dropping_policy tables.dropping_policy_law (after (word (codes "drop")) (after (word (codes "policy")) policy_on refl) refl)

-- ---- CREATE and ALTER

-- what is created or altered without an expression is kept as it is
pub role_kept : (is_user : Bool) (ts : List Token) (x : Statement) → (role is_user).spells ts x → tree_with_depth_of x ≡ t.flat x
unfolding role
role_kept is_user ts x h = rw (h.value) refl

pub table_kept : (ts : List Token) (x : Statement) → table.spells ts x → tree_with_depth_of x ≡ t.flat x
unfolding table
table_kept ts x h = rw (h.value) refl

pub altered_role_kept : (ts : List Token) (x : Statement) → altered_role.spells ts x → tree_with_depth_of x ≡ t.flat x
unfolding altered_role
altered_role_kept ts x h = rw (h.value) refl

pub altered_table_kept : (ts : List Token) (x : Statement) → altered_table.spells ts x → tree_with_depth_of x ≡ t.flat x
unfolding altered_table
altered_table_kept ts x h = rw (h.value) refl

pub dropped_policy_kept : (ts : List Token) (x : Statement) → dropped_policy.spells ts x → tree_with_depth_of x ≡ t.flat x
unfolding dropped_policy
dropped_policy_kept ts x h = rw (h.value) refl

module _ (inner : Cut tree_of expr_heads expr_more false) where
  -- [USING "(" expr ")"]
  unfoldable pub using : Cut (of_some tree_of) (Keyword (codes "using") ∷ []) (Keyword (codes "using") ∷ []) true
  using = cut.perhaps (cut.after (word (codes "using")) (parenthesized inner) refl)

  -- [WITH CHECK "(" expr ")"]
  unfoldable pub check : Cut (of_some tree_of) (Keyword (codes "with") ∷ []) (Keyword (codes "with") ∷ []) true
  check = cut.perhaps (cut.after (word (codes "with")) (cut.after (word (codes "check")) (parenthesized inner) refl) refl)

  -- [USING ..] [WITH CHECK ..]
  unfoldable pub conditions : Cut conditions_kept (Keyword (codes "using") ∷ Keyword (codes "with") ∷ []) (Keyword (codes "with") ∷ Keyword (codes "using") ∷ []) true
  conditions = cut.both using check refl

  -- [AS ..] [FOR ..] [TO grantees] [USING ..] [WITH CHECK ..]
  unfoldable pub description : Cut description_kept policy_more policy_more true
  description = cut.widened (cut.both (cut.plain policy_options) (cut.both (cut.plain for_grantees) conditions refl) refl) refl refl

  -- the same, where a policy of this kind may have these expressions
  unfoldable pub proper_description : Cut description_kept policy_more policy_more true
  proper_description = cut.checked g.is_policy g.is_policy is_policy_kept description

  -- name ON name description
  unfoldable pub policy : Cut tree_with_depth_of (Names ∷ []) policy_more false
  policy = cut.mapped tree_with_depth_of g.policy_of t.policy_of (λ r. refl) tables.as_policy tables.policy_law (cut.both (cut.plain policy_on) proper_description refl)

  -- [TO grantees] [USING ..] [WITH CHECK ..]
  unfoldable pub policy_change : Cut change_kept change_more change_more true
  policy_change = cut.widened (cut.both (cut.plain grantees_if_any) conditions refl) refl refl

  -- the same, one of them at least
  unfoldable pub proper_change : Cut change_kept change_more change_more true
  proper_change = cut.checked g.is_change g.is_change is_change_kept policy_change

  -- name ON name change
  unfoldable pub altered_policy : Cut tree_with_depth_of (Names ∷ []) change_more false
  altered_policy = cut.mapped tree_with_depth_of g.altering_policy_of t.altering_policy_of (λ r. refl) tables.as_altering_policy tables.altering_policy_law (cut.both (cut.plain policy_on) proper_change refl)

  -- CREATE (ROLE role | USER role | TABLE table | POLICY policy), of which USER isn't written
  unfoldable pub create : Cut tree_with_depth_of (Keyword (codes "create") ∷ []) create_more false
  create = cut.widened (cut.after (word (codes "create")) (cut.either (cut.after (word (codes "role")) (cut.kept_as tree_with_depth_of t.flat (role false) (role_kept false)) refl)
      (cut.either (cut.after (word (codes "user")) (cut.kept_as tree_with_depth_of t.flat (role true) (role_kept true)) refl)
      (cut.either (cut.after (word (codes "table")) (cut.kept_as tree_with_depth_of t.flat table table_kept) refl) (cut.after (word (codes "policy")) policy refl) refl) refl) refl) refl) refl refl

  -- ALTER (ROLE role | TABLE table | POLICY policy)
  unfoldable pub alter : Cut tree_with_depth_of (Keyword (codes "alter") ∷ []) alter_more false
  alter = cut.widened (cut.after (word (codes "alter")) (cut.either (cut.after (word (codes "role")) (cut.kept_as tree_with_depth_of t.flat altered_role altered_role_kept) refl)
      (cut.either (cut.after (word (codes "table")) (cut.kept_as tree_with_depth_of t.flat altered_table altered_table_kept) refl) (cut.after (word (codes "policy")) altered_policy refl) refl) refl) refl) refl refl

-- ---- GRANT and REVOKE of privileges

-- SELECT | INSERT | UPDATE
unfoldable pub column_privilege : Rule Privilege column_privilege_heads [] false
column_privilege = either (word_for back.privilege_names Privilege.Select (codes "select")) (either (word_for back.privilege_names Privilege.Insert (codes "insert")) (word_for back.privilege_names Privilege.Update (codes "update")) refl) refl

-- ["(" names ")"]
unfoldable pub column_list : Rule (Option (List (List ℕ))) (Sign Symbol.LParen ∷ []) (Sign Symbol.LParen ∷ []) true
column_list = perhaps (in_parentheses names refl)

-- (SELECT | INSERT | UPDATE) ["(" names ")"] | DELETE
unfoldable pub privilege : Rule g.NamedPrivilege privilege_heads (Sign Symbol.LParen ∷ []) false
privilege = either (both column_privilege column_list refl) (mapped g.on_whole back.as_on_whole back.on_whole_law (word_for back.privilege_names Privilege.Delete (codes "delete"))) refl

-- privilege {"," privilege}
unfoldable pub privilege_list : Rule (List g.NamedPrivilege) privilege_heads (Sign Symbol.LParen ∷ Sign Symbol.Comma ∷ []) false
privilege_list = widened (mapped (λ r. r.0 ∷ r.1) as_list list_law (both privilege (many (with_comma privilege) refl) refl)) refl refl

-- privilege {"," privilege}, together
unfoldable pub named_privileges : Rule Privileges privilege_heads (Sign Symbol.LParen ∷ Sign Symbol.Comma ∷ []) false
named_privileges = mapped g.privileges_of back.as_privileges back.privileges_law privilege_list

-- ALL [PRIVILEGES] ["(" names ")"]; PRIVILEGES isn't written, and the list neither: with columns the three are named
unfoldable pub all_privileges : Rule Privileges (Keyword (codes "all") ∷ []) (Sign Symbol.LParen ∷ Keyword (codes "privileges") ∷ []) false
all_privileges = mapped g.all_of back.as_all_privileges back.all_privileges_law (after (word (codes "all")) (after_as None (perhaps (word (codes "privileges"))) column_list refl) refl)

-- ALL [PRIVILEGES] ["(" names ")"] | privilege {"," privilege}
unfoldable pub table_privileges : Rule Privileges privileges_heads privileges_more false
table_privileges = widened (either all_privileges named_privileges refl) refl refl

-- the same, where no column is named twice for a privilege
unfoldable pub privileges : Rule Privileges privileges_heads privileges_more false
privileges = checked g.columns_are_distinct table_privileges

-- [TABLE] name; TABLE isn't written
unfoldable pub table_name : Rule (List ℕ) (Keyword (codes "table") ∷ Names ∷ []) [] false
table_name = after_as None (perhaps (word (codes "table"))) name table_apart

-- privileges ON [TABLE] name
unfoldable pub privileges_on : Rule (Privileges × List ℕ) privileges_heads [] false
privileges_on = both privileges (after (word (codes "on")) table_name refl) refl

-- [WITH GRANT OPTION]
unfoldable pub with_option : Rule Bool (Keyword (codes "with") ∷ []) (Keyword (codes "with") ∷ []) true
with_option = mapped g.are_written back.as_words back.words_law (perhaps (after (word (codes "with")) (after (word (codes "grant")) (word (codes "option")) refl) refl))

-- TO grantees [WITH GRANT OPTION]
unfoldable pub granted_to : Rule (List Grantee × Bool) (Keyword (codes "to") ∷ []) granted_more false
granted_to = widened (both to_grantees with_option refl) refl refl

-- privileges ON [TABLE] name TO grantees [WITH GRANT OPTION]
unfoldable pub granted_privileges : Rule Statement privileges_heads granted_more false
granted_privileges = widened (mapped g.grant_of back.as_grant back.grant_law (both privileges_on granted_to refl)) refl refl

-- [GRANT OPTION FOR]
unfoldable pub option_only : Rule Bool (Keyword (codes "grant") ∷ []) (Keyword (codes "grant") ∷ []) true
option_only = mapped g.are_written back.as_words back.words_law (perhaps (after (word (codes "grant")) (after (word (codes "option")) (word (codes "for")) refl) refl))

-- [CASCADE | RESTRICT], of which RESTRICT isn't written
unfoldable pub cascade : Rule Bool (Keyword (codes "cascade") ∷ Keyword (codes "restrict") ∷ []) (Keyword (codes "cascade") ∷ Keyword (codes "restrict") ∷ []) true
cascade = mapped g.or_restrict back.as_cascade back.cascade_law (perhaps (either (word_for back.flags true (codes "cascade")) (word_for back.flags false (codes "restrict")) refl))

-- FROM grantees [CASCADE | RESTRICT]
unfoldable pub revoked_from : Rule (List Grantee × Bool) (Keyword (codes "from") ∷ []) revoked_more false
revoked_from = widened (after (word (codes "from")) (both grantees cascade refl) refl) refl refl

-- [GRANT OPTION FOR] privileges ON [TABLE] name FROM grantees [CASCADE | RESTRICT]
unfoldable pub revoked_privileges : Rule Statement (Keyword (codes "grant") ∷ privileges_heads) revoked_more false
revoked_privileges = widened (mapped g.revoke_of back.as_revoke back.revoke_law (both option_only (both privileges_on revoked_from refl) refl)) refl refl

-- ---- memberships

-- ADMIN | INHERIT | SET
unfoldable pub option : Rule MembershipOption option_heads [] false
option = either (word_for back.option_names MembershipOption.Admin (codes "admin")) (either (word_for back.option_names MembershipOption.Inherit (codes "inherit")) (word_for back.option_names MembershipOption.Set (codes "set")) refl) refl

-- TRUE | OPTION | FALSE, of which OPTION is TRUE and isn't written
unfoldable pub flag : Rule Bool (Keyword (codes "true") ∷ Keyword (codes "option") ∷ Keyword (codes "false") ∷ []) [] false
flag = either (word_for back.flags true (codes "true")) (either (word_for back.flags true (codes "option")) (word_for back.flags false (codes "false")) refl) refl

-- option (OPTION | TRUE | FALSE)
unfoldable pub setting : Rule g.Setting option_heads [] false
setting = both option flag refl

-- setting {"," setting}
unfoldable pub all_settings : Rule (List g.Setting) option_heads (Sign Symbol.Comma ∷ []) false
all_settings = listed setting

-- setting {"," setting}, no two of one option
unfoldable pub settings : Rule (List g.Setting) option_heads (Sign Symbol.Comma ∷ []) false
settings = checked g.set_once all_settings

-- [WITH assignments]
unfoldable pub settings_if_any : Rule (Option (List g.Setting)) (Keyword (codes "with") ∷ []) granted_more true
settings_if_any = perhaps (after (word (codes "with")) settings refl)

-- the options that are written
unfoldable pub options : Rule MembershipOptions (Keyword (codes "with") ∷ []) granted_more true
options = mapped g.options_from back.as_with back.options_law settings_if_any

-- names TO names [WITH assignments]
unfoldable pub granted_roles : Rule Statement (Names ∷ []) granted_more false
granted_roles = widened (mapped g.granting_of back.as_granting back.granting_law (both names (after (word (codes "to")) (both names options refl) refl) refl)) refl refl

-- none of ON, TO and FROM is such a word
word_skips : (w : List ℕ) → begins (Keyword (codes "on") ∷ []) (Word w) ≡ false → begins (Keyword (codes "to") ∷ Keyword (codes "from") ∷ []) (Word w) ≡ false → Skips on_comes_first (only (Word w))
word_skips w on to = token_skips (Keyword (codes "on") ∷ []) (Keyword (codes "to") ∷ Keyword (codes "from") ∷ []) (Word w) on to

-- nor is a sign
sign_skips : (x : Symbol) → Skips on_comes_first (only (Token.Symbol x))
sign_skips x = token_skips (Keyword (codes "on") ∷ []) (Keyword (codes "to") ∷ Keyword (codes "from") ∷ []) (Token.Symbol x) refl refl

name_skips : Skips on_comes_first name.spells
unfolding name
name_skips = one_skips (Keyword (codes "on") ∷ []) (Keyword (codes "to") ∷ Keyword (codes "from") ∷ []) g.name_of (Names ∷ []) back.name_begins on_apart to_apart

-- in looking for ON, TO and FROM names are passed over
names_skip : Skips on_comes_first names.spells
unfolding names with_comma
names_skip = mapped_skips _ _ _ (both_skips _ _ _ name_skips (many_skips _ _ (mapped_skips _ _ _ (both_skips _ _ _ (sign_skips Symbol.Comma) name_skips))))

columns_skip : Skips on_comes_first column_list.spells
unfolding column_list
columns_skip = perhaps_skips _ _ (mapped_skips _ _ _ (both_skips _ _ _ (sign_skips Symbol.LParen) (mapped_skips _ _ _ (both_skips _ _ _ names_skip (sign_skips Symbol.RParen)))))

column_privilege_skips : Skips on_comes_first column_privilege.spells
unfolding column_privilege
column_privilege_skips = either_skips _ _ _ (mapped_skips _ _ _ (word_skips (codes "select") refl refl))
    (either_skips _ _ _ (mapped_skips _ _ _ (word_skips (codes "insert") refl refl)) (mapped_skips _ _ _ (word_skips (codes "update") refl refl)))

privilege_skips : Skips on_comes_first privilege.spells
unfolding privilege
privilege_skips = either_skips _ _ _ (both_skips _ _ _ column_privilege_skips columns_skip) (mapped_skips _ _ _ (mapped_skips _ _ _ (word_skips (codes "delete") refl refl)))

-- so are privileges
named_skip : Skips on_comes_first named_privileges.spells
unfolding named_privileges privilege_list with_comma
named_skip = mapped_skips _ _ _ (mapped_skips _ _ _ (both_skips _ _ _ privilege_skips (many_skips _ _ (mapped_skips _ _ _ (both_skips _ _ _ (sign_skips Symbol.Comma) privilege_skips)))))

all_skip : Skips on_comes_first all_privileges.spells
unfolding all_privileges
all_skip = mapped_skips _ _ _ (mapped_skips _ _ _ (both_skips _ _ _ (word_skips (codes "all") refl refl)
    (mapped_skips _ _ _ (both_skips _ _ _ (perhaps_skips _ _ (word_skips (codes "privileges") refl refl)) columns_skip))))

privileges_skip : Skips on_comes_first privileges.spells
unfolding privileges table_privileges
privileges_skip = checked_skips _ _ _ (either_skips _ _ _ all_skip named_skip)

-- behind privileges ON comes first
on_decides : (front rest : List Token) (r : Privileges × List ℕ) → privileges_on.spells front r → on_comes_first (front ++ rest) ≡ true
unfolding privileges_on
on_decides = decided_behind on_comes_first privileges.spells _ privileges_skip true (decided_at on_comes_first (Word (codes "on")) table_name.spells true (λ ts. refl))

-- where privileges are granted ON comes first
pub on_first : (front rest : List Token) (a : Statement) → granted_privileges.spells front a → sees granted_more rest ≡ false → on_comes_first (front ++ rest) ≡ true
unfolding granted_privileges
on_first front rest a h stop = decided_before on_comes_first privileges_on.spells granted_to.spells true on_decides front rest h.source h.spelled

-- where roles are granted it is TO
pub to_first : (front rest : List Token) (a : Statement) → granted_roles.spells front a → sees granted_more rest ≡ false → on_comes_first (front ++ rest) ≡ false
unfolding granted_roles
to_first front rest a h stop = decided_behind on_comes_first names.spells _ names_skip false (decided_at on_comes_first (Word (codes "to")) _ false (λ ts. refl)) front rest h.source h.spelled

-- GRANT (privileges ON [TABLE] name TO grantees [WITH GRANT OPTION] | names TO names [WITH assignments]): where ON comes before TO, it is of privileges
unfoldable pub grant : Rule Statement (Keyword (codes "grant") ∷ []) granted_more false
grant = widened (after (word (codes "grant")) (either_by on_comes_first granted_privileges granted_roles on_first to_first) refl) refl refl

-- without an expression, it is kept as it is
grant_kept : (ts : List Token) (x : Statement) → grant.spells ts x → tree_with_depth_of x ≡ t.flat x
unfolding grant granted_privileges granted_roles
grant_kept ts x h = rw (h.value) (elim h.spelled.other [ inl y ↦ rw (y.value) refl | inr y ↦ rw (y.value) refl ])

-- names FROM names [CASCADE | RESTRICT]
unfoldable pub roles_from : Rule (List (List ℕ) × (List (List ℕ) × Bool)) (Names ∷ []) revoked_more false
roles_from = widened (both names (after (word (codes "from")) (both names cascade refl) refl) refl) refl refl

-- names FROM names [CASCADE | RESTRICT], as a statement
unfoldable pub revoked_roles : Rule Statement (Names ∷ []) revoked_more false
revoked_roles = mapped g.revoking_of back.as_revoking back.revoking_law roles_from

-- option OPTION FOR
unfoldable pub option_for : Rule MembershipOption option_heads [] false
option_for = before option (after (word (codes "option")) (word (codes "for")) refl) refl

-- option OPTION FOR names FROM names [CASCADE | RESTRICT]
unfoldable pub revoked_option : Rule Statement option_heads revoked_more false
revoked_option = widened (mapped g.option_revoking_of back.as_option_revoking back.option_revoking_law (both option_for roles_from refl)) refl refl

-- an option is one word
option_alone : Alone option.spells
unfolding option
option_alone = either_alone _ _ (mapped_alone _ _ (only_alone (Word (codes "admin")))) (either_alone _ _ (mapped_alone _ _ (only_alone (Word (codes "inherit")))) (mapped_alone _ _ (only_alone (Word (codes "set")))))

-- where an option is revoked the second word is OPTION
pub option_second : (front rest : List Token) (a : Statement) → revoked_option.spells front a → sees revoked_more rest ≡ false → second_is (Keyword (codes "option") ∷ []) (front ++ rest) ≡ true
unfolding revoked_option option_for
option_second front rest a h stop =
    let x = h.spelled in
    let y = x.one.spelled in
    let z = y.other.spelled in
    rw (x.split, y.split, (option_alone.token y.front x.one.source.0 y.one).1, z.split, z.one) refl

-- where roles are revoked it is a comma or FROM
pub no_option_second : (front rest : List Token) (a : Statement) → revoked_roles.spells front a → sees revoked_more rest ≡ false → second_is (Keyword (codes "option") ∷ []) (front ++ rest) ≡ false
unfolding revoked_roles roles_from names name with_comma
no_option_second front rest a h stop =
    let x = h.spelled in
    let y = x.other.spelled in
    let n = x.one.spelled in
    rw (x.split, n.split, n.one.alone) (go n.rest x.rest x.one.source.1 n.other x.other.source y)
  where
    go : (ts us : List Token) (more : List (List ℕ)) → Many (with_comma name).spells ts more → (r : Unit {0} × (List (List ℕ) × Bool)) → Both (only (Word (codes "from"))) (Both names.spells cascade.spells) us r → sees (Keyword (codes "option") ∷ []) ((ts ++ us) ++ rest) ≡ false
    go ts us [] m r y = rw (m, y.split, y.one) refl
    go ts us (n ∷ more) m r y = rw (m.2, m.3.spelled.split, m.3.spelled.one) refl

-- [option OPTION FOR] names FROM names [CASCADE | RESTRICT]: where the second word is OPTION, it is of an option
unfoldable pub revoked_memberships : Rule Statement (option_heads ++ Names ∷ []) revoked_more false
revoked_memberships = widened (either_by (second_is (Keyword (codes "option") ∷ [])) revoked_option revoked_roles option_second no_option_second) refl refl

-- GRANT OPTION FOR is passed over
option_only_skips : Skips on_comes_first option_only.spells
unfolding option_only
option_only_skips = mapped_skips _ _ _ (perhaps_skips _ _ (mapped_skips _ _ _ (both_skips _ _ _ (word_skips (codes "grant") refl refl) (mapped_skips _ _ _ (both_skips _ _ _ (word_skips (codes "option") refl refl) (word_skips (codes "for") refl refl))))))

option_skips : Skips on_comes_first option.spells
unfolding option
option_skips = either_skips _ _ _ (mapped_skips _ _ _ (word_skips (codes "admin") refl refl)) (either_skips _ _ _ (mapped_skips _ _ _ (word_skips (codes "inherit") refl refl)) (mapped_skips _ _ _ (word_skips (codes "set") refl refl)))

-- so is an option with OPTION FOR
option_for_skips : Skips on_comes_first option_for.spells
unfolding option_for
option_for_skips = mapped_skips _ _ _ (both_skips _ _ _ option_skips (mapped_skips _ _ _ (both_skips _ _ _ (word_skips (codes "option") refl refl) (word_skips (codes "for") refl refl))))

-- behind names FROM comes first
from_decides : (front rest : List Token) (r : List (List ℕ) × (List (List ℕ) × Bool)) → roles_from.spells front r → on_comes_first (front ++ rest) ≡ false
unfolding roles_from
from_decides = decided_behind on_comes_first names.spells _ names_skip false (decided_at on_comes_first (Word (codes "from")) _ false (λ ts. refl))

-- where privileges are revoked ON comes first
pub on_still_first : (front rest : List Token) (a : Statement) → revoked_privileges.spells front a → sees revoked_more rest ≡ false → on_comes_first (front ++ rest) ≡ true
unfolding revoked_privileges
on_still_first front rest a h stop =
    decided_behind on_comes_first option_only.spells _ option_only_skips true (decided_before on_comes_first privileges_on.spells revoked_from.spells true on_decides) front rest h.source h.spelled

-- where memberships are revoked it is FROM
pub from_first : (front rest : List Token) (a : Statement) → revoked_memberships.spells front a → sees revoked_more rest ≡ false → on_comes_first (front ++ rest) ≡ false
unfolding revoked_memberships revoked_option revoked_roles
from_first front rest a h stop = elim h [
  | inl x ↦ decided_behind on_comes_first option_for.spells roles_from.spells option_for_skips false from_decides front rest x.source x.spelled
  | inr x ↦ from_decides front rest x.source x.spelled
]

-- REVOKE ([GRANT OPTION FOR] privileges ON [TABLE] name FROM grantees [CASCADE | RESTRICT] | [option OPTION FOR] names FROM names [CASCADE | RESTRICT]): where ON comes before FROM, it is of privileges
unfoldable pub revoke : Rule Statement (Keyword (codes "revoke") ∷ []) revoked_more false
revoke = widened (after (word (codes "revoke")) (either_by on_comes_first revoked_privileges revoked_memberships on_still_first from_first) refl) refl refl

-- so is this
revoke_kept : (ts : List Token) (x : Statement) → revoke.spells ts x → tree_with_depth_of x ≡ t.flat x
unfolding revoke revoked_privileges revoked_memberships revoked_option revoked_roles
revoke_kept ts x h = rw (h.value) (elim h.spelled.other [ inl y ↦ rw (y.value) refl | inr y ↦ elim y [ inl z ↦ rw (z.value) refl | inr z ↦ rw (z.value) refl ] ])

-- ---- SET ROLE

-- NONE | name
unfoldable pub chosen_role : Rule SetRole (Keyword (codes "none") ∷ Names ∷ []) [] false
chosen_role = either (mapped (λ _. SetRole.None) back.as_no_role back.no_role_law (word (codes "none"))) (mapped SetRole.To back.as_chosen back.chosen_law name) none_apart

-- SET ROLE (NONE | name)
unfoldable pub role_set : Rule SetRole (Keyword (codes "set") ∷ []) [] false
role_set = after (word (codes "set")) (after (word (codes "role")) chosen_role refl) refl

-- RESET ROLE
unfoldable pub role_reset : Rule SetRole (Keyword (codes "reset") ∷ []) [] false
role_reset = mapped (λ _. SetRole.Reset) back.as_reset back.reset_law (after (word (codes "reset")) (word (codes "role")) refl)

-- role_set | role_reset
unfoldable pub role_change : Rule SetRole (Keyword (codes "set") ∷ Keyword (codes "reset") ∷ []) [] false
role_change = either role_set role_reset refl

-- role_change, as a statement
unfoldable pub set_role : Rule Statement (Keyword (codes "set") ∷ Keyword (codes "reset") ∷ []) [] false
set_role = mapped Statement.SetRole back.as_set_role back.set_role_law role_change

-- and this
set_role_kept : (ts : List Token) (x : Statement) → set_role.spells ts x → tree_with_depth_of x ≡ t.flat x
unfolding set_role
set_role_kept ts x h = rw (h.value) refl

-- ---- statements

-- dropped_policy | grant | revoke | set_role
unfoldable pub flat_body : Rule Statement flat_heads flat_more false
flat_body = widened (either dropped_policy (either grant (either revoke set_role refl) refl) refl) refl refl

-- what has no expression is kept as it is
pub flat_kept : (ts : List Token) (x : Statement) → flat_body.spells ts x → tree_with_depth_of x ≡ t.flat x
unfolding flat_body
flat_kept ts x h = elim h [ inl y ↦ dropped_policy_kept ts x y | inr y ↦ elim y [ inl z ↦ grant_kept ts x z | inr z ↦ elim z [ inl u ↦ revoke_kept ts x u | inr u ↦ set_role_kept ts x u ] ] ]

-- select | insert | update | delete | create | alter | flat_body
unfoldable pub body : (inner : Cut tree_of expr_heads expr_more false) → Cut tree_with_depth_of body_heads body_more false
body inner = cut.widened (cut.either (select inner) (cut.either (insert inner) (cut.either (update inner) (cut.either (delete inner)
    (cut.either (create inner) (cut.either (alter inner) (cut.kept_as tree_with_depth_of t.flat flat_body flat_kept) refl) refl) refl) refl) refl) refl) refl refl

-- body [";"], with parentheses to this depth; the semicolon isn't written
unfoldable pub statement : (depth : ℕ) → Cut tree_with_depth_of body_heads (Sign Symbol.Semicolon ∷ body_more) false
statement depth = cut.widened (cut.before_as None (body (expr depth)) (perhaps (sign Symbol.Semicolon)) refl) refl refl

-- The tokens spell the statement, at some depth of parentheses.
pub record Spells (ts : List Token) (x : Statement) : Type 0 where
  pub depth : ℕ
  pub spelled : (statement depth).rule.spells ts x
