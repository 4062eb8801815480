-- Each rule of the grammar, by the items that read what it spells.
use Rattle.std.proofs.Common.{◌≡◌, ℕ, zero, suc, Bool, true, false, ◌||◌, List, [], ◌∷◌, ◌++◌, Some, None, refl, inl, subst, ap}
use Rattle.std.specs.Prelude.{codes, take, drop, map}
use Rattle.rls_text.specs.declared.token.Token.{Token as TextToken}
use Rattle.rls_text.specs.declared.token.Token.TheVariants as w
use Rattle.rls_text.specs.declared.token.Symbol.TheVariants as s
use Rattle.rls_text.specs.{Cut.Cut, Cutting.tree_of, FirstSets.expr_heads, FirstSets.expr_more}
use Rattle.rls_text.specs.Lang.{only, Both, Perhaps, Many}
use Rattle.rls_text.specs.Grammar as g
use Rattle.rls_text.specs.Transactions as b
use Rattle.rls_text.specs.Commands.{SpellsCommand}
use Rattle.rls_statement.specs.declared.command.Command.{Command}
use Rattle.rls_text.specs.Rule.{with_comma}
use Rattle.rls_text.specs.Cut as cut
use Rattle.rls_text.specs.Values as v
use Rattle.rls_text.specs.WaysBack as back
use Rattle.rls_hints.specs.declared.grammar.Item.TheVariants as i
use Rattle.rls_hints.specs.declared.grammar.Phrase.TheVariants as p
use Rattle.rls_hints.specs.Rows.{alternatives}
use Rattle.rls_hints.specs.Walking.{fits, start, fault_in, fault_of}
use Rattle.rls_hints.specs.Beginnings.{seen}
use Rattle.rls_hints.proofs.Alive.{Reads, row, by_row, by_perhaps, by_many, by_both, by_mapped, by_checked, by_either, by_token, by_after, reads_one, Leads, leads_from, nothing_leads}

-- ---- words of a kind

only_one : (x : Bool) → (x || false) ≡ true → x ≡ true
only_one true e = refl
only_one false e = cc

name_fits : (token : TextToken) (name : List ℕ) → v.name_of token ≡ Some name → fits i.Name (seen token) ≡ true
name_fits (w.Word word) name h = only_one _ (back.name_begins (w.Word word) name h)
name_fits (w.Number n) name h = cc (back.name_begins (w.Number n) name h)
name_fits (w.Text x) name h = cc (back.name_begins (w.Text x) name h)
name_fits (w.Symbol x) name h = cc (back.name_begins (w.Symbol x) name h)
name_fits w.Bad name h = cc (back.name_begins w.Bad name h)

number_fits : (token : TextToken) (n : ℕ) → v.number_of token ≡ Some n → fits i.Number (seen token) ≡ true
number_fits (w.Number x) n h = refl
number_fits (w.Word x) n h = cc (back.number_begins (w.Word x) n h)
number_fits (w.Text x) n h = cc (back.number_begins (w.Text x) n h)
number_fits (w.Symbol x) n h = cc (back.number_begins (w.Symbol x) n h)
number_fits w.Bad n h = cc (back.number_begins w.Bad n h)

text_fits : (token : TextToken) (x : List ℕ) → v.text_of token ≡ Some x → fits i.Text (seen token) ≡ true
text_fits (w.Text y) x h = refl
text_fits (w.Word y) x h = cc (back.text_begins (w.Word y) x h)
text_fits (w.Number y) x h = cc (back.text_begins (w.Number y) x h)
text_fits (w.Symbol y) x h = cc (back.text_begins (w.Symbol y) x h)
text_fits w.Bad x h = cc (back.text_begins w.Bad x h)

name_reads : Reads g.name.spells (i.Name ∷ [])
unfolding g.name
name_reads = reads_one i.Name v.name_of refl (λ next rest. refl) name_fits

digits_reads : Reads g.digits.spells (i.Number ∷ [])
unfolding g.digits
digits_reads = reads_one i.Number v.number_of refl (λ next rest. refl) number_fits

text_reads : Reads g.text.spells (i.Text ∷ [])
unfolding g.text
text_reads = by_mapped (reads_one i.Text v.text_of refl (λ next rest. refl) text_fits)

-- ---- names and items

more_names_read : Reads (Many (with_comma g.name).spells) (i.Part p.MoreNames ∷ [])
unfolding with_comma alternatives
more_names_read = by_many p.MoreNames 2 refl refl refl (by_after refl name_reads)

names_read : Reads g.names.spells (i.Name ∷ i.Part p.MoreNames ∷ [])
unfolding g.names
names_read = by_mapped (by_both 1 name_reads more_names_read)

distinct_names_read : Reads g.distinct_names.spells (i.Name ∷ i.Part p.MoreNames ∷ [])
unfolding g.distinct_names
distinct_names_read = by_checked names_read

-- ["-"]
minus_reads : Reads (Perhaps (only (w.Symbol s.Minus))) (i.Part p.Minus ∷ [])
unfolding alternatives
minus_reads = by_perhaps p.Minus refl refl (by_token refl)

literal_reads : Reads g.literal.spells (i.Part p.Item ∷ [])
unfolding g.literal g.constant g.number alternatives
literal_reads = by_either
    (by_either (by_row p.Item 0 refl (by_mapped (by_token refl))) (by_either (by_row p.Item 1 refl (by_mapped (by_token refl))) (by_row p.Item 2 refl (by_mapped (by_token refl)))))
    (by_either (by_row p.Item 3 refl text_reads) (by_row p.Item 4 refl (by_mapped (by_checked (by_both 1 minus_reads digits_reads)))))

qualified_reads : Reads g.behind_dot.spells (i.Part p.Qualified ∷ [])
unfolding g.behind_dot alternatives
qualified_reads = by_perhaps p.Qualified refl refl (by_after refl name_reads)

column_reads : Reads g.column.spells (i.Part p.Column ∷ [])
unfolding g.column alternatives
column_reads = by_row p.Column 0 refl (by_mapped (by_both 1 name_reads qualified_reads))

item_reads : Reads g.item.spells (i.Part p.Item ∷ [])
unfolding g.item alternatives
item_reads = by_either (by_mapped literal_reads) (by_either (by_row p.Item 5 refl (by_mapped column_reads)) (by_row p.Item 6 refl (by_mapped (by_token refl))))

-- ---- what a SELECT selects, and its table

more_items_read : Reads (Many (with_comma g.item).spells) (i.Part p.MoreItems ∷ [])
unfolding with_comma alternatives
more_items_read = by_many p.MoreItems 2 refl refl refl (by_after refl item_reads)

item_list_reads : Reads g.item_list.spells (i.Part p.Item ∷ i.Part p.MoreItems ∷ [])
unfolding g.item_list
item_list_reads = by_mapped (by_both 1 item_reads more_items_read)

count_reads : Reads g.count.spells (row p.Selected 1)
unfolding g.count alternatives
count_reads = by_mapped (by_after refl (by_after refl (by_mapped (by_both 1 (by_token refl) (by_token refl)))))

items_read : Reads g.items.spells (i.Part p.Selected ∷ [])
unfolding g.items g.selected_items alternatives
items_read = by_either (by_row p.Selected 0 refl (by_mapped (by_token refl))) (by_either (by_row p.Selected 1 refl count_reads) (by_row p.Selected 2 refl (by_mapped item_list_reads)))

alias_reads : Reads g.alias_if_any.spells (i.Part p.Alias ∷ [])
unfolding g.alias_if_any g.alias alternatives
alias_reads = by_perhaps p.Alias refl refl (by_mapped (by_both 1 (by_perhaps p.As refl refl (by_token refl)) name_reads))

-- ---- expressions

comparison_reads : Reads g.comparison.spells (i.Part p.Comparison ∷ [])
unfolding g.comparison alternatives
comparison_reads = by_either (by_row p.Comparison 0 refl (by_mapped (by_token refl))) (by_either (by_row p.Comparison 1 refl (by_mapped (by_token refl))) (by_either (by_row p.Comparison 2 refl (by_mapped (by_token refl)))
    (by_either (by_row p.Comparison 3 refl (by_mapped (by_token refl))) (by_either (by_row p.Comparison 4 refl (by_mapped (by_token refl))) (by_row p.Comparison 5 refl (by_mapped (by_token refl)))))))

part_sign_reads : Reads g.part_sign.spells (i.Part p.PartSign ∷ [])
unfolding g.part_sign alternatives
part_sign_reads = by_either (by_row p.PartSign 0 refl (by_mapped (by_token refl))) (by_row p.PartSign 1 refl (by_mapped (by_token refl)))

not_reads : Reads (Perhaps (only (w.Word (codes "not")))) (i.Part p.Not ∷ [])
unfolding alternatives
not_reads = by_perhaps p.Not refl refl (by_token refl)

null_tests_read : Reads (Many g.null_test.spells) (i.Part p.NullTests ∷ [])
unfolding g.null_test alternatives
null_tests_read = by_many p.NullTests 3 refl refl refl (by_after refl (by_mapped (by_both 1 not_reads (by_token refl))))

nots_read : Reads g.nots.spells (i.Part p.Nots ∷ [])
unfolding g.nots alternatives
nots_read = by_mapped (by_many p.Nots 1 refl refl refl (by_token refl))

module _ (inner : Cut tree_of expr_heads expr_more false) (whole : Reads inner.rule.spells (i.Part p.Expression ∷ [])) where
  where_reads : Reads (g.condition inner).rule.spells (i.Part p.Where ∷ [])
  unfolding g.condition alternatives
  where_reads = by_perhaps p.Where refl refl (by_after refl whole)

  select_parts_read : Reads (g.select_parts inner).rule.spells (i.Part p.Select ∷ [])
  unfolding g.select_parts g.from_table alternatives
  select_parts_read = by_row p.Select 0 refl (by_after refl (by_both 1 items_read (by_both 3 (by_after refl (by_both 1 name_reads alias_reads)) where_reads)))

  exists_reads : Reads (g.exists inner).rule.spells (row p.Operand 1)
  unfolding g.exists alternatives
  exists_reads = by_mapped (by_after refl (by_after refl (by_mapped (by_both 1 select_parts_read (by_token refl)))))

  enclosed_reads : Reads (g.enclosed inner).rule.spells (i.Part p.Enclosed ∷ [])
  unfolding g.enclosed g.scalar alternatives
  enclosed_reads = by_either (by_row p.Enclosed 0 refl (by_mapped select_parts_read)) (by_row p.Enclosed 1 refl whole)

  prim_reads : Reads (g.prim inner).rule.spells (i.Part p.Operand ∷ [])
  unfolding g.prim alternatives
  prim_reads = by_either (by_row p.Operand 0 refl item_reads) (by_either (by_row p.Operand 1 refl exists_reads)
      (by_row p.Operand 2 refl (by_after refl (by_mapped (by_both 1 enclosed_reads (by_token refl))))))

  sum_reads : Reads (g.sum inner).rule.spells (i.Part p.Sum ∷ [])
  unfolding g.sum g.sum_next alternatives
  sum_reads = by_row p.Sum 0 refl (by_mapped (by_both 1 prim_reads (by_many p.MoreOperands 2 refl refl refl (by_both 1 part_sign_reads prim_reads))))

  more_expressions_read : Reads (Many (cut.with_comma inner).rule.spells) (i.Part p.MoreExpressions ∷ [])
  unfolding cut.with_comma alternatives
  more_expressions_read = by_many p.MoreExpressions 2 refl refl refl (by_after refl whole)

  parts_read : Reads (g.parts inner).rule.spells (i.Part p.Expression ∷ i.Part p.MoreExpressions ∷ [])
  unfolding g.parts
  parts_read = by_mapped (by_both 1 whole more_expressions_read)

  choices_read : Reads (g.choices inner).rule.spells (i.Part p.Choices ∷ [])
  unfolding g.choices alternatives
  choices_read = by_either (by_row p.Choices 0 refl (by_mapped select_parts_read)) (by_row p.Choices 1 refl (by_mapped parts_read))

  in_reads : Reads (Perhaps (g.in_choices inner).rule.spells) (i.Part p.In ∷ [])
  unfolding g.in_choices g.in_word g.enclosed_choices alternatives
  in_reads = by_perhaps p.In refl refl (by_both 2 (by_mapped (by_both 1 not_reads (by_token refl))) (by_after refl (by_mapped (by_both 1 choices_read (by_token refl)))))

  memb_reads : Reads (g.memb inner).rule.spells (i.Part p.Member ∷ [])
  unfolding g.memb alternatives
  memb_reads = by_row p.Member 0 refl (by_mapped (by_both 1 sum_reads in_reads))

  compared_reads : Reads (Perhaps (Both g.comparison.spells (g.memb inner).rule.spells)) (i.Part p.Compared ∷ [])
  unfolding alternatives
  compared_reads = by_perhaps p.Compared refl refl (by_both 1 comparison_reads memb_reads)

  cmp_reads : Reads (g.cmp inner).rule.spells (i.Part p.Member ∷ i.Part p.Compared ∷ [])
  unfolding g.cmp
  cmp_reads = by_mapped (by_both 1 memb_reads compared_reads)

  is_reads : Reads (g.is inner).rule.spells (i.Part p.Member ∷ i.Part p.Compared ∷ i.Part p.NullTests ∷ [])
  unfolding g.is
  is_reads = by_mapped (by_both 2 cmp_reads null_tests_read)

  test_reads : Reads (g.not_ inner).rule.spells (i.Part p.Test ∷ [])
  unfolding g.not_ alternatives
  test_reads = by_row p.Test 0 refl (by_mapped (by_both 1 nots_read is_reads))

  and_reads : Reads (g.and inner).rule.spells (i.Part p.Conjunction ∷ [])
  unfolding g.and g.and_next alternatives
  and_reads = by_row p.Conjunction 0 refl (by_mapped (by_both 1 test_reads (by_many p.MoreAnd 2 refl refl refl (by_after refl test_reads))))

  or_reads : Reads (g.or inner).rule.spells (i.Part p.Expression ∷ [])
  unfolding g.or g.or_next alternatives
  or_reads = by_row p.Expression 0 refl (by_mapped (by_both 1 and_reads (by_many p.MoreOr 2 refl refl refl (by_after refl and_reads))))

expression_reads : (depth : ℕ) → Reads (g.expr depth).rule.spells (i.Part p.Expression ∷ [])
unfolding g.expr
expression_reads zero = record { read = λ front words a rest h more. absurd h }
expression_reads (suc depth) = or_reads (g.expr depth) (expression_reads depth)

-- ---- SELECT, INSERT, UPDATE and DELETE

returning_reads : Reads g.returning.spells (i.Part p.Returning ∷ [])
unfolding g.returning g.returned alternatives
returning_reads = by_perhaps p.Returning refl refl (by_after refl (by_either (by_row p.Returned 0 refl (by_mapped (by_token refl))) (by_row p.Returned 1 refl (by_mapped item_list_reads))))

columns_read : Reads g.columns_if_any.spells (i.Part p.ColumnsMaybe ∷ [])
unfolding g.columns_if_any alternatives
columns_read = by_perhaps p.ColumnsMaybe refl refl (by_after refl (by_mapped (by_both 2 distinct_names_read (by_token refl))))

module _ (inner : Cut tree_of expr_heads expr_more false) (whole : Reads inner.rule.spells (i.Part p.Expression ∷ [])) where
  select_reads : Reads (g.select inner).rule.spells (i.Part p.Select ∷ [])
  unfolding g.select
  select_reads = by_mapped (select_parts_read inner whole)

  tuple_reads : Reads (g.tuple inner).rule.spells (i.Part p.Tuple ∷ [])
  unfolding g.tuple alternatives
  tuple_reads = by_row p.Tuple 0 refl (by_after refl (by_mapped (by_both 2 (parts_read inner whole) (by_token refl))))

  more_tuples_read : Reads (Many (cut.with_comma (g.tuple inner)).rule.spells) (i.Part p.MoreTuples ∷ [])
  unfolding cut.with_comma alternatives
  more_tuples_read = by_many p.MoreTuples 2 refl refl refl (by_after refl tuple_reads)

  rows_read : Reads (g.proper_rows inner).rule.spells (drop 3 (take 7 (row p.Command 1)))
  unfolding g.proper_rows g.rows g.even_tuples g.tuples alternatives
  rows_read = by_checked (by_both 1 columns_read (by_after refl (by_checked (by_mapped (by_both 1 tuple_reads more_tuples_read)))))

  insert_reads : Reads (g.insert inner).rule.spells (row p.Command 1)
  unfolding g.insert alternatives
  insert_reads = by_mapped (by_after refl (by_after refl (by_both 1 name_reads (by_both 4 rows_read returning_reads))))

  set_column_reads : Reads (g.set_column inner).rule.spells (i.Part p.Assigned ∷ [])
  unfolding g.set_column alternatives
  set_column_reads = by_row p.Assigned 0 refl (by_mapped (by_both 1 name_reads (by_after refl whole)))

  more_columns_set_read : Reads (Many (cut.with_comma (g.set_column inner)).rule.spells) (i.Part p.MoreAssigned ∷ [])
  unfolding cut.with_comma alternatives
  more_columns_set_read = by_many p.MoreAssigned 2 refl refl refl (by_after refl set_column_reads)

  set_columns_read : Reads (g.set_columns inner).rule.spells (i.Part p.Assigned ∷ i.Part p.MoreAssigned ∷ [])
  unfolding g.set_columns g.all_set_columns
  set_columns_read = by_checked (by_mapped (by_both 1 set_column_reads more_columns_set_read))

  ending_reads : Reads (g.ending inner).rule.spells (i.Part p.Where ∷ i.Part p.Returning ∷ [])
  unfolding g.ending
  ending_reads = by_both 1 (where_reads inner whole) returning_reads

  update_reads : Reads (g.update inner).rule.spells (row p.Command 2)
  unfolding g.update alternatives
  update_reads = by_mapped (by_after refl (by_both 1 name_reads (by_after refl (by_both 2 set_columns_read ending_reads))))

  delete_reads : Reads (g.delete inner).rule.spells (row p.Command 3)
  unfolding g.delete alternatives
  delete_reads = by_mapped (by_after refl (by_after refl (by_both 1 name_reads ending_reads)))

-- ---- roles

attribute_reads : Reads g.attribute.spells (i.Part p.Attribute ∷ [])
unfolding g.attribute alternatives
attribute_reads = by_either (by_row p.Attribute 0 refl (by_mapped (by_token refl))) (by_either (by_row p.Attribute 1 refl (by_mapped (by_token refl))) (by_either (by_row p.Attribute 2 refl (by_mapped (by_token refl)))
    (by_either (by_row p.Attribute 3 refl (by_mapped (by_token refl))) (by_either (by_row p.Attribute 4 refl (by_mapped (by_token refl))) (by_row p.Attribute 5 refl (by_mapped (by_token refl)))))))

attributes_read : Reads g.attributes.spells (i.Part p.Attribute ∷ i.Part p.MoreAttributes ∷ [])
unfolding g.attributes g.first_and_more alternatives
attributes_read = by_checked (by_mapped (by_both 1 attribute_reads (by_many p.MoreAttributes 1 refl refl refl attribute_reads)))

with_reads : Reads (Perhaps (only (w.Word (codes "with")))) (i.Part p.With ∷ [])
unfolding alternatives
with_reads = by_perhaps p.With refl refl (by_token refl)

attributes_if_any_read : (is_user : Bool) → Reads (g.attributes_of_role is_user).spells (i.Part p.Attributes ∷ [])
unfolding g.attributes_of_role g.attributes_if_any alternatives
attributes_if_any_read is_user = by_mapped (by_perhaps p.Attributes refl refl (by_mapped (by_both 1 with_reads attributes_read)))

role_reads : (is_user : Bool) → Reads (g.role is_user).spells (i.Name ∷ i.Part p.Attributes ∷ [])
unfolding g.role
role_reads is_user = by_mapped (by_both 1 name_reads (attributes_if_any_read is_user))

altered_role_reads : Reads g.altered_role.spells (drop 1 (row p.Altered 0))
unfolding g.altered_role g.written_attributes alternatives
altered_role_reads = by_mapped (by_both 1 name_reads (by_mapped (by_mapped (by_both 1 with_reads attributes_read))))

-- ---- tables

column_type_reads : Reads g.column_type.spells (i.Part p.ColumnType ∷ [])
unfolding g.column_type alternatives
column_type_reads = by_either (by_row p.ColumnType 0 refl (by_mapped (by_token refl))) (by_either (by_row p.ColumnType 1 refl (by_mapped (by_token refl))) (by_either (by_row p.ColumnType 2 refl (by_mapped (by_token refl)))
    (by_either (by_row p.ColumnType 3 refl (by_mapped (by_token refl))) (by_either (by_row p.ColumnType 4 refl (by_mapped (by_token refl))) (by_row p.ColumnType 5 refl (by_mapped (by_token refl)))))))

mark_reads : Reads g.column_mark.spells (i.Part p.Mark ∷ [])
unfolding g.column_mark alternatives
mark_reads = by_either (by_row p.Mark 0 refl (by_mapped (by_after refl (by_token refl)))) (by_row p.Mark 1 refl (by_mapped (by_after refl (by_token refl))))

marks_read : Reads g.column_marks.spells (i.Part p.Marks ∷ [])
unfolding g.column_marks g.all_marks alternatives
marks_read = by_checked (by_many p.Marks 1 refl refl refl mark_reads)

definition_reads : Reads g.column_definition.spells (i.Part p.Definition ∷ [])
unfolding g.column_definition alternatives
definition_reads = by_row p.Definition 0 refl (by_mapped (by_both 2 (by_both 1 name_reads column_type_reads) marks_read))

key_reads : Reads (Perhaps (with_comma g.primary_key).spells) (i.Part p.Key ∷ [])
unfolding with_comma g.primary_key alternatives
key_reads = by_perhaps p.Key refl refl (by_after refl (by_after refl (by_after refl (by_after refl (by_mapped (by_both 2 distinct_names_read (by_token refl)))))))

more_columns_read : Reads (Many (with_comma g.column_definition).spells) (i.Part p.MoreColumns ∷ [])
unfolding with_comma alternatives
more_columns_read = by_many p.MoreColumns 2 refl refl refl (by_after refl definition_reads)

elements_read : Reads g.proper_elements.spells (i.Part p.Definition ∷ i.Part p.MoreColumns ∷ i.Part p.Key ∷ [])
unfolding g.proper_elements g.columns_and_key
elements_read = by_checked (by_mapped (by_both 2 (by_mapped (by_both 1 definition_reads more_columns_read)) key_reads))

table_reads : Reads g.table.spells (drop 1 (row p.Created 2))
unfolding g.table alternatives
table_reads = by_mapped (by_both 1 name_reads (by_after refl (by_mapped (by_both 3 elements_read (by_token refl)))))

row_change_reads : Reads g.row_change.spells (i.Part p.RowChange ∷ [])
unfolding g.row_change alternatives
row_change_reads = by_either (by_row p.RowChange 0 refl (by_mapped (by_token refl))) (by_either (by_row p.RowChange 1 refl (by_mapped (by_token refl)))
    (by_either (by_row p.RowChange 2 refl (by_mapped (by_token refl))) (by_row p.RowChange 3 refl (by_mapped (by_after refl (by_token refl))))))

altered_table_reads : Reads g.altered_table.spells (drop 1 (row p.Altered 1))
unfolding g.altered_table alternatives
altered_table_reads = by_mapped (by_both 1 name_reads (by_mapped (by_both 1 row_change_reads (by_after refl (by_after refl (by_token refl))))))

-- ---- policies

policy_on_reads : Reads g.policy_on.spells (take 3 (drop 2 (row p.Command 6)))
unfolding g.policy_on alternatives
policy_on_reads = by_both 1 name_reads (by_after refl name_reads)

permissive_reads : Reads g.permissive.spells (i.Part p.Permissive ∷ [])
unfolding g.permissive alternatives
permissive_reads = by_mapped (by_perhaps p.Permissive refl refl (by_after refl (by_either (by_row p.PermissiveWord 0 refl (by_mapped (by_token refl))) (by_row p.PermissiveWord 1 refl (by_mapped (by_token refl))))))

policy_kind_reads : Reads g.policy_kind.spells (i.Part p.PolicyKind ∷ [])
unfolding g.policy_kind g.command_type alternatives
policy_kind_reads = by_either (by_row p.PolicyKind 0 refl (by_mapped (by_token refl))) (by_mapped (by_either (by_row p.PolicyKind 1 refl (by_mapped (by_token refl))) (by_either (by_row p.PolicyKind 2 refl (by_mapped (by_token refl)))
    (by_either (by_row p.PolicyKind 3 refl (by_mapped (by_token refl))) (by_row p.PolicyKind 4 refl (by_mapped (by_token refl)))))))

for_reads : Reads g.for_commands.spells (i.Part p.For ∷ [])
unfolding g.for_commands alternatives
for_reads = by_mapped (by_perhaps p.For refl refl (by_after refl policy_kind_reads))

grantee_reads : Reads g.grantee.spells (i.Part p.Grantee ∷ [])
unfolding g.grantee alternatives
grantee_reads = by_either (by_row p.Grantee 0 refl (by_mapped (by_token refl))) (by_row p.Grantee 1 refl (by_mapped name_reads))

grantees_read : Reads g.grantees.spells (i.Part p.Grantee ∷ i.Part p.MoreGrantees ∷ [])
unfolding g.grantees with_comma alternatives
grantees_read = by_mapped (by_both 1 grantee_reads (by_many p.MoreGrantees 2 refl refl refl (by_after refl grantee_reads)))

to_grantees_read : Reads (Perhaps g.to_grantees.spells) (i.Part p.To ∷ [])
unfolding g.to_grantees alternatives
to_grantees_read = by_perhaps p.To refl refl (by_after refl grantees_read)

dropped_policy_reads : Reads g.dropped_policy.spells (row p.Command 6)
unfolding g.dropped_policy alternatives
dropped_policy_reads = by_mapped (by_after refl (by_after refl policy_on_reads))

module _ (inner : Cut tree_of expr_heads expr_more false) (whole : Reads inner.rule.spells (i.Part p.Expression ∷ [])) where
  using_reads : Reads (g.using inner).rule.spells (i.Part p.Using ∷ [])
  unfolding g.using g.parenthesized alternatives
  using_reads = by_perhaps p.Using refl refl (by_after refl (by_after refl (by_mapped (by_both 1 whole (by_token refl)))))

  check_reads : Reads (g.check inner).rule.spells (i.Part p.Check ∷ [])
  unfolding g.check g.parenthesized alternatives
  check_reads = by_perhaps p.Check refl refl (by_after refl (by_after refl (by_after refl (by_mapped (by_both 1 whole (by_token refl))))))

  conditions_read : Reads (g.conditions inner).rule.spells (i.Part p.Using ∷ i.Part p.Check ∷ [])
  unfolding g.conditions
  conditions_read = by_both 1 using_reads check_reads

  description_reads : Reads (g.proper_description inner).rule.spells (drop 4 (row p.Created 3))
  unfolding g.proper_description g.description g.policy_options g.for_grantees g.to_grantees alternatives
  description_reads = by_checked (by_both 2 (by_both 1 permissive_reads for_reads) (by_both 1 (by_mapped to_grantees_read) conditions_read))

  policy_reads : Reads (g.policy inner).rule.spells (drop 1 (row p.Created 3))
  unfolding g.policy alternatives
  policy_reads = by_mapped (by_both 3 policy_on_reads description_reads)

  altered_policy_reads : Reads (g.altered_policy inner).rule.spells (drop 1 (row p.Altered 2))
  unfolding g.altered_policy g.proper_change g.policy_change g.grantees_if_any alternatives
  altered_policy_reads = by_mapped (by_both 3 policy_on_reads (by_checked (by_both 1 to_grantees_read conditions_read)))

  create_reads : Reads (g.create inner).rule.spells (row p.Command 4)
  unfolding g.create alternatives
  create_reads = by_after refl (by_either (by_row p.Created 0 refl (by_after refl (role_reads false))) (by_either (by_row p.Created 1 refl (by_after refl (role_reads true)))
      (by_either (by_row p.Created 2 refl (by_after refl table_reads)) (by_row p.Created 3 refl (by_after refl policy_reads)))))

  alter_reads : Reads (g.alter inner).rule.spells (row p.Command 5)
  unfolding g.alter alternatives
  alter_reads = by_after refl (by_either (by_row p.Altered 0 refl (by_after refl altered_role_reads)) (by_either (by_row p.Altered 1 refl (by_after refl altered_table_reads)) (by_row p.Altered 2 refl (by_after refl altered_policy_reads))))

-- ---- GRANT and REVOKE

column_list_reads : Reads g.column_list.spells (i.Part p.ColumnsMaybe ∷ [])
unfolding g.column_list alternatives
column_list_reads = by_perhaps p.ColumnsMaybe refl refl (by_after refl (by_mapped (by_both 2 names_read (by_token refl))))

privilege_reads : Reads g.privilege.spells (i.Part p.Privilege ∷ [])
unfolding g.privilege g.column_privilege alternatives
privilege_reads = by_either (by_row p.Privilege 0 refl (by_both 1 (by_either (by_row p.ColumnPrivilege 0 refl (by_mapped (by_token refl))) (by_either (by_row p.ColumnPrivilege 1 refl (by_mapped (by_token refl)))
    (by_row p.ColumnPrivilege 2 refl (by_mapped (by_token refl))))) column_list_reads)) (by_row p.Privilege 1 refl (by_mapped (by_mapped (by_token refl))))

privileges_read : Reads g.privileges.spells (i.Part p.Privileges ∷ [])
unfolding g.privileges g.table_privileges g.all_privileges g.named_privileges g.privilege_list with_comma alternatives
privileges_read = by_checked (by_either (by_row p.Privileges 0 refl (by_mapped (by_after refl (by_mapped (by_both 1 (by_perhaps p.PrivilegesWord refl refl (by_token refl)) column_list_reads)))))
    (by_row p.Privileges 1 refl (by_mapped (by_mapped (by_both 1 privilege_reads (by_many p.MorePrivileges 2 refl refl refl (by_after refl privilege_reads)))))))

privileges_on_read : Reads g.privileges_on.spells (take 4 (row p.Granted 0))
unfolding g.privileges_on g.table_name alternatives
privileges_on_read = by_both 1 privileges_read (by_after refl (by_mapped (by_both 1 (by_perhaps p.Table refl refl (by_token refl)) name_reads)))

granted_privileges_read : Reads g.granted_privileges.spells (row p.Granted 0)
unfolding g.granted_privileges g.granted_to g.to_grantees g.with_option alternatives
granted_privileges_read = by_mapped (by_both 4 privileges_on_read (by_both 3 (by_after refl grantees_read) (by_mapped (by_perhaps p.GrantOption refl refl (by_after refl (by_after refl (by_token refl)))))))

cascade_reads : Reads g.cascade.spells (i.Part p.Cascade ∷ [])
unfolding g.cascade alternatives
cascade_reads = by_mapped (by_perhaps p.Cascade refl refl (by_either (by_row p.CascadeWord 0 refl (by_mapped (by_token refl))) (by_row p.CascadeWord 1 refl (by_mapped (by_token refl)))))

revoked_privileges_read : Reads g.revoked_privileges.spells (row p.Revoked 0)
unfolding g.revoked_privileges g.option_only g.revoked_from alternatives
revoked_privileges_read = by_mapped (by_both 1 (by_mapped (by_perhaps p.GrantOptionFor refl refl (by_after refl (by_after refl (by_token refl))))) (by_both 4 privileges_on_read (by_after refl (by_both 2 grantees_read cascade_reads))))

option_reads : Reads g.option.spells (i.Part p.MembershipOption ∷ [])
unfolding g.option alternatives
option_reads = by_either (by_row p.MembershipOption 0 refl (by_mapped (by_token refl))) (by_either (by_row p.MembershipOption 1 refl (by_mapped (by_token refl))) (by_row p.MembershipOption 2 refl (by_mapped (by_token refl))))

setting_reads : Reads g.setting.spells (i.Part p.MembershipOption ∷ i.Part p.Flag ∷ [])
unfolding g.setting g.flag alternatives
setting_reads = by_both 1 option_reads (by_either (by_row p.Flag 0 refl (by_mapped (by_token refl))) (by_either (by_row p.Flag 1 refl (by_mapped (by_token refl))) (by_row p.Flag 2 refl (by_mapped (by_token refl)))))

settings_read : Reads g.settings.spells (drop 1 (row p.Settings 1))
unfolding g.settings g.all_settings with_comma alternatives
settings_read = by_checked (by_mapped (by_both 2 setting_reads (by_many p.MoreSettings 3 refl refl refl (by_after refl setting_reads))))

options_read : Reads g.options.spells (i.Part p.Settings ∷ [])
unfolding g.options g.settings_if_any alternatives
options_read = by_mapped (by_perhaps p.Settings refl refl (by_after refl settings_read))

granted_roles_read : Reads g.granted_roles.spells (row p.Granted 1)
unfolding g.granted_roles alternatives
granted_roles_read = by_mapped (by_both 2 names_read (by_after refl (by_both 2 names_read options_read)))

grant_reads : Reads g.grant.spells (row p.Command 7)
unfolding g.grant alternatives
grant_reads = by_after refl (by_either (by_row p.Granted 0 refl granted_privileges_read) (by_row p.Granted 1 refl granted_roles_read))

roles_from_read : Reads g.roles_from.spells (row p.Revoked 2)
unfolding g.roles_from alternatives
roles_from_read = by_both 2 names_read (by_after refl (by_both 2 names_read cascade_reads))

revoked_option_reads : Reads g.revoked_option.spells (row p.Revoked 1)
unfolding g.revoked_option g.option_for alternatives
revoked_option_reads = by_mapped (by_both 3 (by_mapped (by_both 1 option_reads (by_after refl (by_token refl)))) roles_from_read)

revoke_reads : Reads g.revoke.spells (row p.Command 8)
unfolding g.revoke g.revoked_memberships g.revoked_roles alternatives
revoke_reads = by_after refl (by_either (by_row p.Revoked 0 refl revoked_privileges_read) (by_either (by_row p.Revoked 1 refl revoked_option_reads) (by_row p.Revoked 2 refl (by_mapped roles_from_read))))

-- ---- SET ROLE

chosen_role_reads : Reads g.chosen_role.spells (i.Part p.ChosenRole ∷ [])
unfolding g.chosen_role alternatives
chosen_role_reads = by_either (by_row p.ChosenRole 0 refl (by_mapped (by_token refl))) (by_row p.ChosenRole 1 refl (by_mapped name_reads))

set_role_reads : Reads g.set_role.spells (i.Part p.Command ∷ [])
unfolding g.set_role g.role_change g.role_set g.role_reset alternatives
set_role_reads = by_mapped (by_either (by_row p.Command 9 refl (by_after refl (by_after refl chosen_role_reads))) (by_row p.Command 10 refl (by_mapped (by_after refl (by_token refl)))))

-- ---- statements

body_reads : (inner : Cut tree_of expr_heads expr_more false) → Reads inner.rule.spells (i.Part p.Expression ∷ []) → Reads (g.body inner).rule.spells (i.Part p.Command ∷ [])
unfolding g.body g.flat_body alternatives
body_reads inner whole = by_either (by_row p.Command 0 refl (select_reads inner whole)) (by_either (by_row p.Command 1 refl (insert_reads inner whole)) (by_either (by_row p.Command 2 refl (update_reads inner whole))
    (by_either (by_row p.Command 3 refl (delete_reads inner whole)) (by_either (by_row p.Command 4 refl (create_reads inner whole)) (by_either (by_row p.Command 5 refl (alter_reads inner whole))
    (by_either (by_row p.Command 6 refl dropped_policy_reads) (by_either (by_row p.Command 7 refl grant_reads) (by_either (by_row p.Command 8 refl revoke_reads) set_role_reads))))))))

semicolon_reads : Reads (Perhaps (only (w.Symbol s.Semicolon))) (i.Part p.Semicolon ∷ [])
unfolding alternatives
semicolon_reads = by_perhaps p.Semicolon refl refl (by_token refl)

pub statement_reads : (depth : ℕ) → Reads (g.statement depth).rule.spells (i.Part p.Command ∷ i.Part p.Semicolon ∷ [])
unfolding g.statement
statement_reads depth = by_mapped (by_both 1 (body_reads (g.expr depth) (expression_reads depth)) semicolon_reads)

-- ---- blocks

mode_reads : Reads b.mode.spells (i.Part p.Mode ∷ [])
unfolding b.mode b.isolation b.access alternatives
mode_reads = by_either (by_row p.Mode 0 refl (by_mapped (by_after refl (by_after refl (by_token refl)))))
    (by_row p.Mode 1 refl (by_mapped (by_after refl (by_either (by_row p.Access 0 refl (by_mapped (by_token refl))) (by_row p.Access 1 refl (by_mapped (by_token refl)))))))

modes_read : Reads b.access_mode.spells (i.Part p.Modes ∷ [])
unfolding b.access_mode b.modes b.first_and_more b.next_mode alternatives
modes_read = by_mapped (by_perhaps p.Modes refl refl (by_checked (by_mapped (by_both 1 mode_reads (by_many p.MoreModes 2 refl refl refl (by_mapped (by_both 1 (by_perhaps p.Comma refl refl (by_token refl)) mode_reads)))))))

work_reads : Reads b.work.spells (i.Part p.Work ∷ [])
unfolding b.work alternatives
work_reads = by_mapped (by_perhaps p.Work refl refl (by_either (by_row p.WorkWord 0 refl (by_token refl)) (by_row p.WorkWord 1 refl (by_token refl))))

begin_reads : Reads b.begin.spells (i.Part p.Command ∷ [])
unfolding b.begin b.begun_or_started b.begun b.started alternatives
begin_reads = by_mapped (by_either (by_row p.Command 11 refl (by_after refl (by_mapped (by_both 1 work_reads modes_read)))) (by_row p.Command 12 refl (by_after refl (by_after refl modes_read))))

commit_reads : Reads b.commit.spells (i.Part p.Command ∷ [])
unfolding b.commit alternatives
commit_reads = by_row p.Command 13 refl (by_mapped (by_mapped (by_both 1 (by_either (by_row p.CommitWord 0 refl (by_token refl)) (by_row p.CommitWord 1 refl (by_token refl))) work_reads)))

rollback_reads : Reads b.rollback.spells (i.Part p.Command ∷ [])
unfolding b.rollback alternatives
rollback_reads = by_row p.Command 14 refl (by_mapped (by_mapped (by_both 1 (by_either (by_row p.RollbackWord 0 refl (by_token refl)) (by_row p.RollbackWord 1 refl (by_token refl))) work_reads)))

transaction_reads : Reads b.transaction.spells start
unfolding b.transaction b.bare_transaction
transaction_reads = by_mapped (by_both 1 (by_either begin_reads (by_either commit_reads rollback_reads)) semicolon_reads)

spells_reads : Reads g.Spells start
spells_reads = record { read = λ front words a rest h more. (statement_reads h.depth).read front words a rest h.spelled more }

command_reads : Reads SpellsCommand start
command_reads = by_either transaction_reads (by_mapped spells_reads)

append_none : {A : Type 0} (xs : List A) → xs ++ [] ≡ xs
append_none [] = refl
append_none (x ∷ xs) = ap (λ ys. x ∷ ys) (append_none xs)

-- What spells a command is taken to its end.
pub spelled_taken : (words : List TextToken) (command : Command) → SpellsCommand words command → fault_of (map seen words) ≡ None
unfolding fault_in
spelled_taken words command h =
    let leads : Leads start words = subst (λ ws. Leads start ws) (append_none words) (command_reads.read words [] command [] h nothing_leads) in
    leads_from start words 0 (start ∷ []) leads (inl refl)
