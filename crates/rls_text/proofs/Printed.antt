-- What is written for a statement spells it, and is read back; an example of each statement.
use Rattle.std.specs.Prelude.{◌≡◌, ℕ, true, false, pos, negsuc, List, [], ◌∷◌, ◌++◌, Some, None, codes, refl}
use Rattle.rls_value.specs.{Names.reserved, declared.value.Value.Value, declared.value.ColType.ColType, declared.verb.Kind.Kind, declared.verb.PolicyKind.PolicyKind}
use Rattle.rls_expr.specs.{Terms.Term, Terms.Query, declared.expr.Comparison.Comparison, declared.expr.Selects.Selects, declared.expr.Sign.Sign, declared.policy.Grantee.Grantee}
use Rattle.rls_expr.specs.Terms as e
use Rattle.rls_statement.specs.{declared.statement.MembershipOption.MembershipOption, declared.statement.Statement.Statement, declared.statement.RowSecurity.RowSecurity, declared.statement.Selected.Selected, declared.statement.SetRole.SetRole}
use Rattle.rls_statement.specs.declared.statement.Statement.TheVariants as st
use Rattle.rls_text.specs.declared.token.Symbol.TheVariants as s
use Rattle.rls_text.specs.{declared.token.Token.Token, Cutting.tree_with_depth_of, Parses.read_many, Rule.with_comma, Elements.with_element, Values.with_privilege, Gives.whole_of, Printing.IsWritten, declared.token.Token.TheVariants.Word, declared.token.Token.TheVariants.Number, declared.token.Token.TheVariants.Text, declared.token.Token.TheVariants.Bad}
use Rattle.rls_text.specs.declared.token.Token.TheVariants as t
use Rattle.rls_text.specs.Cut as cut
use Rattle.rls_text.specs.Grammar as g
use Rattle.rls_text.proofs.Laws.{whole_spelled}

-- What is written for an expression is read back.
pub printed_is_read : (depth : ℕ) (a : Term) (ts : List Token) → (g.expr depth).rule.prints.writes a ≡ Some ts → (g.expr depth).rule.parses.read (ts ++ []) ≡ Some (a, [])
printed_is_read depth a ts h = (g.expr depth).rule.parses.complete ts [] a ((g.expr depth).rule.prints.wrote a ts h) refl

-- What is written for a statement spells it.
pub statement_spelled : (ts : List Token) (x : Statement) → IsWritten ts x → g.Spells ts x
statement_spelled ts x h = record { depth = h.depth; spelled = (g.statement h.depth).rule.prints.wrote x ts h.written }

-- What is written for a statement is read back.
pub statement_read : (ts : List Token) (x : Statement) → IsWritten ts x → whole_of ts ≡ Some (tree_with_depth_of x)
statement_read ts x h = whole_spelled ts x (statement_spelled ts x h)

-- a column without a qualifier
abbrev pub column : List ℕ → Term
column name = e.Column record { qualifier = None; name = name }

-- a column with one
abbrev pub qualified : (qualifier name : List ℕ) → Term
qualified qualifier name = e.Column record { qualifier = Some qualifier; name = name }

-- (a = -5) IS NULL AND NOT (NOT b)
abbrev pub example : Term
example = e.And (e.More (e.IsNull (e.Compare Comparison.Equal (column (codes "a")) (e.Literal (Value.Int (negsuc 4))))) (e.More (e.Not (e.Not (column (codes "b")))) e.End))

written : (g.expr 6).rule.prints.writes example ≡ Some
    (t.Symbol s.LParen ∷ t.Symbol s.LParen ∷ Word (codes "a") ∷ t.Symbol s.Equal ∷ t.Symbol s.Minus ∷ Number 5 ∷ t.Symbol s.RParen ∷ Word (codes "is") ∷ Word (codes "null") ∷ t.Symbol s.RParen
    ∷ Word (codes "and") ∷ t.Symbol s.LParen ∷ Word (codes "not") ∷ t.Symbol s.LParen ∷ Word (codes "not") ∷ Word (codes "b") ∷ t.Symbol s.RParen ∷ t.Symbol s.RParen ∷ [])
unfolding reserved g.expr g.or g.or_next g.and g.and_next g.not_ g.nots g.is g.null_test g.cmp g.memb g.sum g.comparison g.prim g.exists g.enclosed g.scalar g.item g.column g.behind_dot g.name g.literal g.constant g.text g.number g.digits
written = refl

-- (a - -5 + b) NOT IN (1, NOT b) = (c IN (d))
abbrev pub list_example : Term
list_example = e.Compare Comparison.Equal
    (e.NotInList (e.Sum (Sign.Minus ∷ Sign.Plus ∷ []) (e.More (column (codes "a")) (e.More (e.Literal (Value.Int (negsuc 4))) (e.More (column (codes "b")) e.End)))) (e.More (e.Literal (Value.Int (pos 1))) (e.More (e.Not (column (codes "b"))) e.End)))
    (e.InList (column (codes "c")) (e.More (column (codes "d")) e.End))

list_written : (g.expr 6).rule.prints.writes list_example ≡ Some
    (t.Symbol s.LParen ∷ t.Symbol s.LParen ∷ Word (codes "a") ∷ t.Symbol s.Minus ∷ t.Symbol s.Minus ∷ Number 5 ∷ t.Symbol s.Plus ∷ Word (codes "b") ∷ t.Symbol s.RParen ∷ Word (codes "not") ∷ Word (codes "in")
    ∷ t.Symbol s.LParen ∷ Number 1 ∷ t.Symbol s.Comma ∷ Word (codes "not") ∷ Word (codes "b") ∷ t.Symbol s.RParen ∷ t.Symbol s.RParen ∷ t.Symbol s.Equal
    ∷ t.Symbol s.LParen ∷ Word (codes "c") ∷ Word (codes "in") ∷ t.Symbol s.LParen ∷ Word (codes "d") ∷ t.Symbol s.RParen ∷ t.Symbol s.RParen ∷ [])
unfolding reserved g.sum_next g.part_sign g.in_choices g.enclosed_choices g.choices g.in_word g.parts cut.with_comma g.expr g.or g.or_next g.and g.and_next g.not_ g.nots g.is g.null_test g.cmp g.memb g.sum g.comparison g.prim g.exists g.enclosed g.scalar g.item g.column g.behind_dot g.name g.literal g.constant g.text g.number g.digits
list_written = refl

-- Behind an operand a minus is the sum's: a - 5.
sign_read : (g.expr 1).rule.parses.read (Word (codes "a") ∷ t.Symbol s.Minus ∷ Number 5 ∷ []) ≡ Some (e.Sum (Sign.Minus ∷ []) (e.More (column (codes "a")) (e.More (e.Literal (Value.Int (pos 5))) e.End)), [])
unfolding reserved read_many g.sum_next g.part_sign g.expr g.or g.or_next g.and g.and_next g.not_ g.nots g.is g.null_test g.cmp g.memb g.sum g.comparison g.prim g.exists g.enclosed g.scalar g.item g.column g.behind_dot g.name g.literal g.constant g.text g.number g.digits
sign_read = refl

-- So the number has none in a - 9223372036854775808, and is out of range.
number_over : (g.expr 1).rule.parses.read (Word (codes "a") ∷ t.Symbol s.Minus ∷ Number 9223372036854775808 ∷ []) ≡ None
unfolding reserved read_many g.sum_next g.part_sign g.expr g.or g.or_next g.and g.and_next g.not_ g.nots g.is g.null_test g.cmp g.memb g.sum g.comparison g.prim g.exists g.enclosed g.scalar g.item g.column g.behind_dot g.name g.literal g.constant g.text g.number g.digits
number_over = refl

-- The list behind IN isn't empty.
list_empty : (g.expr 1).rule.parses.read (Word (codes "a") ∷ Word (codes "in") ∷ t.Symbol s.LParen ∷ t.Symbol s.RParen ∷ []) ≡ None
unfolding reserved read_many g.in_choices g.enclosed_choices g.choices g.in_word g.parts cut.with_comma g.expr g.or g.or_next g.and g.and_next g.not_ g.nots g.is g.null_test g.cmp g.memb g.sum g.comparison g.prim g.exists g.enclosed g.scalar g.item g.column g.behind_dot g.name g.literal g.constant g.text g.number g.digits
list_empty = refl

-- SELECT * FROM u, of which the key isn't resolved
abbrev pub all_of : List ℕ → Query
all_of table = e.Select record { table = table; alias = None } [] Selects.All e.End e.End

-- EXISTS (SELECT * FROM u AS w WHERE w.a = (SELECT COUNT(*) FROM v)), where neither gets further parentheses
abbrev pub query_example : Term
query_example = e.Exists (e.Select record { table = codes "u"; alias = Some (codes "w") } [] Selects.All e.End
    (e.More (e.Compare Comparison.Equal (qualified (codes "w") (codes "a")) (e.Scalar (e.Select record { table = codes "v"; alias = None } [] Selects.Count e.End e.End))) e.End))

query_written : (g.expr 3).rule.prints.writes query_example ≡ Some
    (Word (codes "exists") ∷ t.Symbol s.LParen ∷ Word (codes "select") ∷ t.Symbol s.Star ∷ Word (codes "from") ∷ Word (codes "u") ∷ Word (codes "as") ∷ Word (codes "w")
    ∷ Word (codes "where") ∷ Word (codes "w") ∷ t.Symbol s.Dot ∷ Word (codes "a") ∷ t.Symbol s.Equal
    ∷ t.Symbol s.LParen ∷ Word (codes "select") ∷ Word (codes "count") ∷ t.Symbol s.LParen ∷ t.Symbol s.Star ∷ t.Symbol s.RParen ∷ Word (codes "from") ∷ Word (codes "v") ∷ t.Symbol s.RParen ∷ t.Symbol s.RParen ∷ [])
unfolding reserved g.select_parts g.items g.count g.selected_items g.item_list g.from_table g.alias_if_any g.alias g.condition with_comma g.expr g.or g.or_next g.and g.and_next g.not_ g.nots g.is g.null_test g.cmp g.memb g.sum g.comparison g.prim g.exists g.enclosed g.scalar g.item g.column g.behind_dot g.name g.literal g.constant g.text g.number g.digits
query_written = refl

-- NOT EXISTS (SELECT * FROM u) AND a NOT IN (SELECT b, 1 FROM v)
abbrev pub within_example : Term
within_example = e.And (e.More (e.Not (e.Exists (all_of (codes "u"))))
    (e.More (e.NotInSubquery (column (codes "a")) (e.Select record { table = codes "v"; alias = None } [] Selects.Items (e.More (column (codes "b")) (e.More (e.Literal (Value.Int (pos 1))) e.End)) e.End)) e.End))

within_written : (g.expr 3).rule.prints.writes within_example ≡ Some
    (t.Symbol s.LParen ∷ Word (codes "not") ∷ Word (codes "exists") ∷ t.Symbol s.LParen ∷ Word (codes "select") ∷ t.Symbol s.Star ∷ Word (codes "from") ∷ Word (codes "u") ∷ t.Symbol s.RParen ∷ t.Symbol s.RParen ∷ Word (codes "and")
    ∷ t.Symbol s.LParen ∷ Word (codes "a") ∷ Word (codes "not") ∷ Word (codes "in") ∷ t.Symbol s.LParen ∷ Word (codes "select") ∷ Word (codes "b") ∷ t.Symbol s.Comma ∷ Number 1 ∷ Word (codes "from") ∷ Word (codes "v") ∷ t.Symbol s.RParen ∷ t.Symbol s.RParen ∷ [])
unfolding reserved g.in_choices g.enclosed_choices g.choices g.in_word g.parts g.select_parts g.items g.count g.selected_items g.item_list g.from_table g.alias_if_any g.alias g.condition with_comma g.expr g.or g.or_next g.and g.and_next g.not_ g.nots g.is g.null_test g.cmp g.memb g.sum g.comparison g.prim g.exists g.enclosed g.scalar g.item g.column g.behind_dot g.name g.literal g.constant g.text g.number g.digits
within_written = refl

-- A subquery of which the key is resolved isn't written.
placed_not_written : (g.expr 2).rule.prints.writes (e.Exists (e.Select record { table = codes "u"; alias = None } (0 ∷ []) Selects.All e.End e.End)) ≡ None
unfolding reserved g.select_parts g.items g.count g.selected_items g.item_list g.from_table g.alias_if_any g.alias g.condition with_comma g.expr g.or g.or_next g.and g.and_next g.not_ g.nots g.is g.null_test g.cmp g.memb g.sum g.comparison g.prim g.exists g.enclosed g.scalar g.item g.column g.behind_dot g.name g.literal g.constant g.text g.number g.digits
placed_not_written = refl

-- In the list behind IN a subquery stands in parentheses: a IN ((SELECT * FROM u)).
listed_read : (g.expr 2).rule.parses.read (Word (codes "a") ∷ Word (codes "in") ∷ t.Symbol s.LParen ∷ t.Symbol s.LParen ∷ Word (codes "select") ∷ t.Symbol s.Star ∷ Word (codes "from") ∷ Word (codes "u") ∷ t.Symbol s.RParen ∷ t.Symbol s.RParen ∷ []) ≡ Some
    (e.InList (column (codes "a")) (e.More (e.Scalar (all_of (codes "u"))) e.End), [])
unfolding reserved read_many g.in_choices g.enclosed_choices g.choices g.in_word g.parts cut.with_comma g.sum_next g.part_sign g.select_parts g.items g.count g.selected_items g.item_list g.from_table g.alias_if_any g.alias g.condition with_comma g.expr g.or g.or_next g.and g.and_next g.not_ g.nots g.is g.null_test g.cmp g.memb g.sum g.comparison g.prim g.exists g.enclosed g.scalar g.item g.column g.behind_dot g.name g.literal g.constant g.text g.number g.digits
listed_read = refl

-- EXISTS has one pair of parentheses.
exists_twice : (g.expr 2).rule.parses.read (Word (codes "exists") ∷ t.Symbol s.LParen ∷ t.Symbol s.LParen ∷ Word (codes "select") ∷ t.Symbol s.Star ∷ Word (codes "from") ∷ Word (codes "u") ∷ t.Symbol s.RParen ∷ t.Symbol s.RParen ∷ []) ≡ None
unfolding reserved read_many g.select_parts g.items g.count g.selected_items g.item_list g.from_table g.alias_if_any g.alias g.condition with_comma g.expr g.or g.or_next g.and g.and_next g.not_ g.nots g.is g.null_test g.cmp g.memb g.sum g.comparison g.prim g.exists g.enclosed g.scalar g.item g.column g.behind_dot g.name g.literal g.constant g.text g.number g.digits
exists_twice = refl

-- SELECT a, b FROM t WHERE a
select_written : (g.statement 2).rule.prints.writes (st.Select record { items = Selected.Items (column (codes "a") ∷ column (codes "b") ∷ []); table = codes "t"; alias = None; condition = Some (column (codes "a")) }) ≡ Some
    (Word (codes "select") ∷ Word (codes "a") ∷ t.Symbol s.Comma ∷ Word (codes "b") ∷ Word (codes "from") ∷ Word (codes "t") ∷ Word (codes "where") ∷ Word (codes "a") ∷ [])
unfolding reserved g.statement g.body g.select g.select_parts g.items g.count g.selected_items g.item_list g.from_table g.alias_if_any g.alias g.condition with_comma g.expr g.or g.or_next g.and g.and_next g.not_ g.nots g.is g.null_test g.cmp g.memb g.sum g.comparison g.prim g.exists g.enclosed g.scalar g.item g.column g.behind_dot g.name g.literal g.constant g.text g.number g.digits
select_written = refl

-- SELECT COUNT(*) FROM t WHERE a
count_written : (g.statement 2).rule.prints.writes (st.Select record { items = Selected.Count; table = codes "t"; alias = None; condition = Some (column (codes "a")) }) ≡ Some
    (Word (codes "select") ∷ Word (codes "count") ∷ t.Symbol s.LParen ∷ t.Symbol s.Star ∷ t.Symbol s.RParen ∷ Word (codes "from") ∷ Word (codes "t") ∷ Word (codes "where") ∷ Word (codes "a") ∷ [])
unfolding reserved g.statement g.body g.select g.select_parts g.items g.count g.from_table g.alias_if_any g.alias g.condition g.expr g.or g.or_next g.and g.and_next g.not_ g.nots g.is g.null_test g.cmp g.memb g.sum g.comparison g.prim g.exists g.enclosed g.scalar g.item g.column g.behind_dot g.name g.literal g.constant g.text g.number g.digits
count_written = refl

-- SELECT -5, 'x', NULL, CURRENT_USER, a FROM t
items_written : (g.statement 1).rule.prints.writes (st.Select record { items = Selected.Items (e.Literal (Value.Int (negsuc 4)) ∷ e.Literal (Value.Text (codes "x")) ∷ e.Literal Value.Null ∷ e.CurrentUser ∷ column (codes "a") ∷ []); table = codes "t"; alias = None; condition = None }) ≡ Some
    (Word (codes "select") ∷ t.Symbol s.Minus ∷ Number 5 ∷ t.Symbol s.Comma ∷ Text (codes "x") ∷ t.Symbol s.Comma ∷ Word (codes "null") ∷ t.Symbol s.Comma ∷ Word (codes "current_user") ∷ t.Symbol s.Comma ∷ Word (codes "a") ∷ Word (codes "from") ∷ Word (codes "t") ∷ [])
unfolding reserved g.statement g.body g.select g.select_parts g.items g.count g.selected_items g.item_list g.item g.column g.behind_dot g.from_table g.alias_if_any g.alias g.condition with_comma g.name g.literal g.constant g.text g.number g.digits
items_written = refl

-- SELECT t.a, b FROM t WHERE t.a = t.b + b
qualified_written : (g.statement 3).rule.prints.writes (st.Select record {
  items = Selected.Items (qualified (codes "t") (codes "a") ∷ column (codes "b") ∷ []);
  table = codes "t";
  alias = None;
  condition = Some (e.Compare Comparison.Equal (qualified (codes "t") (codes "a")) (e.Sum (Sign.Plus ∷ []) (e.More (qualified (codes "t") (codes "b")) (e.More (column (codes "b")) e.End))));
}) ≡ Some
    (Word (codes "select") ∷ Word (codes "t") ∷ t.Symbol s.Dot ∷ Word (codes "a") ∷ t.Symbol s.Comma ∷ Word (codes "b") ∷ Word (codes "from") ∷ Word (codes "t")
    ∷ Word (codes "where") ∷ Word (codes "t") ∷ t.Symbol s.Dot ∷ Word (codes "a") ∷ t.Symbol s.Equal ∷ t.Symbol s.LParen ∷ Word (codes "t") ∷ t.Symbol s.Dot ∷ Word (codes "b") ∷ t.Symbol s.Plus ∷ Word (codes "b") ∷ t.Symbol s.RParen ∷ [])
unfolding reserved g.statement g.body g.select g.select_parts g.items g.count g.selected_items g.item_list g.from_table g.alias_if_any g.alias g.condition with_comma g.sum_next g.part_sign g.expr g.or g.or_next g.and g.and_next g.not_ g.nots g.is g.null_test g.cmp g.memb g.sum g.comparison g.prim g.exists g.enclosed g.scalar g.item g.column g.behind_dot g.name g.literal g.constant g.text g.number g.digits
qualified_written = refl

-- SELECT u.a FROM t AS u
alias_written : (g.statement 1).rule.prints.writes (st.Select record { items = Selected.Items (qualified (codes "u") (codes "a") ∷ []); table = codes "t"; alias = Some (codes "u"); condition = None }) ≡ Some
    (Word (codes "select") ∷ Word (codes "u") ∷ t.Symbol s.Dot ∷ Word (codes "a") ∷ Word (codes "from") ∷ Word (codes "t") ∷ Word (codes "as") ∷ Word (codes "u") ∷ [])
unfolding reserved g.statement g.body g.select g.select_parts g.items g.count g.selected_items g.item_list g.item g.column g.behind_dot g.from_table g.alias_if_any g.alias g.condition with_comma g.name g.literal g.constant g.text g.number g.digits
alias_written = refl

-- INSERT INTO t VALUES (-1, NOT b)
insert_written : (g.statement 2).rule.prints.writes (st.Insert record { table = codes "t"; columns = None; tuples = (e.Literal (Value.Int (negsuc 0)) ∷ e.Not (column (codes "b")) ∷ []) ∷ []; returning = None }) ≡ Some
    (Word (codes "insert") ∷ Word (codes "into") ∷ Word (codes "t") ∷ Word (codes "values") ∷ t.Symbol s.LParen ∷ t.Symbol s.Minus ∷ Number 1 ∷ t.Symbol s.Comma ∷ Word (codes "not") ∷ Word (codes "b") ∷ t.Symbol s.RParen ∷ [])
unfolding reserved g.statement g.body g.select g.insert g.proper_rows g.rows g.columns_if_any g.distinct_names g.names g.even_tuples g.tuples g.tuple g.parts g.returning g.returned g.item_list with_comma cut.with_comma g.expr g.or g.or_next g.and g.and_next g.not_ g.nots g.is g.null_test g.cmp g.memb g.sum g.comparison g.prim g.exists g.enclosed g.scalar g.item g.column g.behind_dot g.name g.literal g.constant g.text g.number g.digits
insert_written = refl

-- INSERT INTO t (a, b) VALUES (1, 2) RETURNING a
insert_columns_written : (g.statement 2).rule.prints.writes (st.Insert record { table = codes "t"; columns = Some (codes "a" ∷ codes "b" ∷ []); tuples = (e.Literal (Value.Int (pos 1)) ∷ e.Literal (Value.Int (pos 2)) ∷ []) ∷ []; returning = Some (Selected.Items (column (codes "a") ∷ [])) }) ≡ Some
    (Word (codes "insert") ∷ Word (codes "into") ∷ Word (codes "t") ∷ t.Symbol s.LParen ∷ Word (codes "a") ∷ t.Symbol s.Comma ∷ Word (codes "b") ∷ t.Symbol s.RParen ∷ Word (codes "values") ∷ t.Symbol s.LParen ∷ Number 1 ∷ t.Symbol s.Comma ∷ Number 2 ∷ t.Symbol s.RParen ∷ Word (codes "returning") ∷ Word (codes "a") ∷ [])
unfolding reserved g.statement g.body g.select g.insert g.proper_rows g.rows g.columns_if_any g.distinct_names g.names g.even_tuples g.tuples g.tuple g.parts g.returning g.returned g.item_list with_comma cut.with_comma g.expr g.or g.or_next g.and g.and_next g.not_ g.nots g.is g.null_test g.cmp g.memb g.sum g.comparison g.prim g.exists g.enclosed g.scalar g.item g.column g.behind_dot g.name g.literal g.constant g.text g.number g.digits
insert_columns_written = refl

-- UPDATE t SET a = 1, b = NOT c WHERE a = 2 RETURNING *
update_written : (g.statement 2).rule.prints.writes (st.Update record {
  table = codes "t";
  assignments = record { column = codes "a"; value = e.Literal (Value.Int (pos 1)) } ∷ record { column = codes "b"; value = e.Not (column (codes "c")) } ∷ [];
  condition = Some (e.Compare Comparison.Equal (column (codes "a")) (e.Literal (Value.Int (pos 2))));
  returning = Some Selected.All;
}) ≡ Some
    (Word (codes "update") ∷ Word (codes "t") ∷ Word (codes "set") ∷ Word (codes "a") ∷ t.Symbol s.Equal ∷ Number 1 ∷ t.Symbol s.Comma ∷ Word (codes "b") ∷ t.Symbol s.Equal ∷ Word (codes "not") ∷ Word (codes "c") ∷ Word (codes "where") ∷ Word (codes "a") ∷ t.Symbol s.Equal ∷ Number 2 ∷ Word (codes "returning") ∷ t.Symbol s.Star ∷ [])
unfolding reserved g.statement g.body g.select g.insert g.update g.set_columns g.all_set_columns g.set_column g.ending g.condition g.returning g.returned g.item_list with_comma cut.with_comma g.expr g.or g.or_next g.and g.and_next g.not_ g.nots g.is g.null_test g.cmp g.memb g.sum g.comparison g.prim g.exists g.enclosed g.scalar g.item g.column g.behind_dot g.name g.literal g.constant g.text g.number g.digits
update_written = refl

-- UPDATE t SET a = a + 1, b = (c - 1) NOT IN (a + 2, d) WHERE c IN (1, 2) RETURNING *
update_list_written : (g.statement 3).rule.prints.writes (st.Update record {
  table = codes "t";
  assignments = record { column = codes "a"; value = e.Sum (Sign.Plus ∷ []) (e.More (column (codes "a")) (e.More (e.Literal (Value.Int (pos 1))) e.End)) } ∷ record {
    column = codes "b";
    value = e.NotInList (e.Sum (Sign.Minus ∷ []) (e.More (column (codes "c")) (e.More (e.Literal (Value.Int (pos 1))) e.End)))
        (e.More (e.Sum (Sign.Plus ∷ []) (e.More (column (codes "a")) (e.More (e.Literal (Value.Int (pos 2))) e.End))) (e.More (column (codes "d")) e.End));
  } ∷ [];
  condition = Some (e.InList (column (codes "c")) (e.More (e.Literal (Value.Int (pos 1))) (e.More (e.Literal (Value.Int (pos 2))) e.End)));
  returning = Some Selected.All;
}) ≡ Some
    (Word (codes "update") ∷ Word (codes "t") ∷ Word (codes "set") ∷ Word (codes "a") ∷ t.Symbol s.Equal ∷ Word (codes "a") ∷ t.Symbol s.Plus ∷ Number 1 ∷ t.Symbol s.Comma ∷ Word (codes "b") ∷ t.Symbol s.Equal
    ∷ t.Symbol s.LParen ∷ Word (codes "c") ∷ t.Symbol s.Minus ∷ Number 1 ∷ t.Symbol s.RParen ∷ Word (codes "not") ∷ Word (codes "in") ∷ t.Symbol s.LParen ∷ Word (codes "a") ∷ t.Symbol s.Plus ∷ Number 2 ∷ t.Symbol s.Comma ∷ Word (codes "d") ∷ t.Symbol s.RParen
    ∷ Word (codes "where") ∷ Word (codes "c") ∷ Word (codes "in") ∷ t.Symbol s.LParen ∷ Number 1 ∷ t.Symbol s.Comma ∷ Number 2 ∷ t.Symbol s.RParen ∷ Word (codes "returning") ∷ t.Symbol s.Star ∷ [])
unfolding reserved g.statement g.body g.select g.insert g.update g.set_columns g.all_set_columns g.set_column g.ending g.condition g.returning g.returned g.item_list with_comma cut.with_comma g.sum_next g.part_sign g.in_choices g.enclosed_choices g.choices g.in_word g.parts g.expr g.or g.or_next g.and g.and_next g.not_ g.nots g.is g.null_test g.cmp g.memb g.sum g.comparison g.prim g.exists g.enclosed g.scalar g.item g.column g.behind_dot g.name g.literal g.constant g.text g.number g.digits
update_list_written = refl

-- DELETE FROM t WHERE NOT a RETURNING b, c
delete_written : (g.statement 2).rule.prints.writes (st.Delete record { table = codes "t"; condition = Some (e.Not (column (codes "a"))); returning = Some (Selected.Items (column (codes "b") ∷ column (codes "c") ∷ [])) }) ≡ Some
    (Word (codes "delete") ∷ Word (codes "from") ∷ Word (codes "t") ∷ Word (codes "where") ∷ Word (codes "not") ∷ Word (codes "a") ∷ Word (codes "returning") ∷ Word (codes "b") ∷ t.Symbol s.Comma ∷ Word (codes "c") ∷ [])
unfolding reserved g.statement g.body g.select g.insert g.update g.delete g.ending g.condition g.returning g.returned g.item_list with_comma g.expr g.or g.or_next g.and g.and_next g.not_ g.nots g.is g.null_test g.cmp g.memb g.sum g.comparison g.prim g.exists g.enclosed g.scalar g.item g.column g.behind_dot g.name g.literal g.constant g.text g.number g.digits
delete_written = refl

-- COUNT(*) isn't written behind RETURNING.
count_not_returned : g.returning.prints.writes (Some Selected.Count) ≡ None
unfolding g.returning g.returned
count_not_returned = refl

-- CREATE ROLE x NOSUPERUSER BYPASSRLS
role_written : (g.statement 1).rule.prints.writes (st.CreateRole record { name = codes "x"; attributes = record { superuser = Some false; login = None; bypass_rls = Some true } }) ≡ Some
    (Word (codes "create") ∷ Word (codes "role") ∷ Word (codes "x") ∷ Word (codes "nosuperuser") ∷ Word (codes "bypassrls") ∷ [])
unfolding reserved g.statement g.body g.select g.insert g.update g.delete g.create g.role g.name g.attributes_of_role g.attributes_if_any g.attributes g.first_and_more g.attribute
role_written = refl

-- CREATE TABLE t (a INTEGER NOT NULL, b BOOLEAN, PRIMARY KEY (b, a))
table_written : (g.statement 1).rule.prints.writes (st.CreateTable record {
  name = codes "t";
  columns = record { column = record { name = codes "a"; kind = ColType.Integer; not_null = true }; is_key = false } ∷ record { column = record { name = codes "b"; kind = ColType.Boolean; not_null = false }; is_key = false } ∷ [];
  key = Some (codes "b" ∷ codes "a" ∷ []);
}) ≡ Some
    (Word (codes "create") ∷ Word (codes "table") ∷ Word (codes "t") ∷ t.Symbol s.LParen ∷ Word (codes "a") ∷ Word (codes "integer") ∷ Word (codes "not") ∷ Word (codes "null") ∷ t.Symbol s.Comma ∷ Word (codes "b") ∷ Word (codes "boolean") ∷ t.Symbol s.Comma
    ∷ Word (codes "primary") ∷ Word (codes "key") ∷ t.Symbol s.LParen ∷ Word (codes "b") ∷ t.Symbol s.Comma ∷ Word (codes "a") ∷ t.Symbol s.RParen ∷ t.Symbol s.RParen ∷ [])
unfolding reserved g.statement g.body g.select g.insert g.update g.delete g.create g.role g.table g.proper_elements g.columns_and_key g.listed_elements g.table_elements g.table_element g.column_definition g.column_type g.column_marks g.all_marks g.column_mark g.primary_key g.distinct_names g.names with_comma g.name
table_written = refl

-- CREATE TABLE t (a TEXT NOT NULL PRIMARY KEY)
marks_written : (g.statement 1).rule.prints.writes (st.CreateTable record { name = codes "t"; columns = record { column = record { name = codes "a"; kind = ColType.Text; not_null = true }; is_key = true } ∷ []; key = None }) ≡ Some
    (Word (codes "create") ∷ Word (codes "table") ∷ Word (codes "t") ∷ t.Symbol s.LParen ∷ Word (codes "a") ∷ Word (codes "text") ∷ Word (codes "not") ∷ Word (codes "null") ∷ Word (codes "primary") ∷ Word (codes "key") ∷ t.Symbol s.RParen ∷ [])
unfolding reserved g.statement g.body g.select g.insert g.update g.delete g.create g.role g.table g.proper_elements g.columns_and_key g.listed_elements g.table_elements g.table_element g.column_definition g.column_type g.column_marks g.all_marks g.column_mark with_comma g.name
marks_written = refl

-- ALTER TABLE t ENABLE ROW LEVEL SECURITY
alter_written : (g.statement 1).rule.prints.writes (st.AlterTable record { table = codes "t"; change = RowSecurity.Enable }) ≡ Some
    (Word (codes "alter") ∷ Word (codes "table") ∷ Word (codes "t") ∷ Word (codes "enable") ∷ Word (codes "row") ∷ Word (codes "level") ∷ Word (codes "security") ∷ [])
unfolding reserved g.statement g.body g.select g.insert g.update g.delete g.create g.role g.table g.policy g.alter g.altered_role g.altered_table g.row_change g.name
alter_written = refl

-- ALTER TABLE t NO FORCE ROW LEVEL SECURITY
no_force_written : (g.statement 1).rule.prints.writes (st.AlterTable record { table = codes "t"; change = RowSecurity.NoForce }) ≡ Some
    (Word (codes "alter") ∷ Word (codes "table") ∷ Word (codes "t") ∷ Word (codes "no") ∷ Word (codes "force") ∷ Word (codes "row") ∷ Word (codes "level") ∷ Word (codes "security") ∷ [])
unfolding reserved g.statement g.body g.select g.insert g.update g.delete g.create g.role g.table g.policy g.alter g.altered_role g.altered_table g.row_change g.name
no_force_written = refl

-- CREATE POLICY p ON t AS PERMISSIVE FOR ALL TO PUBLIC WITH CHECK (a)
policy_written : (g.statement 2).rule.prints.writes (st.CreatePolicy record { table = codes "t"; policy = record { name = codes "p"; permissive = true; kind = PolicyKind.All; to = Grantee.Public ∷ []; using = None; check = Some (column (codes "a")) } }) ≡ Some
    (Word (codes "create") ∷ Word (codes "policy") ∷ Word (codes "p") ∷ Word (codes "on") ∷ Word (codes "t") ∷ Word (codes "as") ∷ Word (codes "permissive") ∷ Word (codes "for") ∷ Word (codes "all") ∷ Word (codes "to") ∷ Word (codes "public")
    ∷ Word (codes "with") ∷ Word (codes "check") ∷ t.Symbol s.LParen ∷ Word (codes "a") ∷ t.Symbol s.RParen ∷ [])
unfolding reserved g.statement g.body g.select g.insert g.update g.delete g.create g.role g.table g.policy g.proper_description g.description g.policy_on g.policy_options g.permissive g.for_commands g.policy_kind g.command_type g.for_grantees g.to_grantees g.grantees g.grantee g.conditions g.using g.check g.parenthesized with_comma g.expr g.or g.or_next g.and g.and_next g.not_ g.nots g.is g.null_test g.cmp g.memb g.sum g.comparison g.prim g.exists g.enclosed g.scalar g.item g.column g.behind_dot g.name g.literal g.constant g.text g.number g.digits
policy_written = refl

-- CREATE POLICY p ON t AS RESTRICTIVE FOR DELETE TO r USING (a)
restrictive_written : (g.statement 2).rule.prints.writes (st.CreatePolicy record { table = codes "t"; policy = record { name = codes "p"; permissive = false; kind = PolicyKind.Only Kind.Delete; to = Grantee.Role (codes "r") ∷ []; using = Some (column (codes "a")); check = None } }) ≡ Some
    (Word (codes "create") ∷ Word (codes "policy") ∷ Word (codes "p") ∷ Word (codes "on") ∷ Word (codes "t") ∷ Word (codes "as") ∷ Word (codes "restrictive") ∷ Word (codes "for") ∷ Word (codes "delete") ∷ Word (codes "to") ∷ Word (codes "r")
    ∷ Word (codes "using") ∷ t.Symbol s.LParen ∷ Word (codes "a") ∷ t.Symbol s.RParen ∷ [])
unfolding reserved g.statement g.body g.select g.insert g.update g.delete g.create g.role g.table g.policy g.proper_description g.description g.policy_on g.policy_options g.permissive g.for_commands g.policy_kind g.command_type g.for_grantees g.to_grantees g.grantees g.grantee g.conditions g.using g.check g.parenthesized with_comma g.expr g.or g.or_next g.and g.and_next g.not_ g.nots g.is g.null_test g.cmp g.memb g.sum g.comparison g.prim g.exists g.enclosed g.scalar g.item g.column g.behind_dot g.name g.literal g.constant g.text g.number g.digits
restrictive_written = refl

-- ALTER POLICY p ON t TO r, PUBLIC WITH CHECK (a)
altered_policy_written : (g.statement 2).rule.prints.writes (st.AlterPolicy record { name = codes "p"; table = codes "t"; to = Some (Grantee.Role (codes "r") ∷ Grantee.Public ∷ []); using = None; check = Some (column (codes "a")) }) ≡ Some
    (Word (codes "alter") ∷ Word (codes "policy") ∷ Word (codes "p") ∷ Word (codes "on") ∷ Word (codes "t") ∷ Word (codes "to") ∷ Word (codes "r") ∷ t.Symbol s.Comma ∷ Word (codes "public")
    ∷ Word (codes "with") ∷ Word (codes "check") ∷ t.Symbol s.LParen ∷ Word (codes "a") ∷ t.Symbol s.RParen ∷ [])
unfolding reserved g.statement g.body g.select g.insert g.update g.delete g.create g.role g.table g.policy g.alter g.altered_role g.altered_table g.altered_policy g.policy_on g.proper_change g.policy_change g.grantees_if_any g.to_grantees g.grantees g.grantee g.conditions g.using g.check g.parenthesized with_comma g.expr g.or g.or_next g.and g.and_next g.not_ g.nots g.is g.null_test g.cmp g.memb g.sum g.comparison g.prim g.exists g.enclosed g.scalar g.item g.column g.behind_dot g.name g.literal g.constant g.text g.number g.digits
altered_policy_written = refl

-- DROP POLICY p ON t
dropped_policy_written : (g.statement 1).rule.prints.writes (st.DropPolicy record { name = codes "p"; table = codes "t" }) ≡ Some
    (Word (codes "drop") ∷ Word (codes "policy") ∷ Word (codes "p") ∷ Word (codes "on") ∷ Word (codes "t") ∷ [])
unfolding reserved g.statement g.body g.select g.insert g.update g.delete g.create g.role g.table g.policy g.alter g.altered_role g.altered_table g.altered_policy g.flat_body g.dropped_policy g.policy_on g.name
dropped_policy_written = refl

-- GRANT INSERT, DELETE ON t TO r, PUBLIC
grant_written : (g.statement 1).rule.prints.writes (st.Grant record { privileges = record { select = record { whole = false; columns = [] }; insert = record { whole = true; columns = [] }; update = record { whole = false; columns = [] }; delete = true }; table = codes "t"; to = Grantee.Role (codes "r") ∷ Grantee.Public ∷ []; with_option = false }) ≡ Some
    (Word (codes "grant") ∷ Word (codes "insert") ∷ t.Symbol s.Comma ∷ Word (codes "delete") ∷ Word (codes "on") ∷ Word (codes "t") ∷ Word (codes "to") ∷ Word (codes "r") ∷ t.Symbol s.Comma ∷ Word (codes "public") ∷ [])
unfolding reserved g.statement g.body g.select g.insert g.update g.delete g.create g.role g.table g.policy g.alter g.altered_role g.altered_table g.altered_policy g.flat_body g.dropped_policy g.grant g.granted_privileges g.privileges_on g.privileges g.table_privileges g.all_privileges g.named_privileges g.privilege_list g.privilege g.column_privilege g.column_list g.table_name g.granted_to g.to_grantees g.grantees g.grantee g.with_option with_comma g.name
grant_written = refl

-- GRANT ALL ON t TO r WITH GRANT OPTION
grant_option_written : (g.statement 1).rule.prints.writes (st.Grant record { privileges = record { select = record { whole = true; columns = [] }; insert = record { whole = true; columns = [] }; update = record { whole = true; columns = [] }; delete = true }; table = codes "t"; to = Grantee.Role (codes "r") ∷ []; with_option = true }) ≡ Some
    (Word (codes "grant") ∷ Word (codes "all") ∷ Word (codes "on") ∷ Word (codes "t") ∷ Word (codes "to") ∷ Word (codes "r") ∷ Word (codes "with") ∷ Word (codes "grant") ∷ Word (codes "option") ∷ [])
unfolding reserved g.statement g.body g.select g.insert g.update g.delete g.create g.role g.table g.policy g.alter g.altered_role g.altered_table g.altered_policy g.flat_body g.dropped_policy g.grant g.granted_privileges g.privileges_on g.privileges g.table_privileges g.all_privileges g.named_privileges g.privilege_list g.privilege g.column_privilege g.column_list g.table_name g.granted_to g.to_grantees g.grantees g.grantee g.with_option with_comma g.name
grant_option_written = refl

-- GRANT SELECT, SELECT (b, a), INSERT (a), DELETE ON t TO r: the whole table before the columns, which stand as they are written
grant_columns_written : (g.statement 1).rule.prints.writes (st.Grant record { privileges = record { select = record { whole = true; columns = codes "b" ∷ codes "a" ∷ [] }; insert = record { whole = false; columns = codes "a" ∷ [] }; update = record { whole = false; columns = [] }; delete = true }; table = codes "t"; to = Grantee.Role (codes "r") ∷ []; with_option = false }) ≡ Some
    (Word (codes "grant") ∷ Word (codes "select") ∷ t.Symbol s.Comma ∷ Word (codes "select") ∷ t.Symbol s.LParen ∷ Word (codes "b") ∷ t.Symbol s.Comma ∷ Word (codes "a") ∷ t.Symbol s.RParen ∷ t.Symbol s.Comma ∷ Word (codes "insert") ∷ t.Symbol s.LParen ∷ Word (codes "a") ∷ t.Symbol s.RParen ∷ t.Symbol s.Comma ∷ Word (codes "delete") ∷ Word (codes "on") ∷ Word (codes "t") ∷ Word (codes "to") ∷ Word (codes "r") ∷ [])
unfolding reserved g.statement g.body g.select g.insert g.update g.delete g.create g.role g.table g.policy g.alter g.altered_role g.altered_table g.altered_policy g.flat_body g.dropped_policy g.grant g.granted_privileges g.privileges_on g.privileges g.table_privileges g.all_privileges g.named_privileges g.privilege_list g.privilege g.column_privilege g.column_list g.table_name g.granted_to g.to_grantees g.grantees g.grantee g.with_option with_comma g.names g.name
grant_columns_written = refl

-- GRANT ALL (a) ON t TO r is written as the three
grant_all_columns_written : (g.statement 1).rule.prints.writes (st.Grant record { privileges = record { select = record { whole = false; columns = codes "a" ∷ [] }; insert = record { whole = false; columns = codes "a" ∷ [] }; update = record { whole = false; columns = codes "a" ∷ [] }; delete = false }; table = codes "t"; to = Grantee.Role (codes "r") ∷ []; with_option = false }) ≡ Some
    (Word (codes "grant") ∷ Word (codes "select") ∷ t.Symbol s.LParen ∷ Word (codes "a") ∷ t.Symbol s.RParen ∷ t.Symbol s.Comma ∷ Word (codes "insert") ∷ t.Symbol s.LParen ∷ Word (codes "a") ∷ t.Symbol s.RParen ∷ t.Symbol s.Comma ∷ Word (codes "update") ∷ t.Symbol s.LParen ∷ Word (codes "a") ∷ t.Symbol s.RParen ∷ Word (codes "on") ∷ Word (codes "t") ∷ Word (codes "to") ∷ Word (codes "r") ∷ [])
unfolding reserved g.statement g.body g.select g.insert g.update g.delete g.create g.role g.table g.policy g.alter g.altered_role g.altered_table g.altered_policy g.flat_body g.dropped_policy g.grant g.granted_privileges g.privileges_on g.privileges g.table_privileges g.all_privileges g.named_privileges g.privilege_list g.privilege g.column_privilege g.column_list g.table_name g.granted_to g.to_grantees g.grantees g.grantee g.with_option with_comma g.names g.name
grant_all_columns_written = refl

-- beside a list of columns ALL isn't written
grant_all_beside_columns_written : (g.statement 1).rule.prints.writes (st.Grant record { privileges = record { select = record { whole = true; columns = codes "a" ∷ [] }; insert = record { whole = true; columns = [] }; update = record { whole = true; columns = [] }; delete = true }; table = codes "t"; to = Grantee.Role (codes "r") ∷ []; with_option = false }) ≡ Some
    (Word (codes "grant") ∷ Word (codes "select") ∷ t.Symbol s.Comma ∷ Word (codes "select") ∷ t.Symbol s.LParen ∷ Word (codes "a") ∷ t.Symbol s.RParen ∷ t.Symbol s.Comma ∷ Word (codes "insert") ∷ t.Symbol s.Comma ∷ Word (codes "update") ∷ t.Symbol s.Comma ∷ Word (codes "delete") ∷ Word (codes "on") ∷ Word (codes "t") ∷ Word (codes "to") ∷ Word (codes "r") ∷ [])
unfolding reserved g.statement g.body g.select g.insert g.update g.delete g.create g.role g.table g.policy g.alter g.altered_role g.altered_table g.altered_policy g.flat_body g.dropped_policy g.grant g.granted_privileges g.privileges_on g.privileges g.table_privileges g.all_privileges g.named_privileges g.privilege_list g.privilege g.column_privilege g.column_list g.table_name g.granted_to g.to_grantees g.grantees g.grantee g.with_option with_comma g.names g.name
grant_all_beside_columns_written = refl

-- REVOKE SELECT ON t FROM r; RESTRICT isn't written
revoke_written : (g.statement 1).rule.prints.writes (st.Revoke record { option_only = false; privileges = record { select = record { whole = true; columns = [] }; insert = record { whole = false; columns = [] }; update = record { whole = false; columns = [] }; delete = false }; table = codes "t"; from = Grantee.Role (codes "r") ∷ []; cascade = false }) ≡ Some
    (Word (codes "revoke") ∷ Word (codes "select") ∷ Word (codes "on") ∷ Word (codes "t") ∷ Word (codes "from") ∷ Word (codes "r") ∷ [])
unfolding reserved g.statement g.body g.select g.insert g.update g.delete g.create g.role g.table g.policy g.alter g.altered_role g.altered_table g.altered_policy g.flat_body g.dropped_policy g.grant g.granted_privileges g.granted_roles g.revoke g.revoked_privileges g.option_only g.privileges_on g.privileges g.table_privileges g.all_privileges g.named_privileges g.privilege_list g.privilege g.column_privilege g.column_list g.table_name g.revoked_from g.grantees g.grantee g.cascade with_comma g.name
revoke_written = refl

-- REVOKE GRANT OPTION FOR UPDATE ON t FROM PUBLIC CASCADE
revoke_option_written : (g.statement 1).rule.prints.writes (st.Revoke record { option_only = true; privileges = record { select = record { whole = false; columns = [] }; insert = record { whole = false; columns = [] }; update = record { whole = true; columns = [] }; delete = false }; table = codes "t"; from = Grantee.Public ∷ []; cascade = true }) ≡ Some
    (Word (codes "revoke") ∷ Word (codes "grant") ∷ Word (codes "option") ∷ Word (codes "for") ∷ Word (codes "update") ∷ Word (codes "on") ∷ Word (codes "t") ∷ Word (codes "from") ∷ Word (codes "public") ∷ Word (codes "cascade") ∷ [])
unfolding reserved g.statement g.body g.select g.insert g.update g.delete g.create g.role g.table g.policy g.alter g.altered_role g.altered_table g.altered_policy g.flat_body g.dropped_policy g.grant g.granted_privileges g.granted_roles g.revoke g.revoked_privileges g.option_only g.privileges_on g.privileges g.table_privileges g.all_privileges g.named_privileges g.privilege_list g.privilege g.column_privilege g.column_list g.table_name g.revoked_from g.grantees g.grantee g.cascade with_comma g.name
revoke_option_written = refl

-- ALTER ROLE x LOGIN NOBYPASSRLS
alter_role_written : (g.statement 1).rule.prints.writes (st.AlterRole record { name = codes "x"; attributes = record { superuser = None; login = Some true; bypass_rls = Some false } }) ≡ Some
    (Word (codes "alter") ∷ Word (codes "role") ∷ Word (codes "x") ∷ Word (codes "login") ∷ Word (codes "nobypassrls") ∷ [])
unfolding reserved g.statement g.body g.select g.insert g.update g.delete g.create g.role g.table g.policy g.alter g.altered_role g.altered_table g.written_attributes g.attributes g.first_and_more g.attribute g.name
alter_role_written = refl

-- GRANT a, b TO c WITH ADMIN TRUE, SET FALSE
grant_roles_written : (g.statement 1).rule.prints.writes (st.GrantRoles record { roles = codes "a" ∷ codes "b" ∷ []; to = codes "c" ∷ []; options = record { admin = Some true; inherit = None; set = Some false } }) ≡ Some
    (Word (codes "grant") ∷ Word (codes "a") ∷ t.Symbol s.Comma ∷ Word (codes "b") ∷ Word (codes "to") ∷ Word (codes "c") ∷ Word (codes "with")
    ∷ Word (codes "admin") ∷ Word (codes "true") ∷ t.Symbol s.Comma ∷ Word (codes "set") ∷ Word (codes "false") ∷ [])
unfolding reserved g.statement g.body g.select g.insert g.update g.delete g.create g.role g.table g.policy g.alter g.altered_role g.altered_table g.altered_policy g.flat_body g.dropped_policy g.grant g.granted_privileges g.granted_roles g.names g.options g.settings_if_any g.settings g.all_settings g.setting g.option g.flag with_comma g.name
grant_roles_written = refl

-- REVOKE ADMIN OPTION FOR a FROM b, c CASCADE
revoke_roles_written : (g.statement 1).rule.prints.writes (st.RevokeRoles record { option = Some MembershipOption.Admin; roles = codes "a" ∷ []; from = codes "b" ∷ codes "c" ∷ []; cascade = true }) ≡ Some
    (Word (codes "revoke") ∷ Word (codes "admin") ∷ Word (codes "option") ∷ Word (codes "for") ∷ Word (codes "a") ∷ Word (codes "from") ∷ Word (codes "b") ∷ t.Symbol s.Comma ∷ Word (codes "c") ∷ Word (codes "cascade") ∷ [])
unfolding reserved g.statement g.body g.select g.insert g.update g.delete g.create g.role g.table g.policy g.alter g.altered_role g.altered_table g.altered_policy g.flat_body g.dropped_policy g.grant g.granted_privileges g.granted_roles g.revoke g.revoked_privileges g.revoked_memberships g.revoked_option g.option_for g.option g.roles_from g.cascade g.names with_comma g.name
revoke_roles_written = refl

-- SET ROLE NONE, and RESET ROLE
set_role_written : (g.statement 1).rule.prints.writes (st.SetRole SetRole.None) ≡ Some (Word (codes "set") ∷ Word (codes "role") ∷ Word (codes "none") ∷ [])
unfolding reserved g.statement g.body g.select g.insert g.update g.delete g.create g.role g.table g.policy g.alter g.altered_role g.altered_table g.altered_policy g.flat_body g.dropped_policy g.grant g.granted_privileges g.granted_roles g.revoke g.revoked_privileges g.revoked_memberships g.revoked_option g.revoked_roles g.set_role g.role_change g.role_set g.role_reset g.chosen_role
set_role_written = refl

reset_role_written : (g.statement 1).rule.prints.writes (st.SetRole SetRole.Reset) ≡ Some (Word (codes "reset") ∷ Word (codes "role") ∷ [])
unfolding reserved g.statement g.body g.select g.insert g.update g.delete g.create g.role g.table g.policy g.alter g.altered_role g.altered_table g.altered_policy g.flat_body g.dropped_policy g.grant g.granted_privileges g.granted_roles g.revoke g.revoked_privileges g.revoked_memberships g.revoked_option g.revoked_roles g.set_role g.role_change g.role_set g.role_reset g.chosen_role g.name
reset_role_written = refl

-- SELECT (b), INSERT, SELECT (a) is of b and a, in this order
lists_are_joined : g.privileges_on.parses.read (Word (codes "select") ∷ t.Symbol s.LParen ∷ Word (codes "b") ∷ t.Symbol s.RParen ∷ t.Symbol s.Comma ∷ Word (codes "insert") ∷ t.Symbol s.Comma ∷ Word (codes "select") ∷ t.Symbol s.LParen ∷ Word (codes "a") ∷ t.Symbol s.RParen ∷ Word (codes "on") ∷ Word (codes "t") ∷ []) ≡ Some ((record { select = record { whole = false; columns = codes "b" ∷ codes "a" ∷ [] }; insert = record { whole = true; columns = [] }; update = record { whole = false; columns = [] }; delete = false }, codes "t"), [])
unfolding reserved read_many g.privileges_on g.privileges g.table_privileges g.all_privileges g.named_privileges g.privilege_list g.privilege g.column_privilege g.column_list g.table_name with_privilege with_comma g.names g.name
lists_are_joined = refl

-- ALL PRIVILEGES (a) is of the three
all_of_columns : g.privileges_on.parses.read (Word (codes "all") ∷ Word (codes "privileges") ∷ t.Symbol s.LParen ∷ Word (codes "a") ∷ t.Symbol s.RParen ∷ Word (codes "on") ∷ Word (codes "t") ∷ []) ≡ Some ((record { select = record { whole = false; columns = codes "a" ∷ [] }; insert = record { whole = false; columns = codes "a" ∷ [] }; update = record { whole = false; columns = codes "a" ∷ [] }; delete = false }, codes "t"), [])
unfolding reserved read_many g.privileges_on g.privileges g.table_privileges g.all_privileges g.named_privileges g.privilege_list g.privilege g.column_privilege g.column_list g.table_name with_privilege with_comma g.names g.name
all_of_columns = refl

-- SELECT (a), SELECT (a) is nothing
granted_twice : g.privileges_on.parses.read (Word (codes "select") ∷ t.Symbol s.LParen ∷ Word (codes "a") ∷ t.Symbol s.RParen ∷ t.Symbol s.Comma ∷ Word (codes "select") ∷ t.Symbol s.LParen ∷ Word (codes "a") ∷ t.Symbol s.RParen ∷ Word (codes "on") ∷ Word (codes "t") ∷ []) ≡ None
unfolding reserved read_many g.privileges_on g.privileges g.table_privileges g.all_privileges g.named_privileges g.privilege_list g.privilege g.column_privilege g.column_list g.table_name with_privilege with_comma g.names g.name
granted_twice = refl

-- DELETE (a) is nothing,
delete_of_columns : g.privileges_on.parses.read (Word (codes "delete") ∷ t.Symbol s.LParen ∷ Word (codes "a") ∷ t.Symbol s.RParen ∷ Word (codes "on") ∷ Word (codes "t") ∷ []) ≡ None
unfolding reserved read_many g.privileges_on g.privileges g.table_privileges g.all_privileges g.named_privileges g.privilege_list g.privilege g.column_privilege g.column_list g.table_name with_privilege with_comma g.names g.name
delete_of_columns = refl

-- nor is ALL, SELECT
all_beside_others : g.privileges_on.parses.read (Word (codes "all") ∷ t.Symbol s.Comma ∷ Word (codes "select") ∷ Word (codes "on") ∷ Word (codes "t") ∷ []) ≡ None
unfolding reserved read_many g.privileges_on g.privileges g.table_privileges g.all_privileges g.named_privileges g.privilege_list g.privilege g.column_privilege g.column_list g.table_name with_privilege with_comma g.names g.name
all_beside_others = refl

-- GRANT insert TO r WITH INHERIT OPTION is of a role called insert, and OPTION is TRUE.
insert_is_a_role : g.grant.parses.read (Word (codes "grant") ∷ Word (codes "insert") ∷ Word (codes "to") ∷ Word (codes "r") ∷ Word (codes "with") ∷ Word (codes "inherit") ∷ Word (codes "option") ∷ []) ≡ Some
    (st.GrantRoles record { roles = codes "insert" ∷ []; to = codes "r" ∷ []; options = record { admin = None; inherit = Some true; set = None } }, [])
unfolding reserved read_many g.grant g.granted_roles g.names g.options g.settings_if_any g.settings g.all_settings g.setting g.option g.flag with_comma g.name
insert_is_a_role = refl

-- REVOKE admin FROM r CASCADE is of a role called admin.
admin_is_a_role : g.revoke.parses.read (Word (codes "revoke") ∷ Word (codes "admin") ∷ Word (codes "from") ∷ Word (codes "r") ∷ Word (codes "cascade") ∷ []) ≡ Some
    (st.RevokeRoles record { option = None; roles = codes "admin" ∷ []; from = codes "r" ∷ []; cascade = true }, [])
unfolding reserved read_many g.revoke g.revoked_memberships g.revoked_roles g.roles_from g.cascade g.names with_comma g.name
admin_is_a_role = refl

-- REVOKE select FROM r is nothing, since SELECT is reserved and so no role.
select_is_no_role : g.revoke.parses.read (Word (codes "revoke") ∷ Word (codes "select") ∷ Word (codes "from") ∷ Word (codes "r") ∷ []) ≡ None
unfolding reserved read_many g.revoke g.revoked_memberships g.revoked_roles g.roles_from g.cascade g.names with_comma g.name
select_is_no_role = refl

-- REVOKE DELETE ON TABLE t FROM restrict RESTRICT is from a role called restrict, without CASCADE.
restrict_is_a_role : g.revoke.parses.read (Word (codes "revoke") ∷ Word (codes "delete") ∷ Word (codes "on") ∷ Word (codes "table") ∷ Word (codes "t") ∷ Word (codes "from") ∷ Word (codes "restrict") ∷ Word (codes "restrict") ∷ []) ≡ Some
    (st.Revoke record { option_only = false; privileges = record { select = record { whole = false; columns = [] }; insert = record { whole = false; columns = [] }; update = record { whole = false; columns = [] }; delete = true }; table = codes "t"; from = Grantee.Role (codes "restrict") ∷ []; cascade = false }, [])
unfolding reserved read_many g.revoke g.revoked_privileges g.option_only g.privileges_on g.privileges g.table_privileges g.all_privileges g.named_privileges g.privilege_list g.privilege g.column_privilege g.column_list g.table_name g.revoked_from g.grantees g.grantee g.cascade with_privilege with_comma g.name
restrict_is_a_role = refl

-- SELECT count selects a column of that name, and COUNT (a) is nothing.
count_is_a_column : g.items.parses.read (Word (codes "count") ∷ Word (codes "from") ∷ []) ≡ Some (Selected.Items (column (codes "count") ∷ []), Word (codes "from") ∷ [])
unfolding reserved read_many g.items g.selected_items g.item_list g.item g.column g.behind_dot with_comma g.name g.literal g.constant g.text g.number g.digits
count_is_a_column = refl

count_of_a_column : g.items.parses.read (Word (codes "count") ∷ t.Symbol s.LParen ∷ Word (codes "a") ∷ t.Symbol s.RParen ∷ []) ≡ None
unfolding g.items g.count
count_of_a_column = refl

-- Behind a qualifier stands one name.
qualified_twice : g.items.parses.read (Word (codes "a") ∷ t.Symbol s.Dot ∷ Word (codes "b") ∷ t.Symbol s.Dot ∷ Word (codes "c") ∷ []) ≡ Some (Selected.Items (qualified (codes "a") (codes "b") ∷ []), t.Symbol s.Dot ∷ Word (codes "c") ∷ [])
unfolding reserved read_many g.items g.selected_items g.item_list g.item g.column g.behind_dot with_comma g.name g.literal g.constant g.text g.number g.digits
qualified_twice = refl

-- AS may be left out.
alias_read : g.from_table.parses.read (Word (codes "from") ∷ Word (codes "t") ∷ Word (codes "u") ∷ Word (codes "where") ∷ []) ≡ Some ((codes "t", Some (codes "u")), Word (codes "where") ∷ [])
unfolding reserved g.from_table g.alias_if_any g.alias g.name
alias_read = refl

-- A reserved word is no alias.
no_alias_read : g.from_table.parses.read (Word (codes "from") ∷ Word (codes "t") ∷ Word (codes "as") ∷ Word (codes "where") ∷ []) ≡ None
unfolding reserved g.from_table g.alias_if_any g.alias g.name
no_alias_read = refl

-- An expression is no item.
negation_is_no_item : g.items.parses.read (Word (codes "not") ∷ Word (codes "a") ∷ []) ≡ None
unfolding reserved read_many g.items g.selected_items g.item_list g.item g.column g.behind_dot with_comma g.name g.literal g.constant g.text g.number g.digits
negation_is_no_item = refl

-- A column twice behind INSERT INTO is nothing,
inserted_twice : (g.insert (g.expr 1)).rule.parses.read (Word (codes "insert") ∷ Word (codes "into") ∷ Word (codes "t") ∷ t.Symbol s.LParen ∷ Word (codes "a") ∷ t.Symbol s.Comma ∷ Word (codes "a") ∷ t.Symbol s.RParen ∷ Word (codes "values") ∷ t.Symbol s.LParen ∷ Number 1 ∷ t.Symbol s.Comma ∷ Number 2 ∷ t.Symbol s.RParen ∷ []) ≡ None
unfolding reserved read_many g.insert g.proper_rows g.rows g.columns_if_any g.distinct_names g.names g.even_tuples g.tuples g.tuple g.parts g.returning g.returned g.item_list with_comma cut.with_comma g.expr g.or g.or_next g.and g.and_next g.not_ g.nots g.is g.null_test g.cmp g.memb g.sum g.comparison g.prim g.exists g.enclosed g.scalar g.item g.column g.behind_dot g.name g.literal g.constant g.text g.number g.digits
inserted_twice = refl

-- nor is a tuple that isn't as long as the list of columns,
tuple_too_short : (g.insert (g.expr 1)).rule.parses.read (Word (codes "insert") ∷ Word (codes "into") ∷ Word (codes "t") ∷ t.Symbol s.LParen ∷ Word (codes "a") ∷ t.Symbol s.Comma ∷ Word (codes "b") ∷ t.Symbol s.RParen ∷ Word (codes "values") ∷ t.Symbol s.LParen ∷ Number 1 ∷ t.Symbol s.RParen ∷ []) ≡ None
unfolding reserved read_many g.insert g.proper_rows g.rows g.columns_if_any g.distinct_names g.names g.even_tuples g.tuples g.tuple g.parts g.returning g.returned g.item_list with_comma cut.with_comma g.expr g.or g.or_next g.and g.and_next g.not_ g.nots g.is g.null_test g.cmp g.memb g.sum g.comparison g.prim g.exists g.enclosed g.scalar g.item g.column g.behind_dot g.name g.literal g.constant g.text g.number g.digits
tuple_too_short = refl

-- nor a column that is set twice.
set_twice : (g.update (g.expr 1)).rule.parses.read (Word (codes "update") ∷ Word (codes "t") ∷ Word (codes "set") ∷ Word (codes "a") ∷ t.Symbol s.Equal ∷ Number 1 ∷ t.Symbol s.Comma ∷ Word (codes "a") ∷ t.Symbol s.Equal ∷ Number 2 ∷ []) ≡ None
unfolding reserved read_many g.update g.set_columns g.all_set_columns g.set_column g.ending g.condition g.returning g.returned g.item_list with_comma cut.with_comma g.expr g.or g.or_next g.and g.and_next g.not_ g.nots g.is g.null_test g.cmp g.memb g.sum g.comparison g.prim g.exists g.enclosed g.scalar g.item g.column g.behind_dot g.name g.literal g.constant g.text g.number g.digits
set_twice = refl

-- Words of UPDATE that aren't reserved are names, and RETURNING ends an expression.
set_is_a_table : (g.update (g.expr 1)).rule.parses.read (Word (codes "update") ∷ Word (codes "set") ∷ Word (codes "set") ∷ Word (codes "set") ∷ t.Symbol s.Equal ∷ Word (codes "update") ∷ Word (codes "returning") ∷ Word (codes "delete") ∷ []) ≡ Some
    (st.Update record { table = codes "set"; assignments = record { column = codes "set"; value = column (codes "update") } ∷ []; condition = None; returning = Some (Selected.Items (column (codes "delete") ∷ [])) }, [])
unfolding reserved read_many g.update g.set_columns g.all_set_columns g.set_column g.ending g.condition g.returning g.returned g.item_list with_comma cut.with_comma g.expr g.or g.or_next g.and g.and_next g.not_ g.nots g.is g.null_test g.cmp g.memb g.sum g.comparison g.prim g.exists g.enclosed g.scalar g.item g.column g.behind_dot g.name g.literal g.constant g.text g.number g.digits
set_is_a_table = refl

-- Words of keys and policies that aren't reserved are names: CREATE TABLE force (key TEXT PRIMARY KEY NOT NULL).
key_is_a_column : g.table.parses.read (Word (codes "force") ∷ t.Symbol s.LParen ∷ Word (codes "key") ∷ Word (codes "text") ∷ Word (codes "primary") ∷ Word (codes "key") ∷ Word (codes "not") ∷ Word (codes "null") ∷ t.Symbol s.RParen ∷ []) ≡ Some
    (st.CreateTable record { name = codes "force"; columns = record { column = record { name = codes "key"; kind = ColType.Text; not_null = true }; is_key = true } ∷ []; key = None }, [])
unfolding reserved read_many g.table g.proper_elements g.columns_and_key g.listed_elements g.table_elements g.table_element g.column_definition g.column_type g.column_marks g.all_marks g.column_mark g.primary_key g.distinct_names g.names with_element with_comma g.name
key_is_a_column = refl

-- PRIMARY KEY may name what is no column.
key_of_no_column : g.table.parses.read (Word (codes "t") ∷ t.Symbol s.LParen ∷ Word (codes "a") ∷ Word (codes "int") ∷ t.Symbol s.Comma ∷ Word (codes "primary") ∷ Word (codes "key") ∷ t.Symbol s.LParen ∷ Word (codes "b") ∷ t.Symbol s.RParen ∷ t.Symbol s.RParen ∷ []) ≡ Some
    (st.CreateTable record { name = codes "t"; columns = record { column = record { name = codes "a"; kind = ColType.Integer; not_null = false }; is_key = false } ∷ []; key = Some (codes "b" ∷ []) }, [])
unfolding reserved read_many g.table g.proper_elements g.columns_and_key g.listed_elements g.table_elements g.table_element g.column_definition g.column_type g.column_marks g.all_marks g.column_mark g.primary_key g.distinct_names g.names with_element with_comma g.name
key_of_no_column = refl

-- A mark twice is nothing,
mark_twice : g.table.parses.read (Word (codes "t") ∷ t.Symbol s.LParen ∷ Word (codes "a") ∷ Word (codes "int") ∷ Word (codes "not") ∷ Word (codes "null") ∷ Word (codes "not") ∷ Word (codes "null") ∷ t.Symbol s.RParen ∷ []) ≡ None
unfolding reserved read_many g.table g.proper_elements g.columns_and_key g.listed_elements g.table_elements g.table_element g.column_definition g.column_type g.column_marks g.all_marks g.column_mark g.primary_key g.distinct_names g.names with_element with_comma g.name
mark_twice = refl

-- nor two columns that are marked as the key,
two_marked : g.table.parses.read (Word (codes "t") ∷ t.Symbol s.LParen ∷ Word (codes "a") ∷ Word (codes "int") ∷ Word (codes "primary") ∷ Word (codes "key") ∷ t.Symbol s.Comma ∷ Word (codes "b") ∷ Word (codes "int") ∷ Word (codes "primary") ∷ Word (codes "key") ∷ t.Symbol s.RParen ∷ []) ≡ None
unfolding reserved read_many g.table g.proper_elements g.columns_and_key g.listed_elements g.table_elements g.table_element g.column_definition g.column_type g.column_marks g.all_marks g.column_mark g.primary_key g.distinct_names g.names with_element with_comma g.name
two_marked = refl

-- nor a mark and the constraint,
marked_and_constrained : g.table.parses.read (Word (codes "t") ∷ t.Symbol s.LParen ∷ Word (codes "a") ∷ Word (codes "int") ∷ Word (codes "primary") ∷ Word (codes "key") ∷ t.Symbol s.Comma ∷ Word (codes "primary") ∷ Word (codes "key") ∷ t.Symbol s.LParen ∷ Word (codes "a") ∷ t.Symbol s.RParen ∷ t.Symbol s.RParen ∷ []) ≡ None
unfolding reserved read_many g.table g.proper_elements g.columns_and_key g.listed_elements g.table_elements g.table_element g.column_definition g.column_type g.column_marks g.all_marks g.column_mark g.primary_key g.distinct_names g.names with_element with_comma g.name
marked_and_constrained = refl

-- nor two constraints,
two_constraints : g.table.parses.read (Word (codes "t") ∷ t.Symbol s.LParen ∷ Word (codes "a") ∷ Word (codes "int") ∷ t.Symbol s.Comma ∷ Word (codes "primary") ∷ Word (codes "key") ∷ t.Symbol s.LParen ∷ Word (codes "a") ∷ t.Symbol s.RParen ∷ t.Symbol s.Comma ∷ Word (codes "primary") ∷ Word (codes "key") ∷ t.Symbol s.LParen ∷ Word (codes "a") ∷ t.Symbol s.RParen ∷ t.Symbol s.RParen ∷ []) ≡ None
unfolding reserved read_many g.table g.proper_elements g.columns_and_key g.listed_elements g.table_elements g.table_element g.column_definition g.column_type g.column_marks g.all_marks g.column_mark g.primary_key g.distinct_names g.names with_element with_comma g.name
two_constraints = refl

-- nor a column behind the constraint,
key_not_last : g.table.parses.read (Word (codes "t") ∷ t.Symbol s.LParen ∷ Word (codes "a") ∷ Word (codes "int") ∷ t.Symbol s.Comma ∷ Word (codes "primary") ∷ Word (codes "key") ∷ t.Symbol s.LParen ∷ Word (codes "a") ∷ t.Symbol s.RParen ∷ t.Symbol s.Comma ∷ Word (codes "b") ∷ Word (codes "int") ∷ t.Symbol s.RParen ∷ []) ≡ None
unfolding reserved read_many g.table g.proper_elements g.columns_and_key g.listed_elements g.table_elements g.table_element g.column_definition g.column_type g.column_marks g.all_marks g.column_mark g.primary_key g.distinct_names g.names with_element with_comma g.name
key_not_last = refl

-- nor a name twice in it,
twice_in_the_key : g.table.parses.read (Word (codes "t") ∷ t.Symbol s.LParen ∷ Word (codes "a") ∷ Word (codes "int") ∷ t.Symbol s.Comma ∷ Word (codes "primary") ∷ Word (codes "key") ∷ t.Symbol s.LParen ∷ Word (codes "a") ∷ t.Symbol s.Comma ∷ Word (codes "a") ∷ t.Symbol s.RParen ∷ t.Symbol s.RParen ∷ []) ≡ None
unfolding reserved read_many g.table g.proper_elements g.columns_and_key g.listed_elements g.table_elements g.table_element g.column_definition g.column_type g.column_marks g.all_marks g.column_mark g.primary_key g.distinct_names g.names with_element with_comma g.name
twice_in_the_key = refl

-- nor two columns of one name.
column_twice : g.table.parses.read (Word (codes "t") ∷ t.Symbol s.LParen ∷ Word (codes "a") ∷ Word (codes "int") ∷ t.Symbol s.Comma ∷ Word (codes "a") ∷ Word (codes "text") ∷ t.Symbol s.RParen ∷ []) ≡ None
unfolding reserved read_many g.table g.proper_elements g.columns_and_key g.listed_elements g.table_elements g.table_element g.column_definition g.column_type g.column_marks g.all_marks g.column_mark g.primary_key g.distinct_names g.names with_element with_comma g.name
column_twice = refl

-- Without AS, FOR and TO a policy is permissive, for all commands, for PUBLIC.
defaults : (g.policy (g.expr 1)).rule.parses.read (Word (codes "p") ∷ Word (codes "on") ∷ Word (codes "t") ∷ Word (codes "using") ∷ t.Symbol s.LParen ∷ Word (codes "a") ∷ t.Symbol s.RParen ∷ []) ≡ Some
    (st.CreatePolicy record { table = codes "t"; policy = record { name = codes "p"; permissive = true; kind = PolicyKind.All; to = Grantee.Public ∷ []; using = Some (column (codes "a")); check = None } }, [])
unfolding reserved read_many g.policy g.proper_description g.description g.policy_on g.policy_options g.permissive g.for_commands g.policy_kind g.command_type g.for_grantees g.to_grantees g.grantees g.grantee g.conditions g.using g.check g.parenthesized with_comma g.expr g.or g.or_next g.and g.and_next g.not_ g.nots g.is g.null_test g.cmp g.memb g.sum g.comparison g.prim g.exists g.enclosed g.scalar g.item g.column g.behind_dot g.name g.literal g.constant g.text g.number g.digits
defaults = refl

-- A role may be called restrictive, a policy permissive.
restrictive_is_a_role : (g.policy (g.expr 1)).rule.parses.read (Word (codes "permissive") ∷ Word (codes "on") ∷ Word (codes "no") ∷ Word (codes "as") ∷ Word (codes "restrictive") ∷ Word (codes "for") ∷ Word (codes "insert") ∷ Word (codes "to") ∷ Word (codes "restrictive") ∷ Word (codes "with") ∷ Word (codes "check") ∷ t.Symbol s.LParen ∷ Word (codes "a") ∷ t.Symbol s.RParen ∷ []) ≡ Some
    (st.CreatePolicy record { table = codes "no"; policy = record { name = codes "permissive"; permissive = false; kind = PolicyKind.Only Kind.Insert; to = Grantee.Role (codes "restrictive") ∷ []; using = None; check = Some (column (codes "a")) } }, [])
unfolding reserved read_many g.policy g.proper_description g.description g.policy_on g.policy_options g.permissive g.for_commands g.policy_kind g.command_type g.for_grantees g.to_grantees g.grantees g.grantee g.conditions g.using g.check g.parenthesized with_comma g.expr g.or g.or_next g.and g.and_next g.not_ g.nots g.is g.null_test g.cmp g.memb g.sum g.comparison g.prim g.exists g.enclosed g.scalar g.item g.column g.behind_dot g.name g.literal g.constant g.text g.number g.digits
restrictive_is_a_role = refl

-- A policy for SELECT has no WITH CHECK,
checked_select : (g.policy (g.expr 1)).rule.parses.read (Word (codes "p") ∷ Word (codes "on") ∷ Word (codes "t") ∷ Word (codes "for") ∷ Word (codes "select") ∷ Word (codes "with") ∷ Word (codes "check") ∷ t.Symbol s.LParen ∷ Word (codes "a") ∷ t.Symbol s.RParen ∷ []) ≡ None
unfolding reserved read_many g.policy g.proper_description g.description g.policy_on g.policy_options g.permissive g.for_commands g.policy_kind g.command_type g.for_grantees g.to_grantees g.grantees g.grantee g.conditions g.using g.check g.parenthesized with_comma g.expr g.or g.or_next g.and g.and_next g.not_ g.nots g.is g.null_test g.cmp g.memb g.sum g.comparison g.prim g.exists g.enclosed g.scalar g.item g.column g.behind_dot g.name g.literal g.constant g.text g.number g.digits
checked_select = refl

-- nor has one for DELETE,
checked_delete : (g.policy (g.expr 1)).rule.parses.read (Word (codes "p") ∷ Word (codes "on") ∷ Word (codes "t") ∷ Word (codes "for") ∷ Word (codes "delete") ∷ Word (codes "using") ∷ t.Symbol s.LParen ∷ Word (codes "a") ∷ t.Symbol s.RParen ∷ Word (codes "with") ∷ Word (codes "check") ∷ t.Symbol s.LParen ∷ Word (codes "a") ∷ t.Symbol s.RParen ∷ []) ≡ None
unfolding reserved read_many g.policy g.proper_description g.description g.policy_on g.policy_options g.permissive g.for_commands g.policy_kind g.command_type g.for_grantees g.to_grantees g.grantees g.grantee g.conditions g.using g.check g.parenthesized with_comma g.expr g.or g.or_next g.and g.and_next g.not_ g.nots g.is g.null_test g.cmp g.memb g.sum g.comparison g.prim g.exists g.enclosed g.scalar g.item g.column g.behind_dot g.name g.literal g.constant g.text g.number g.digits
checked_delete = refl

-- and one for INSERT no USING.
used_insert : (g.policy (g.expr 1)).rule.parses.read (Word (codes "p") ∷ Word (codes "on") ∷ Word (codes "t") ∷ Word (codes "for") ∷ Word (codes "insert") ∷ Word (codes "using") ∷ t.Symbol s.LParen ∷ Word (codes "a") ∷ t.Symbol s.RParen ∷ []) ≡ None
unfolding reserved read_many g.policy g.proper_description g.description g.policy_on g.policy_options g.permissive g.for_commands g.policy_kind g.command_type g.for_grantees g.to_grantees g.grantees g.grantee g.conditions g.using g.check g.parenthesized with_comma g.expr g.or g.or_next g.and g.and_next g.not_ g.nots g.is g.null_test g.cmp g.memb g.sum g.comparison g.prim g.exists g.enclosed g.scalar g.item g.column g.behind_dot g.name g.literal g.constant g.text g.number g.digits
used_insert = refl

-- ALTER POLICY changes something.
nothing_altered : (g.altered_policy (g.expr 1)).rule.parses.read (Word (codes "p") ∷ Word (codes "on") ∷ Word (codes "t") ∷ []) ≡ None
unfolding reserved read_many g.altered_policy g.policy_on g.proper_change g.policy_change g.grantees_if_any g.to_grantees g.grantees g.grantee g.conditions g.using g.check g.parenthesized with_comma g.expr g.or g.or_next g.and g.and_next g.not_ g.nots g.is g.null_test g.cmp g.memb g.sum g.comparison g.prim g.exists g.enclosed g.scalar g.item g.column g.behind_dot g.name g.literal g.constant g.text g.number g.digits
nothing_altered = refl
