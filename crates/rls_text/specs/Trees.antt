-- Trees of limited depth: an expression with its depth, where a leaf counts one. For one that is deeper than 64
-- a null stands, with a depth above the limit.
use Rattle.std.specs.Prelude.{ℕ, zero, suc, ◌+◌, max, nat_lt, if◌then◌else◌, List, [], ◌∷◌, ◌++◌, Option, Some, None}
use Rattle.rls_value.specs.declared.value.Value.TheVariants.{Null}
use Rattle.rls_expr.specs.{declared.expr.Comparison.Comparison, declared.expr.Sign.Sign}
use Rattle.rls_expr.specs.Terms.{Term, Query, terms_of}
use Rattle.rls_expr.specs.Terms as t
use Rattle.rls_statement.specs.{declared.changing.Assignment.Assignment, declared.statement.Selected.Selected, declared.statement.Statement.Statement}
use Rattle.rls_statement.specs.declared.statement.Selected.TheVariants as selected
use Rattle.rls_statement.specs.declared.statement.Statement.TheVariants as st
use Rattle.rls_text.specs.{declared.tree.Operands.Operands, declared.tree.Choices.Choices, Lang.put_in}
use Rattle.rls_text.specs.{declared.tree.Operands.TheVariants.One, declared.tree.Operands.TheVariants.Several, declared.tree.Choices.TheVariants.Listed, declared.tree.Choices.TheVariants.Queried}
use Rattle.rls_text.specs.Values.{Description, PolicyChange, Ending, TableAndAlias}
use Rattle.rls_text.specs.Values as values

-- an expression, or what stands for it, with its depth
abbrev pub Tree : Type 0
Tree = Term × ℕ

-- without operands
abbrev pub leaf : Term → Tree
leaf term = (term, 1)

-- what stands for a tree that is too deep
abbrev pub cut : Tree
cut = (t.Literal Null, 65)

-- a node, above operands of which the deepest has this depth
abbrev pub above : ℕ → Term → Tree
above depth node = if◌then◌else◌ {A = Tree} (nat_lt depth 64) (node, depth + 1) cut

-- NOT
abbrev pub not_of : Tree → Tree
not_of tree = above tree.1 (t.Not tree.0)

-- IS NULL, or IS NOT NULL
unfoldable pub null_test_of : Tree → Option (Unit {0}) → Tree
null_test_of tree None = above tree.1 (t.IsNull tree.0)
null_test_of tree (Some _) = above tree.1 (t.IsNotNull tree.0)

-- negated so many times
abbrev pub negated : ℕ → Tree → Tree
negated zero operand = operand
negated (suc n) operand = negated n (not_of operand)

-- a comparison
abbrev pub compare_of : Comparison → Tree → Tree → Tree
compare_of how left right = above (max left.1 right.1) (t.Compare how left.0 right.0)

-- a comparison, or its left side alone
abbrev pub compared : Tree → Option (Comparison × Tree) → Tree
compared left None = left
compared left (Some r) = compare_of r.0 left r.1

-- one operand more, as deep as the deepest
unfoldable pub with_operand : Operands → Tree → Operands
with_operand (One first depth) tree = Several (first ∷ tree.0 ∷ []) (max depth tree.1)
with_operand (Several all depth) tree = Several (all ++ tree.0 ∷ []) (max depth tree.1)

-- the operands of AND or OR
abbrev pub operands : Tree → List Tree → Operands
operands first more = put_in with_operand (One first.0 first.1) more

-- one operand alone makes no node
abbrev pub and_of : Operands → Tree
and_of (One only depth) = (only, depth)
and_of (Several all depth) = above depth (t.And (terms_of all))

-- OR; one operand alone makes no node
abbrev pub or_of : Operands → Tree
or_of (One only depth) = (only, depth)
or_of (Several all depth) = above depth (t.Or (terms_of all))

-- the parts of a sum, with the signs between them
abbrev pub Summed : Type 0
Summed = Operands × List Sign

-- one part more
unfoldable pub with_summand : Summed → Sign × Tree → Summed
with_summand sum part = (with_operand sum.0 part.1, sum.1 ++ part.0 ∷ [])

-- the parts of a sum
abbrev pub summed : Tree → List (Sign × Tree) → Summed
summed first more = put_in with_summand (One first.0 first.1, []) more

-- a sum; one part alone makes no node
abbrev pub sum_of : Summed → Tree
sum_of (One only depth, signs) = (only, depth)
sum_of (Several all depth, signs) = above depth (t.Sum signs (terms_of all))

-- expressions between parentheses, with the depth of the deepest
abbrev pub Tuple : Type 0
Tuple = List Term × ℕ

-- one part more
unfoldable pub with_part : Tuple → Tree → Tuple
with_part tuple tree = (tuple.0 ++ tree.0 ∷ [], max tuple.1 tree.1)

-- a tuple of these parts
abbrev pub tuple_of : Tree → List Tree → Tuple
tuple_of first more = put_in with_part (first.0 ∷ [], first.1) more

-- a condition that may be left out, and its depth
abbrev pub parted : Option Tree → Option Term × ℕ
parted None = (None, 0)
parted (Some tree) = (Some tree.0, tree.1)

-- what is selected, with the depth of its items, which are leaves; 0 where there are none
abbrev pub with_depth : Selected → Selected × ℕ
with_depth (selected.Items items) = (selected.Items items, 1)
with_depth x = (x, 0)

-- of what a SELECT is made
abbrev pub SelectParts : Type 0
SelectParts = (Selected × ℕ) × (TableAndAlias × Option Tree)

-- its parts without their depths, and the depth of the deepest
abbrev pub parted_select : SelectParts → values.SelectParts × ℕ
parted_select r = ((r.0.0, (r.1.0, (parted r.1.1).0)), max r.0.1 (parted r.1.1).1)

-- a SELECT inside an expression
abbrev pub query_of : SelectParts → Query
query_of r = values.query_of (parted_select r).0

-- the depth of a node above one of this depth; 65 for all that are too deep
abbrev pub one_deeper : ℕ → ℕ
one_deeper depth = if◌then◌else◌ {A = ℕ} (nat_lt depth 64) (depth + 1) 65

-- the depth of a SELECT inside an expression
abbrev pub select_depth : SelectParts → ℕ
select_depth r = one_deeper (parted_select r).1

-- EXISTS
unfoldable pub exists_of : SelectParts → Tree
exists_of r = above (select_depth r) (t.Exists (query_of r))

-- a SELECT that stands for a value, which is its one node
unfoldable pub scalar_of : SelectParts → Tree
scalar_of r = above (parted_select r).1 (t.Scalar (query_of r))

-- IN, or NOT IN, with a list or with a SELECT
unfoldable pub among_of : Tree → Option (Unit {0}) → Choices → Tree
among_of left None (Listed list) = above (max left.1 list.1) (t.InList left.0 (terms_of list.0))
among_of left (Some _) (Listed list) = above (max left.1 list.1) (t.NotInList left.0 (terms_of list.0))
among_of left None (Queried r) = above (max left.1 (select_depth r)) (t.InSubquery left.0 (query_of r))
among_of left (Some _) (Queried r) = above (max left.1 (select_depth r)) (t.NotInSubquery left.0 (query_of r))

-- the same, or its left side alone
abbrev pub among : Tree → Option (Option (Unit {0}) × Choices) → Tree
among left None = left
among left (Some r) = among_of left r.0 r.1

-- the tuples of INSERT, with the depth of the deepest
abbrev pub Tuples : Type 0
Tuples = List (List Term) × ℕ

-- one tuple more
unfoldable pub with_tuple : Tuples → Tuple → Tuples
with_tuple tuples tuple = (tuples.0 ++ tuple.0 ∷ [], max tuples.1 tuple.1)

-- these tuples
abbrev pub tuples_of : Tuple → List Tuple → Tuples
tuples_of first more = put_in with_tuple (first.0 ∷ [], first.1) more

-- a column that UPDATE sets, with the depth of its expression
abbrev pub SetColumn : Type 0
SetColumn = Assignment × ℕ

-- of its name and its expression
abbrev pub set_column_of : List ℕ × Tree → SetColumn
set_column_of r = (record { column = r.0; value = r.1.0 }, r.1.1)

-- the columns that UPDATE sets, with the depth of the deepest expression
abbrev pub SetColumns : Type 0
SetColumns = List Assignment × ℕ

-- one column more
unfoldable pub with_set_column : SetColumns → SetColumn → SetColumns
with_set_column all next = (all.0 ++ next.0 ∷ [], max all.1 next.1)

-- these columns
abbrev pub set_columns_of : SetColumn → List SetColumn → SetColumns
set_columns_of first more = put_in with_set_column (first.0 ∷ [], first.1) more

-- a statement, with the depth of its deepest expression; 0 where it has none
abbrev pub TreeWithDepth : Type 0
TreeWithDepth = Statement × ℕ

-- without an expression
abbrev pub flat : Statement → TreeWithDepth
flat statement = (statement, 0)

-- SELECT, of its parts
abbrev pub select_of : SelectParts → TreeWithDepth
select_of r = (st.Select record { items = r.0.0; table = r.1.0.0; alias = r.1.0.1; condition = (parted r.1.1).0 }, (parted r.1.1).1)

-- the rows of INSERT: columns, if they are written, and tuples
abbrev pub Rows : Type 0
Rows = Option (List (List ℕ)) × Tuples

-- INSERT, of its parts
abbrev pub insert_of : List ℕ × (Rows × Option Selected) → TreeWithDepth
insert_of r = (st.Insert record { table = r.0; columns = r.1.0.0; tuples = r.1.0.1.0; returning = r.1.1 }, r.1.0.1.1)

-- UPDATE, of its parts
abbrev pub update_of : List ℕ × (SetColumns × Ending Tree) → TreeWithDepth
update_of r = (st.Update record { table = r.0; assignments = r.1.0.0; condition = (parted r.1.1.0).0; returning = r.1.1.1 }, max r.1.0.1 (parted r.1.1.0).1)

-- DELETE, of its parts
abbrev pub delete_of : List ℕ × Ending Tree → TreeWithDepth
delete_of r = (st.Delete record { table = r.0; condition = (parted r.1.0).0; returning = r.1.1 }, (parted r.1.0).1)

-- the depth of the deeper of two conditions that may be left out
abbrev pub deeper : Option Tree × Option Tree → ℕ
deeper r = max (parted r.0).1 (parted r.1).1

-- CREATE POLICY, of its parts
abbrev pub policy_of : (List ℕ × List ℕ) × Description Tree → TreeWithDepth
policy_of r = (
  st.CreatePolicy record {
    table = r.0.1;
    policy = record { name = r.0.0; permissive = r.1.0.0; kind = r.1.0.1; to = r.1.1.0; using = (parted r.1.1.1.0).0; check = (parted r.1.1.1.1).0 };
  },
  deeper r.1.1.1,
)

-- ALTER POLICY, of its parts
abbrev pub altering_policy_of : (List ℕ × List ℕ) × PolicyChange Tree → TreeWithDepth
altering_policy_of r = (st.AlterPolicy record { name = r.0.0; table = r.0.1; to = r.1.0; using = (parted r.1.1.0).0; check = (parted r.1.1.1).0 }, deeper r.1.1)
