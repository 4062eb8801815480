-- What is kept of an expression: the expression with its height, or what stands for one that is too high; and that the
-- builders of trees keep it so.
use Rattle.std.specs.Prelude.{◌≡◌, ℕ, zero, suc, ◌+◌, ◌≤◌, ◌<◌, max, nat_lt, nat_eq, Bool, true, false, ◌&&◌, List, [], ◌∷◌, ◌++◌, length, map, Option, Some, None, is_some, refl, if◌then◌else◌}
use Rattle.std.proofs.Common.{arith, inl, inr, sym, ap, ◌∙◌, append_assoc}
use Rattle.std.proofs.lemmas.Bool.{ltb-true, ltb-false, lt-ltb, le-ltb}
use Rattle.rls_expr.specs.{declared.expr.Comparison.Comparison, declared.expr.Sign.Sign, Terms.Term, Terms.Terms, Terms.Query, Terms.terms_of, Terms.maybe_term}
use Rattle.rls_expr.specs.Terms as e
use Rattle.rls_statement.specs.{declared.changing.Assignment.Assignment, declared.statement.Selected.Selected, declared.statement.Statement.Statement}
use Rattle.rls_statement.specs.declared.statement.Statement.TheVariants as st
use Rattle.rls_text.specs.{declared.tree.Operands.Operands, declared.tree.Choices.Choices, Cut.of_some, Lang.put_in, Writes.append_end, declared.tree.Operands.TheVariants.One, declared.tree.Operands.TheVariants.Several, declared.tree.Choices.TheVariants.Listed, declared.tree.Choices.TheVariants.Queried, Heights.height, Heights.heights, Heights.query_height, Heights.height_if, Heights.set_values}
use Rattle.rls_text.specs.Trees.{Tree, SelectParts, parted_select, query_of, one_deeper, select_depth, Tuple, Tuples, TreeWithDepth, cut, above, null_test_of, with_operand, operands, with_summand, summed, among_of, with_part, tuple_of, with_tuple, tuples_of, SetColumn, SetColumns, with_set_column, set_columns_of, parted, deeper}
use Rattle.rls_text.specs.Trees as t
use Rattle.rls_text.specs.Values as values

-- an expression with its height, up to 64
abbrev pub tree_of : Term → Tree
tree_of x = if◌then◌else◌ {A = Tree} (nat_lt 64 (height x)) cut (x, height x)

-- the parts, each as it is kept
abbrev pub terms_kept : List Term → List Term
terms_kept [] = []
terms_kept (x ∷ xs) = (tree_of x).0 ∷ terms_kept xs

-- the depth of the deepest
abbrev pub deepest : List Term → ℕ
deepest [] = 0
deepest (x ∷ xs) = max (tree_of x).1 (deepest xs)

-- a tuple, with the depth of its deepest part
abbrev pub tuple_kept : List Term → Tuple
tuple_kept xs = (terms_kept xs, deepest xs)

-- a part of a sum, behind its sign
abbrev pub signed_kept : Sign × Term → Sign × Tree
signed_kept part = (part.0, tree_of part.1)

-- what is selected, with the height of the items
abbrev pub selected_kept : Selected → Selected × ℕ
selected_kept x = (x, heights (terms_of (values.items_of x)))

-- of what a SELECT is made
abbrev pub select_kept : values.SelectParts → SelectParts
select_kept r = (selected_kept r.0, (r.1.0, of_some tree_of r.1.1))

-- a list, or a SELECT
abbrev pub choices_kept : values.Choices → Choices
choices_kept (inl xs) = Listed (tuple_kept xs)
choices_kept (inr r) = Queried (select_kept r)

-- NOT, if it is there, and what stands behind IN
abbrev pub in_kept : Option (Unit {0}) × values.Choices → Option (Unit {0}) × Choices
in_kept r = (r.0, choices_kept r.1)

-- the depth of the deepest tuple
abbrev pub deepest_tuple : List (List Term) → ℕ
deepest_tuple [] = 0
deepest_tuple (x ∷ xs) = max (deepest x) (deepest_tuple xs)

-- tuples, with the depth of the deepest
abbrev pub tuples_kept : List (List Term) → Tuples
tuples_kept xs = (map terms_kept xs, deepest_tuple xs)

-- the rows of INSERT
abbrev pub rows_kept : values.Rows → t.Rows
rows_kept r = (r.0, tuples_kept r.1)

-- a column that is set, with the depth of its expression
abbrev pub set_column_kept : Assignment → SetColumn
set_column_kept x = (record { column = x.column; value = (tree_of x.value).0 }, (tree_of x.value).1)

-- the columns that are set, each as it is kept
abbrev pub assignments_kept : List Assignment → List Assignment
assignments_kept = map (λ x. (set_column_kept x).0)

-- these, with the depth of the deepest expression
abbrev pub set_columns_kept : List Assignment → SetColumns
set_columns_kept xs = (assignments_kept xs, deepest (set_values xs))

-- WHERE and RETURNING
abbrev pub ending_kept : values.Ending Term → values.Ending Tree
ending_kept r = (of_some tree_of r.0, r.1)

-- USING and WITH CHECK
abbrev pub conditions_kept : Option Term × Option Term → Option Tree × Option Tree
conditions_kept r = (of_some tree_of r.0, of_some tree_of r.1)

-- what a policy is described by
abbrev pub description_kept : values.Description Term → values.Description Tree
description_kept r = (r.0, (r.1.0, conditions_kept r.1.1))

-- what changes of a policy
abbrev pub change_kept : values.PolicyChange Term → values.PolicyChange Tree
change_kept r = (r.0, conditions_kept r.1)

-- a statement, with the depth of its deepest expression
abbrev pub tree_with_depth_of : Statement → TreeWithDepth
tree_with_depth_of (st.Select x) = t.select_of (selected_kept x.items, ((x.table, x.alias), of_some tree_of x.condition))
tree_with_depth_of (st.Insert x) = t.insert_of (x.table, (rows_kept (x.columns, x.tuples), x.returning))
tree_with_depth_of (st.Update x) = t.update_of (x.table, (set_columns_kept x.assignments, ending_kept (x.condition, x.returning)))
tree_with_depth_of (st.Delete x) = t.delete_of (x.table, ending_kept (x.condition, x.returning))
tree_with_depth_of (st.CreatePolicy x) = (
  st.CreatePolicy record { table = x.table; policy = record x.policy { using = (parted (of_some tree_of x.policy.using)).0; check = (parted (of_some tree_of x.policy.check)).0 } },
  deeper (conditions_kept (x.policy.using, x.policy.check)),
)
tree_with_depth_of (st.AlterPolicy x) = (
  st.AlterPolicy record x { using = (parted (of_some tree_of x.using)).0; check = (parted (of_some tree_of x.check)).0 },
  deeper (conditions_kept (x.using, x.check)),
)
tree_with_depth_of x = t.flat x

-- ---- one that isn't too high is kept as it is

pub tree_low : (x : Term) → (tree_of x).1 ≤ 64 → ((tree_of x).0 ≡ x) × ((tree_of x).1 ≡ height x)
tree_low x h = go (nat_lt 64 (height x)) h
  where
    go : (b : Bool) → (if◌then◌else◌ {A = Tree} b cut (x, height x)).1 ≤ 64 → ((if◌then◌else◌ {A = Tree} b cut (x, height x)).0 ≡ x) × ((if◌then◌else◌ {A = Tree} b cut (x, height x)).1 ≡ height x)
    go true h = absurd (omega (arith, h))
    go false h = (refl, refl)

pub tree_high : (x : Term) → 64 < (tree_of x).1 → 64 < height x
tree_high x h = go (nat_lt 64 (height x)) refl h
  where
    go : (b : Bool) → nat_lt 64 (height x) ≡ b → 64 < (if◌then◌else◌ {A = Tree} b cut (x, height x)).1 → 64 < height x
    go true e h = ltb-true 64 (height x) e
    go false e h = h

pub terms_low : (xs : List Term) → deepest xs ≤ 64 → (terms_kept xs ≡ xs) × (deepest xs ≡ heights (terms_of xs))
terms_low [] h = (refl, refl)
terms_low (x ∷ xs) h =
    let first = tree_low x (omega (arith, h)) in
    let more = terms_low xs (omega (arith, h)) in
    (rw (first.0, more.0) refl, rw (first.1, more.1) refl)

pub terms_high : (xs : List Term) → 64 < deepest xs → 64 < heights (terms_of xs)
terms_high [] h = absurd (omega (arith, h))
terms_high (x ∷ xs) h = go (nat_lt 64 (tree_of x).1) refl (terms_high xs)
  where
    go : (b : Bool) → nat_lt 64 (tree_of x).1 ≡ b → (64 < deepest xs → 64 < heights (terms_of xs)) → 64 < heights (terms_of (x ∷ xs))
    go true e again = let k = tree_high x (ltb-true 64 (tree_of x).1 e) in omega (arith, k)
    go false e again =
        let low : (tree_of x).1 ≤ 64 = ltb-false 64 (tree_of x).1 e in
        let k = again (omega (arith, h, low)) in omega (arith, k)

pub if_low : (o : Option Term) → (parted (of_some tree_of o)).1 ≤ 64 → ((parted (of_some tree_of o)).0 ≡ o) × ((parted (of_some tree_of o)).1 ≡ height_if o)
if_low None h = (refl, refl)
if_low (Some x) h = let k = tree_low x h in (ap Some k.0, k.1)

pub if_high : (o : Option Term) → 64 < (parted (of_some tree_of o)).1 → 64 < height_if o
if_high None h = absurd (omega (arith, h))
if_high (Some x) h = tree_high x h

-- a condition as a query holds it
condition_height : (o : Option Term) → height_if o ≡ heights (maybe_term o)
condition_height None = refl
condition_height (Some x) = omega arith

-- what stands below a query's node
abbrev pub below : values.SelectParts → ℕ
below r = max (heights (terms_of (values.items_of r.0))) (heights (maybe_term r.1.1))

query_low : (r : values.SelectParts) → (parted_select (select_kept r)).1 ≤ 64 → (query_of (select_kept r) ≡ values.query_of r) × ((parted_select (select_kept r)).1 ≡ below r)
query_low r h =
    let k = if_low r.1.1 (omega (arith, h)) in
    let e : (parted (of_some tree_of r.1.1)).1 ≡ heights (maybe_term r.1.1) = k.1 ∙ condition_height r.1.1 in
    (ap (λ z. values.query_of (r.0, (r.1.0, z))) k.0, ap (λ z. max (heights (terms_of (values.items_of r.0))) z) e)

query_high : (r : values.SelectParts) → 64 < (parted_select (select_kept r)).1 → 64 < below r
query_high r h = go (nat_lt 64 (parted (of_some tree_of r.1.1)).1) refl
  where
    go : (b : Bool) → nat_lt 64 (parted (of_some tree_of r.1.1)).1 ≡ b → 64 < below r
    go true p =
        let k = if_high r.1.1 (ltb-true 64 (parted (of_some tree_of r.1.1)).1 p) in
        let e = condition_height r.1.1 in omega (arith, k, e)
    go false p =
        let low : (parted (of_some tree_of r.1.1)).1 ≤ 64 = ltb-false 64 (parted (of_some tree_of r.1.1)).1 p in omega (arith, h, low)

-- one more of a depth that is the height below, or above the limit as it is
pub one_low : (d : ℕ) → one_deeper d ≤ 64 → (d ≤ 64) × (one_deeper d ≡ d + 1)
one_low d h = go (nat_lt d 64) refl h
  where
    go : (b : Bool) → nat_lt d 64 ≡ b → if◌then◌else◌ {A = ℕ} b (d + 1) 65 ≤ 64 → (d ≤ 64) × (if◌then◌else◌ {A = ℕ} b (d + 1) 65 ≡ d + 1)
    go true p h = let k : d < 64 = ltb-true d 64 p in (omega (arith, k), refl)
    go false p h = absurd (omega (arith, h))

pub one_high : (d : ℕ) → 64 < one_deeper d → 64 ≤ d
one_high d h = go (nat_lt d 64) refl h
  where
    go : (b : Bool) → nat_lt d 64 ≡ b → 64 < if◌then◌else◌ {A = ℕ} b (d + 1) 65 → 64 ≤ d
    go true p h = let k : d < 64 = ltb-true d 64 p in absurd (omega (arith, k, h))
    go false p h = ltb-false d 64 p

-- the depth of a query, as it is kept
query_is_low : (r : values.SelectParts) → select_depth (select_kept r) ≤ 64 → (query_of (select_kept r) ≡ values.query_of r) × (select_depth (select_kept r) ≡ query_height (values.query_of r))
query_is_low r h =
    let one = one_low (parted_select (select_kept r)).1 h in
    let k = query_low r one.0 in
    (k.0, one.1 ∙ ap (λ z. z + 1) k.1)

query_is_high : (r : values.SelectParts) → 64 < select_depth (select_kept r) → 64 < query_height (values.query_of r)
query_is_high r h = go (nat_lt 64 (parted_select (select_kept r)).1) refl
  where
    go : (b : Bool) → nat_lt 64 (parted_select (select_kept r)).1 ≡ b → 64 < below r + 1
    go true p = let k = query_high r (ltb-true 64 (parted_select (select_kept r)).1 p) in omega (arith, k)
    go false p =
        let low : (parted_select (select_kept r)).1 ≤ 64 = ltb-false 64 (parted_select (select_kept r)).1 p in
        let j : 64 ≤ (parted_select (select_kept r)).1 = one_high (parted_select (select_kept r)).1 h in
        let k = (query_low r low).1 in omega (arith, j, k)

-- ---- the builders

-- a node n, built as m above operands of the depth d, where their height is h
pub node_kept : (n m : Term) (h d : ℕ) → height n ≡ h + 1 → (d ≤ 64 → (m ≡ n) × (d ≡ h)) → (64 < d → 64 < h) → tree_of n ≡ above d m
node_kept n m h d up low high = go (nat_lt d 64) refl
  where
    go : (b : Bool) → nat_lt d 64 ≡ b → tree_of n ≡ if◌then◌else◌ {A = Tree} b (m, d + 1) cut
    go true p =
        let k : d < 64 = ltb-true d 64 p in
        let same = low (omega (arith, k)) in
        let flat : nat_lt 64 (height n) ≡ false = le-ltb 64 (height n) (omega (arith, k, up, same.1)) in
        let depth : height n ≡ d + 1 = omega (arith, up, same.1) in
        rw (flat, same.0, depth) refl
    go false p =
        let k : 64 ≤ d = ltb-false d 64 p in
        let deep : 64 < height n = over k (nat_lt 64 d) refl in
        let tall : nat_lt 64 (height n) ≡ true = lt-ltb 64 (height n) deep in
        rw tall refl
      where
        over : 64 ≤ d → (c : Bool) → nat_lt 64 d ≡ c → 64 < height n
        over k true q = let j = high (ltb-true 64 d q) in omega (arith, j, up)
        over k false q =
            let j : d ≤ 64 = ltb-false 64 d q in
            let same = (low j).1 in omega (arith, j, k, up, same)

-- a node above one operand
one_kept : (node : Term → Term) (x : Term) → height (node x) ≡ height x + 1 → tree_of (node x) ≡ above (tree_of x).1 (node (tree_of x).0)
one_kept node x up = node_kept (node x) (node (tree_of x).0) (height x) (tree_of x).1 up (λ h. let k = tree_low x h in (ap node k.0, k.1)) (tree_high x)

-- a node above a list of operands
many_kept : (node : Terms → Term) (xs : List Term) → height (node (terms_of xs)) ≡ heights (terms_of xs) + 1 → tree_of (node (terms_of xs)) ≡ above (deepest xs) (node (terms_of (terms_kept xs)))
many_kept node xs up =
    node_kept (node (terms_of xs)) (node (terms_of (terms_kept xs))) (heights (terms_of xs)) (deepest xs) up
    (λ h. let k = terms_low xs h in (ap (λ z. node (terms_of z)) k.0, k.1)) (terms_high xs)

pub compared_kept : (r : Term × Option (Comparison × Term)) → tree_of (values.compared r.0 r.1) ≡ t.compared (tree_of r.0) (of_some (λ s. (s.0, tree_of s.1)) r.1)
compared_kept (x, None) = refl
compared_kept (x, Some s) =
    let y = s.1 in
    node_kept (e.Compare s.0 x y) (e.Compare s.0 (tree_of x).0 (tree_of y).0) (max (height x) (height y)) (max (tree_of x).1 (tree_of y).1) refl
    (λ h. let k = tree_low x (omega (arith, h)) in let j = tree_low y (omega (arith, h)) in (rw (k.0, j.0) refl, rw (k.1, j.1) refl))
    (λ h. go h (nat_lt 64 (tree_of x).1) refl)
  where
    go : 64 < max (tree_of x).1 (tree_of s.1).1 → (b : Bool) → nat_lt 64 (tree_of x).1 ≡ b → 64 < max (height x) (height s.1)
    go h true p = let k = tree_high x (ltb-true 64 (tree_of x).1 p) in omega (arith, k)
    go h false p =
        let low : (tree_of x).1 ≤ 64 = ltb-false 64 (tree_of x).1 p in
        let k = tree_high s.1 (omega (arith, h, low)) in omega (arith, k)

test_kept : (x : Term) (o : Option (Unit {0})) → tree_of (values.null_test x o) ≡ null_test_of (tree_of x) o
unfolding null_test_of
test_kept x None = one_kept e.IsNull x refl
test_kept x (Some _) = one_kept e.IsNotNull x refl

tests_kept : (x : Term) (os : List (Option (Unit {0}))) → tree_of (put_in values.null_test x os) ≡ put_in null_test_of (tree_of x) os
tests_kept x [] = refl
tests_kept x (o ∷ os) = tests_kept (values.null_test x o) os ∙ ap (λ z. put_in null_test_of z os) (test_kept x o)

pub tested_kept : (r : Term × List (Option (Unit {0}))) → tree_of (put_in values.null_test r.0 r.1) ≡ put_in null_test_of (tree_of r.0) r.1
tested_kept r = tests_kept r.0 r.1

nots_kept : (n : ℕ) (x : Term) → tree_of (values.negated n x) ≡ t.negated n (tree_of x)
nots_kept zero x = refl
nots_kept (suc n) x = nots_kept n (e.Not x) ∙ ap (t.negated n) (one_kept e.Not x refl)

pub negated_kept : (r : ℕ × Term) → tree_of (values.negated r.0 r.1) ≡ t.negated r.0 (tree_of r.1)
negated_kept r = nots_kept r.0 r.1

several_kept : (ys : List Term) (d : ℕ) (xs : List Term) → put_in with_operand (Several ys d) (map tree_of xs) ≡ Several (ys ++ terms_kept xs) (max d (deepest xs))
unfolding with_operand
several_kept ys d [] = let k : max d 0 ≡ d = omega arith in rw (k) (ap (λ z. Several z d) (sym (append_end ys)))
several_kept ys d (x ∷ xs) =
    let k : max (max d (tree_of x).1) (deepest xs) ≡ max d (max (tree_of x).1 (deepest xs)) = omega arith in
    several_kept (ys ++ (tree_of x).0 ∷ []) (max d (tree_of x).1) xs ∙ ap (λ z. Several z (max (max d (tree_of x).1) (deepest xs))) (append_assoc ys ((tree_of x).0 ∷ []) (terms_kept xs)) ∙ ap (λ z. Several (ys ++ (tree_of x).0 ∷ terms_kept xs) z) k

operands_kept : (x y : Term) (xs : List Term) → operands (tree_of x) (map tree_of (y ∷ xs)) ≡ Several (terms_kept (x ∷ y ∷ xs)) (deepest (x ∷ y ∷ xs))
unfolding with_operand
operands_kept x y xs =
    let k : max (max (tree_of x).1 (tree_of y).1) (deepest xs) ≡ deepest (x ∷ y ∷ xs) = omega arith in
    several_kept ((tree_of x).0 ∷ (tree_of y).0 ∷ []) (max (tree_of x).1 (tree_of y).1) xs ∙ ap (λ z. Several (terms_kept (x ∷ y ∷ xs)) z) k

pub and_kept : (r : Term × List Term) → tree_of (values.and_of r.0 r.1) ≡ t.and_of (operands (tree_of r.0) (map tree_of r.1))
and_kept (x, []) = refl
and_kept (x, y ∷ xs) = many_kept e.And (x ∷ y ∷ xs) refl ∙ ap t.and_of (sym (operands_kept x y xs))

pub or_kept : (r : Term × List Term) → tree_of (values.or_of r.0 r.1) ≡ t.or_of (operands (tree_of r.0) (map tree_of r.1))
or_kept (x, []) = refl
or_kept (x, y ∷ xs) = many_kept e.Or (x ∷ y ∷ xs) refl ∙ ap t.or_of (sym (operands_kept x y xs))

summands_kept : (o : Operands) (ys : List Sign) (xs : List (Sign × Term))
    → put_in with_summand (o, ys) (map signed_kept xs) ≡ (put_in with_operand o (map tree_of (values.parts_of xs)), ys ++ values.signs_of xs)
unfolding with_summand
summands_kept o ys [] = ap (λ z. (o, z)) (sym (append_end ys))
summands_kept o ys (x ∷ xs) =
    let rest = put_in with_operand (with_operand o (tree_of x.1)) (map tree_of (values.parts_of xs)) in
    summands_kept (with_operand o (tree_of x.1)) (ys ++ x.0 ∷ []) xs ∙ ap (λ z. (rest, z)) (append_assoc ys (x.0 ∷ []) (values.signs_of xs))

pub sum_kept : (r : Term × List (Sign × Term)) → tree_of (values.sum_of r.0 r.1) ≡ t.sum_of (summed (tree_of r.0) (map signed_kept r.1))
sum_kept (x, []) = refl
sum_kept (x, y ∷ ys) =
    let signs = values.signs_of (y ∷ ys) in
    many_kept (e.Sum signs) (x ∷ values.parts_of (y ∷ ys)) refl
    ∙ ap (λ z. t.sum_of (z, signs)) (sym (operands_kept x y.1 (values.parts_of ys)))
    ∙ ap t.sum_of (sym (summands_kept (One (tree_of x).0 (tree_of x).1) [] (y ∷ ys)))

pub exists_kept : (r : values.SelectParts) → tree_of (e.Exists (values.query_of r)) ≡ t.exists_of (select_kept r)
unfolding t.exists_of
exists_kept r =
    node_kept (e.Exists (values.query_of r)) (e.Exists (query_of (select_kept r))) (query_height (values.query_of r)) (select_depth (select_kept r)) refl
    (λ h. let k = query_is_low r h in (ap e.Exists k.0, k.1)) (query_is_high r)

pub scalar_kept : (r : values.SelectParts) → tree_of (e.Scalar (values.query_of r)) ≡ t.scalar_of (select_kept r)
unfolding t.scalar_of
scalar_kept r =
    node_kept (e.Scalar (values.query_of r)) (e.Scalar (query_of (select_kept r))) (below r) (parted_select (select_kept r)).1 refl
    (λ h. let k = query_low r h in (ap e.Scalar k.0, k.1)) (query_high r)

-- a node above two parts, each as it is kept
module _ {A : Type 0} (node : Term → A → Term) (x : Term) (a a' : A) (h d : ℕ) (low : d ≤ 64 → (a' ≡ a) × (d ≡ h)) (high : 64 < d → 64 < h) where
  two_kept : height (node x a) ≡ max (height x) h + 1 → tree_of (node x a) ≡ above (max (tree_of x).1 d) (node (tree_of x).0 a')
  two_kept up =
      node_kept (node x a) (node (tree_of x).0 a') (max (height x) h) (max (tree_of x).1 d) up
      (λ u. let k = tree_low x (omega (arith, u)) in let j = low (omega (arith, u)) in (rw (k.0, j.0) refl, rw (k.1, j.1) refl))
      (λ u. go u (nat_lt 64 (tree_of x).1) refl)
    where
      go : 64 < max (tree_of x).1 d → (b : Bool) → nat_lt 64 (tree_of x).1 ≡ b → 64 < max (height x) h
      go u true p = let k = tree_high x (ltb-true 64 (tree_of x).1 p) in omega (arith, k)
      go u false p =
          let under : (tree_of x).1 ≤ 64 = ltb-false 64 (tree_of x).1 p in
          let k = high (omega (arith, u, under)) in omega (arith, k)

-- IN or NOT IN, above its left side and the list
list_is_kept : (node : Term → Terms → Term) (x : Term) (xs : List Term) → height (node x (terms_of xs)) ≡ max (height x) (heights (terms_of xs)) + 1
    → tree_of (node x (terms_of xs)) ≡ above (max (tree_of x).1 (deepest xs)) (node (tree_of x).0 (terms_of (terms_kept xs)))
list_is_kept node x xs up =
    two_kept node x (terms_of xs) (terms_of (terms_kept xs)) (heights (terms_of xs)) (deepest xs) (λ h. let k = terms_low xs h in (ap terms_of k.0, k.1)) (terms_high xs) up

-- the same, above a subquery
query_is_kept : (node : Term → Query → Term) (x : Term) (r : values.SelectParts) → height (node x (values.query_of r)) ≡ max (height x) (query_height (values.query_of r)) + 1
    → tree_of (node x (values.query_of r)) ≡ above (max (tree_of x).1 (select_depth (select_kept r))) (node (tree_of x).0 (query_of (select_kept r)))
query_is_kept node x r up =
    two_kept node x (values.query_of r) (query_of (select_kept r)) (query_height (values.query_of r)) (select_depth (select_kept r)) (query_is_low r) (query_is_high r) up

pub among_kept : (r : Term × Option (Option (Unit {0}) × values.Choices)) → tree_of (values.among r.0 r.1) ≡ t.among (tree_of r.0) (of_some in_kept r.1)
unfolding among_of
among_kept (x, None) = refl
among_kept (x, Some (None, inl xs)) = list_is_kept e.InList x xs refl
among_kept (x, Some (Some _, inl xs)) = list_is_kept e.NotInList x xs refl
among_kept (x, Some (None, inr r)) = query_is_kept e.InSubquery x r refl
among_kept (x, Some (Some _, inr r)) = query_is_kept e.NotInSubquery x r refl

parts_kept : (ys : List Term) (d : ℕ) (xs : List Term) → put_in with_part (ys, d) (map tree_of xs) ≡ (ys ++ terms_kept xs, max d (deepest xs))
unfolding with_part
parts_kept ys d [] = let k : max d 0 ≡ d = omega arith in rw (k) (ap (λ z. (z, d)) (sym (append_end ys)))
parts_kept ys d (x ∷ xs) =
    let k : max (max d (tree_of x).1) (deepest xs) ≡ max d (max (tree_of x).1 (deepest xs)) = omega arith in
    parts_kept (ys ++ (tree_of x).0 ∷ []) (max d (tree_of x).1) xs ∙ ap (λ z. (z, max (max d (tree_of x).1) (deepest xs))) (append_assoc ys ((tree_of x).0 ∷ []) (terms_kept xs)) ∙ ap (λ z. (ys ++ (tree_of x).0 ∷ terms_kept xs, z)) k

pub tuple_is_kept : (r : Term × List Term) → tuple_kept (r.0 ∷ r.1) ≡ tuple_of (tree_of r.0) (map tree_of r.1)
tuple_is_kept r = sym (parts_kept ((tree_of r.0).0 ∷ []) (tree_of r.0).1 r.1)

more_kept : (ys : List (List Term)) (d : ℕ) (xs : List (List Term)) → put_in with_tuple (ys, d) (map tuple_kept xs) ≡ (ys ++ map terms_kept xs, max d (deepest_tuple xs))
unfolding with_tuple
more_kept ys d [] = let k : max d 0 ≡ d = omega arith in rw (k) (ap (λ z. (z, d)) (sym (append_end ys)))
more_kept ys d (x ∷ xs) =
    let k : max (max d (deepest x)) (deepest_tuple xs) ≡ max d (max (deepest x) (deepest_tuple xs)) = omega arith in
    more_kept (ys ++ terms_kept x ∷ []) (max d (deepest x)) xs ∙ ap (λ z. (z, max (max d (deepest x)) (deepest_tuple xs))) (append_assoc ys (terms_kept x ∷ []) (map terms_kept xs)) ∙ ap (λ z. (ys ++ terms_kept x ∷ map terms_kept xs, z)) k

pub tuples_are_kept : (r : List Term × List (List Term)) → tuples_kept (r.0 ∷ r.1) ≡ tuples_of (tuple_kept r.0) (map tuple_kept r.1)
tuples_are_kept r = sym (more_kept (terms_kept r.0 ∷ []) (deepest r.0) r.1)

more_set : (ys : List Assignment) (d : ℕ) (xs : List Assignment) → put_in with_set_column (ys, d) (map set_column_kept xs) ≡ (ys ++ assignments_kept xs, max d (deepest (set_values xs)))
unfolding with_set_column
more_set ys d [] = let k : max d 0 ≡ d = omega arith in rw (k) (ap (λ z. (z, d)) (sym (append_end ys)))
more_set ys d (x ∷ xs) =
    let y = set_column_kept x in
    let k : max (max d y.1) (deepest (set_values xs)) ≡ max d (max y.1 (deepest (set_values xs))) = omega arith in
    more_set (ys ++ y.0 ∷ []) (max d y.1) xs ∙ ap (λ z. (z, max (max d y.1) (deepest (set_values xs)))) (append_assoc ys (y.0 ∷ []) (assignments_kept xs)) ∙ ap (λ z. (ys ++ y.0 ∷ assignments_kept xs, z)) k

pub set_columns_are_kept : (r : Assignment × List Assignment) → set_columns_kept (r.0 ∷ r.1) ≡ set_columns_of (set_column_kept r.0) (map set_column_kept r.1)
set_columns_are_kept r = sym (more_set ((set_column_kept r.0).0 ∷ []) (set_column_kept r.0).1 r.1)

names_kept : (xs : List Assignment) → values.set_names (assignments_kept xs) ≡ values.set_names xs
names_kept [] = refl
names_kept (x ∷ xs) = ap (λ z. x.column ∷ z) (names_kept xs)

pub distinct_kept : (xs : List Assignment) → values.are_distinct (values.set_names (set_columns_kept xs).0) ≡ values.are_distinct (values.set_names xs)
distinct_kept xs = ap values.are_distinct (names_kept xs)

length_kept : (xs : List Term) → length (terms_kept xs) ≡ length xs
length_kept [] = refl
length_kept (x ∷ xs) = let k = length_kept xs in omega (arith, k)

lengths_kept : (n : ℕ) (xs : List (List Term)) → values.have_length n (map terms_kept xs) ≡ values.have_length n xs
lengths_kept n [] = refl
lengths_kept n (x ∷ xs) = ap (λ z. nat_eq z n && values.have_length n (map terms_kept xs)) (length_kept x) ∙ ap (λ z. nat_eq (length x) n && z) (lengths_kept n xs)

pub even_kept : (xs : List (List Term)) → values.are_even (tuples_kept xs).0 ≡ values.are_even xs
even_kept [] = refl
even_kept (x ∷ xs) = ap (λ n. values.have_length n (map terms_kept xs)) (length_kept x) ∙ lengths_kept (length x) xs

as_long_kept : (o : Option (List (List ℕ))) (xs : List (List Term)) → values.are_as_long o (tuples_kept xs).0 ≡ values.are_as_long o xs
as_long_kept None xs = refl
as_long_kept (Some names) xs = lengths_kept (length names) xs

pub long_kept : (r : values.Rows) → values.are_as_long (rows_kept r).0 (rows_kept r).1.0 ≡ values.are_as_long r.0 r.1
long_kept r = as_long_kept r.0 r.1

there_kept : (o : Option Term) → is_some (of_some tree_of o) ≡ is_some o
there_kept None = refl
there_kept (Some x) = refl

pub is_policy_kept : (r : values.Description Term) → values.is_policy (description_kept r) ≡ values.is_policy r
is_policy_kept r = rw (there_kept r.1.1.0, there_kept r.1.1.1) refl

pub is_change_kept : (r : values.PolicyChange Term) → values.is_change (change_kept r) ≡ values.is_change r
is_change_kept r = rw (there_kept r.1.0, there_kept r.1.1) refl
