-- Worked examples of what is supported, around a table t whose primary key is its column 0. Each is a theorem that computes.
use Rattle.std.specs.Prelude.{◌≡◌, refl, ℕ, pos, List, [], ◌∷◌, true, false, None, codes}
use Rattle.rls_evaluation.specs.rls_catalog.specs.rls_expr.specs.rls_value.specs.declared.value.Value.TheVariants as v
use Rattle.rls_evaluation.specs.rls_catalog.specs.rls_expr.specs.declared.expr.Category.TheVariants as c
use Rattle.rls_evaluation.specs.rls_catalog.specs.rls_expr.specs.declared.expr.Comparison.TheVariants.{Equal, Less}
use Rattle.rls_evaluation.specs.rls_catalog.specs.rls_expr.specs.declared.expr.FromItem.{FromItem}
use Rattle.rls_evaluation.specs.rls_catalog.specs.rls_expr.specs.declared.expr.Selects.TheVariants as s
use Rattle.rls_evaluation.specs.rls_catalog.specs.rls_expr.specs.declared.expr.Sign.TheVariants.{Plus}
use Rattle.rls_evaluation.specs.rls_catalog.specs.rls_expr.specs.Terms.{Term, Terms, Literal, Var, CurrentUser, Compare, And, Or, Exists, Scalar, Sum, End, More, Select}
use Rattle.rls_guard.specs.Support.{is_unsupported}

-- a column of the innermost table, resolved
abbrev inner : ℕ → Term
inner column = Var (record { level = 0; column = column; kind = c.Number })

-- a column of the table around it
abbrev outer : ℕ → Term
outer column = Var (record { level = 1; column = column; kind = c.Number })

-- the literal 7
abbrev seven : Term
seven = Literal (v.Int (pos 7))

-- FROM t
abbrev from_t : FromItem
from_t = record { table = codes "t"; alias = None }

-- one term
abbrev one : Term → Terms
one t = More t End

-- two terms
abbrev two : Term → Term → Terms
two t u = More t (one u)

-- (SELECT column 1 FROM t WHERE ..)
abbrev selected_where : List ℕ → Terms → Term
selected_where key condition = Scalar (Select from_t key s.Items (one (inner 1)) condition)

-- EXISTS (SELECT .. FROM t WHERE ..)
abbrev exists_where : Terms → Terms → Term
exists_where items condition = Exists (Select from_t (0 ∷ []) s.Items items condition)

-- column 1 plus 7
abbrev sum : Term
sum = Sum (Plus ∷ []) (two (inner 1) seven)

-- a sum may stand on the right side of SET
sum_in_set : is_unsupported true sum ≡ false
sum_in_set = refl

-- and nowhere else
sum_in_where : is_unsupported false (Compare Less sum seven) ≡ true
sum_in_where = refl

-- so too in a subquery on the right side of SET
sum_in_subquery_of_set : is_unsupported true (exists_where (one sum) (one (Compare Equal sum seven))) ≡ false
sum_in_subquery_of_set = refl

-- a sum selected by a subquery of WHERE isn't supported
sum_in_items_of_subquery : is_unsupported false (exists_where (one sum) End) ≡ true
sum_in_items_of_subquery = refl

-- nor is one in its condition
sum_in_condition_of_subquery : is_unsupported false (exists_where (one seven) (one (Compare Equal sum seven))) ≡ true
sum_in_condition_of_subquery = refl

-- `count(*)` in a subquery isn't supported, on the right side of SET either
count_in_subquery : is_unsupported true (Scalar (Select from_t (0 ∷ []) s.Count End (one (Compare Equal (inner 0) seven)))) ≡ true
count_in_subquery = refl

-- also where the subquery stands inside a subquery
count_further_in : is_unsupported true (exists_where (one seven) (one (Exists (Select from_t (0 ∷ []) s.Count End End)))) ≡ true
count_further_in = refl

-- a scalar subquery whose WHERE sets the key equal to a literal is supported
pinned_by_literal : is_unsupported false (selected_where (0 ∷ []) (one (Compare Equal (inner 0) seven))) ≡ false
pinned_by_literal = refl

-- or to the current role
pinned_by_current_user : is_unsupported false (selected_where (0 ∷ []) (one (Compare Equal (inner 0) CurrentUser))) ≡ false
pinned_by_current_user = refl

-- or to a column further out, which may stand on the left
pinned_from_outside : is_unsupported false (selected_where (0 ∷ []) (one (Compare Equal (outer 3) (inner 0)))) ≡ false
pinned_from_outside = refl

-- a column of its own doesn't pin it
not_pinned_by_own_column : is_unsupported false (selected_where (0 ∷ []) (one (Compare Equal (inner 0) (inner 1)))) ≡ true
not_pinned_by_own_column = refl

-- nor does another comparison
not_pinned_by_less : is_unsupported false (selected_where (0 ∷ []) (one (Compare Less (inner 0) seven))) ≡ true
not_pinned_by_less = refl

-- each column of a key of two has to be set equal
both_columns_pinned : is_unsupported false (selected_where (0 ∷ 2 ∷ []) (one (And (two (Compare Equal (inner 0) seven) (Compare Equal (inner 2) (outer 0)))))) ≡ false
both_columns_pinned = refl

-- the one alone isn't enough
one_column_of_two_pinned : is_unsupported false (selected_where (0 ∷ 2 ∷ []) (one (Compare Equal (inner 0) seven))) ≡ true
one_column_of_two_pinned = refl

-- a part of an AND inside the outermost one doesn't pin the key
nested_and : is_unsupported false (selected_where (0 ∷ []) (one (And (two (And (two (Compare Equal (inner 0) seven) seven)) seven)))) ≡ true
nested_and = refl

-- nor does a part of an OR
part_of_or : is_unsupported false (selected_where (0 ∷ []) (one (Or (two (Compare Equal (inner 0) seven) (Compare Equal (inner 0) seven))))) ≡ true
part_of_or = refl

-- with no WHERE a scalar subquery isn't supported
no_condition : is_unsupported true (selected_where (0 ∷ []) End) ≡ true
no_condition = refl

-- nor is one over a table with no primary key
no_key : is_unsupported true (selected_where [] (one (Compare Equal (inner 0) seven))) ≡ true
no_key = refl
