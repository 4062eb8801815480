-- There is room where there are so many subqueries, one inside another, at most.
use Rattle.std.proofs.Common.{◌≡◌, ℕ, zero, suc, ◌+◌, ◌-◌, ◌<◌, Bool, true, false, List, [], ◌∷◌, refl, arith, ap, ◌∙◌}
use Rattle.std.specs.Prelude.{nat_lt, not, ◌&&◌, max}
use Rattle.std.proofs.lemmas.Bool.{ltb-true, ltb-false, lt-ltb, le-ltb}
use Rattle.rls_expr.specs.declared.expr.FromItem.{FromItem}
use Rattle.rls_expr.specs.declared.expr.Selects.{Selects}
use Rattle.rls_expr.specs.Terms.{Term, Terms, Query, Literal, Column, Var, CurrentUser, Compare, And, Or, Not, IsNull, IsNotNull, InList, NotInList, Exists, InSubquery, NotInSubquery, Scalar, Sum, End, More, Select}
use Rattle.rls_expr.specs.Terms.{terms_of, maybe_term}
use Rattle.rls_statement.specs.declared.statement.Statement.{Statement}
use Rattle.rls_statement.specs.declared.statement.Statement.TheVariants as st
use Rattle.rls_text.specs.Heights.{set_values}
use Rattle.rls_text.specs.Nested.{query_depth, deepest_query, depth_of_query, deepest_in, subqueries_of, has_room, have_room, query_room, tuples_room, statement_room}

-- inside a subquery there is room for one fewer
pub room_inside : (n : ℕ) (from : FromItem) (key : List ℕ) (selects : Selects) (items condition : Terms) → 0 < n
    → query_room n (Select from key selects items condition) ≡ (have_room (n - 1) items && have_room (n - 1) condition)
room_inside zero from key selects items condition h = absurd (omega arith)
room_inside (suc n) from key selects items condition h = let e : n ≡ suc n - 1 = omega arith in ap (λ m. have_room m items && have_room m condition) e

-- the greater of two numbers is at most n where both are
at_most : (n a b : ℕ) → (not (nat_lt n a) && not (nat_lt n b)) ≡ not (nat_lt n (max a b))
at_most n a b = go (nat_lt n a) (nat_lt n b) refl refl
  where
    go : (c d : Bool) → nat_lt n a ≡ c → nat_lt n b ≡ d → (not c && not d) ≡ not (nat_lt n (max a b))
    go true d p q = let over : nat_lt n (max a b) ≡ true = lt-ltb n (max a b) (omega (arith, ltb-true n a p)) in rw over refl
    go false true p q = let over : nat_lt n (max a b) ≡ true = lt-ltb n (max a b) (omega (arith, ltb-true n b q)) in rw over refl
    go false false p q = let under : nat_lt n (max a b) ≡ false = le-ltb n (max a b) (omega (arith, ltb-false n a p, ltb-false n b q)) in rw under refl

both_are : (n a b : ℕ) (c d : Bool) → c ≡ not (nat_lt n a) → d ≡ not (nat_lt n b) → (c && d) ≡ not (nat_lt n (max a b))
both_are n a b c d p q = rw (p, q) (at_most n a b)

one_more : (n a : ℕ) → not (nat_lt n a) ≡ not (nat_lt (suc n) (a + 1))
one_more n a = go (nat_lt n a) refl
  where
    go : (c : Bool) → nat_lt n a ≡ c → not c ≡ not (nat_lt (suc n) (a + 1))
    go true p = let over : nat_lt (suc n) (a + 1) ≡ true = lt-ltb (suc n) (a + 1) (omega (arith, ltb-true n a p)) in rw over refl
    go false p = let under : nat_lt (suc n) (a + 1) ≡ false = le-ltb (suc n) (a + 1) (omega (arith, ltb-false n a p)) in rw under refl

none_is_over : (n : ℕ) → true ≡ not (nat_lt n 0)
none_is_over n = let under : nat_lt n 0 ≡ false = le-ltb n 0 (omega arith) in rw under refl

one_is_over : (a : ℕ) → false ≡ not (nat_lt 0 (a + 1))
one_is_over a = let over : nat_lt 0 (a + 1) ≡ true = lt-ltb 0 (a + 1) (omega arith) in rw over refl

mutual
  room_is : (n : ℕ) (t : Term) → has_room n t ≡ not (nat_lt n (query_depth t))
  room_is n (Literal v) = none_is_over n
  room_is n (Column name) = none_is_over n
  room_is n (Var at) = none_is_over n
  room_is n CurrentUser = none_is_over n
  room_is n (Compare how a b) = both_are n (query_depth a) (query_depth b) (has_room n a) (has_room n b) (room_is n a) (room_is n b)
  room_is n (And ts) = rooms_are n ts
  room_is n (Or ts) = rooms_are n ts
  room_is n (Not t) = room_is n t
  room_is n (IsNull t) = room_is n t
  room_is n (IsNotNull t) = room_is n t
  room_is n (InList t ts) = both_are n (query_depth t) (deepest_query ts) (has_room n t) (have_room n ts) (room_is n t) (rooms_are n ts)
  room_is n (NotInList t ts) = both_are n (query_depth t) (deepest_query ts) (has_room n t) (have_room n ts) (room_is n t) (rooms_are n ts)
  room_is n (Exists q) = query_room_is n q
  room_is n (InSubquery t q) = both_are n (query_depth t) (depth_of_query q) (has_room n t) (query_room n q) (room_is n t) (query_room_is n q)
  room_is n (NotInSubquery t q) = both_are n (query_depth t) (depth_of_query q) (has_room n t) (query_room n q) (room_is n t) (query_room_is n q)
  room_is n (Scalar q) = query_room_is n q
  room_is n (Sum signs ts) = rooms_are n ts

  rooms_are : (n : ℕ) (ts : Terms) → have_room n ts ≡ not (nat_lt n (deepest_query ts))
  rooms_are n End = none_is_over n
  rooms_are n (More t ts) = both_are n (query_depth t) (deepest_query ts) (has_room n t) (have_room n ts) (room_is n t) (rooms_are n ts)

  query_room_is : (n : ℕ) (q : Query) → query_room n q ≡ not (nat_lt n (depth_of_query q))
  query_room_is zero (Select from key selects items condition) = one_is_over (max (deepest_query items) (deepest_query condition))
  query_room_is (suc n) (Select from key selects items condition) =
      both_are n (deepest_query items) (deepest_query condition) (have_room n items) (have_room n condition) (rooms_are n items) (rooms_are n condition)
      ∙ one_more n (max (deepest_query items) (deepest_query condition))

tuples_are : (n : ℕ) (tuples : List (List Term)) → tuples_room n tuples ≡ not (nat_lt n (deepest_in tuples))
tuples_are n [] = none_is_over n
tuples_are n (terms ∷ tuples) = both_are n (deepest_query (terms_of terms)) (deepest_in tuples) (have_room n (terms_of terms)) (tuples_room n tuples) (rooms_are n (terms_of terms)) (tuples_are n tuples)

two_are : (n : ℕ) (ts us : Terms) → (have_room n ts && have_room n us) ≡ not (nat_lt n (max (deepest_query ts) (deepest_query us)))
two_are n ts us = both_are n (deepest_query ts) (deepest_query us) (have_room n ts) (have_room n us) (rooms_are n ts) (rooms_are n us)

statement_is : (n : ℕ) (x : Statement) → statement_room n x ≡ not (nat_lt n (subqueries_of x))
statement_is n (st.Select x) = rooms_are n (maybe_term x.condition)
statement_is n (st.Insert x) = tuples_are n x.tuples
statement_is n (st.Update x) = two_are n (terms_of (set_values x.assignments)) (maybe_term x.condition)
statement_is n (st.Delete x) = rooms_are n (maybe_term x.condition)
statement_is n (st.CreatePolicy x) = two_are n (maybe_term x.policy.using) (maybe_term x.policy.check)
statement_is n (st.AlterPolicy x) = two_are n (maybe_term x.using) (maybe_term x.check)
statement_is n (st.DropPolicy x) = none_is_over n
statement_is n (st.CreateRole x) = none_is_over n
statement_is n (st.CreateTable x) = none_is_over n
statement_is n (st.AlterTable x) = none_is_over n
statement_is n (st.Grant x) = none_is_over n
statement_is n (st.AlterRole x) = none_is_over n
statement_is n (st.GrantRoles x) = none_is_over n
statement_is n (st.Revoke x) = none_is_over n
statement_is n (st.RevokeRoles x) = none_is_over n
statement_is n (st.SetRole x) = none_is_over n
statement_is n (st.Transaction x) = none_is_over n

-- Where there is no room there are more.
pub no_room_is : (n : ℕ) (x : Statement) → not (statement_room n x) ≡ nat_lt n (subqueries_of x)
no_room_is n x = ap not (statement_is n x) ∙ twice (nat_lt n (subqueries_of x))
  where
    twice : (b : Bool) → not (not b) ≡ b
    twice true = refl
    twice false = refl
