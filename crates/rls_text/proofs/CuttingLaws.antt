-- A statement that isn't too high is kept as it is; where what is kept is deeper than 64, the statement is higher than 64.
use Rattle.std.specs.Prelude.{◌≡◌, ◌≤◌, ◌<◌, max, nat_lt, Bool, true, false, List, [], ◌∷◌, map, Option, refl}
use Rattle.std.proofs.Common.{arith, ap, ◌∙◌}
use Rattle.std.proofs.lemmas.Bool.{ltb-true, ltb-false}
use Rattle.rls_expr.specs.Terms.{Term, terms_of}
use Rattle.rls_statement.specs.declared.changing.Assignment.{Assignment}
use Rattle.rls_statement.specs.declared.statement.Statement.{Statement}
use Rattle.rls_statement.specs.declared.statement.Statement.TheVariants as st
use Rattle.rls_text.specs.Cut.{of_some}
use Rattle.rls_text.specs.Heights.{heights, height_if, highest, set_values, height_of}
use Rattle.rls_text.specs.Trees.{parted, deeper}
use Rattle.rls_text.specs.Cutting.{tree_of, terms_kept, deepest, deepest_tuple, assignments_kept, conditions_kept, tree_with_depth_of, tree_low, terms_low, terms_high, if_low, if_high}

-- ---- one that isn't too high is kept as it is

pub tuples_low : (xs : List (List Term)) → deepest_tuple xs ≤ 64 → (map terms_kept xs ≡ xs) × (deepest_tuple xs ≡ highest xs)
tuples_low [] h = (refl, refl)
tuples_low (x ∷ xs) h =
    let first = terms_low x (omega (arith, h)) in
    let more = tuples_low xs (omega (arith, h)) in
    (rw (first.0, more.0) refl, rw (first.1, more.1) refl)

pub tuples_high : (xs : List (List Term)) → 64 < deepest_tuple xs → 64 < highest xs
tuples_high [] h = absurd (omega (arith, h))
tuples_high (x ∷ xs) h = go (nat_lt 64 (deepest x)) refl (tuples_high xs)
  where
    go : (b : Bool) → nat_lt 64 (deepest x) ≡ b → (64 < deepest_tuple xs → 64 < highest xs) → 64 < highest (x ∷ xs)
    go true e again = let k = terms_high x (ltb-true 64 (deepest x) e) in omega (arith, k)
    go false e again =
        let low : deepest x ≤ 64 = ltb-false 64 (deepest x) e in
        let k = again (omega (arith, h, low)) in omega (arith, k)

pub assignments_low : (xs : List Assignment) → deepest (set_values xs) ≤ 64 → assignments_kept xs ≡ xs
assignments_low [] h = refl
assignments_low (x ∷ xs) h =
    let first = tree_low x.value (omega (arith, h)) in
    let more = assignments_low xs (omega (arith, h)) in
    rw (first.0, more) refl

-- ---- a statement that isn't too high is kept as it is

pub tree_with_depth_low : (x : Statement) → (tree_with_depth_of x).1 ≤ 64 → ((tree_with_depth_of x).0 ≡ x) × ((tree_with_depth_of x).1 ≡ height_of x)
tree_with_depth_low (st.Select x) h = let k = if_low x.condition h in (ap (λ z. st.Select record { items = x.items; table = x.table; alias = x.alias; condition = z }) k.0, k.1)
tree_with_depth_low (st.Insert x) h = let k = tuples_low x.tuples h in (ap (λ z. st.Insert record x { tuples = z }) k.0, k.1)
tree_with_depth_low (st.Update x) h =
    let k = assignments_low x.assignments (omega (arith, h)) in
    let s = terms_low (set_values x.assignments) (omega (arith, h)) in
    let j = if_low x.condition (omega (arith, h)) in (
      ap (λ z. st.Update record x { assignments = z; condition = (parted (of_some tree_of x.condition)).0 }) k ∙ ap (λ z. st.Update record x { condition = z }) j.0,
      rw (s.1, j.1) refl,
    )
tree_with_depth_low (st.Delete x) h = let k = if_low x.condition h in (ap (λ z. st.Delete record x { condition = z }) k.0, k.1)
tree_with_depth_low (st.CreatePolicy x) h =
    let k = if_low x.policy.using (omega (arith, h)) in
    let j = if_low x.policy.check (omega (arith, h)) in (
      ap (λ z. st.CreatePolicy record { table = x.table; policy = record x.policy { using = z; check = (parted (of_some tree_of x.policy.check)).0 } }) k.0
          ∙ ap (λ z. st.CreatePolicy record { table = x.table; policy = record x.policy { check = z } }) j.0,
      rw (k.1, j.1) refl,
    )
tree_with_depth_low (st.AlterPolicy x) h =
    let k = if_low x.using (omega (arith, h)) in
    let j = if_low x.check (omega (arith, h)) in (
      ap (λ z. st.AlterPolicy record x { using = z; check = (parted (of_some tree_of x.check)).0 }) k.0 ∙ ap (λ z. st.AlterPolicy record x { check = z }) j.0,
      rw (k.1, j.1) refl,
    )
tree_with_depth_low (st.DropPolicy x) h = (refl, refl)
tree_with_depth_low (st.CreateRole x) h = (refl, refl)
tree_with_depth_low (st.CreateTable x) h = (refl, refl)
tree_with_depth_low (st.AlterTable x) h = (refl, refl)
tree_with_depth_low (st.Grant x) h = (refl, refl)
tree_with_depth_low (st.AlterRole x) h = (refl, refl)
tree_with_depth_low (st.GrantRoles x) h = (refl, refl)
tree_with_depth_low (st.Revoke x) h = (refl, refl)
tree_with_depth_low (st.RevokeRoles x) h = (refl, refl)
tree_with_depth_low (st.SetRole x) h = (refl, refl)
tree_with_depth_low (st.Transaction x) h = (refl, refl)

either_high : (using check : Option Term) → 64 < deeper (conditions_kept (using, check)) → 64 < max (height_if using) (height_if check)
either_high using check h = go (nat_lt 64 (parted (of_some tree_of using)).1) refl
  where
    go : (b : Bool) → nat_lt 64 (parted (of_some tree_of using)).1 ≡ b → 64 < max (height_if using) (height_if check)
    go true p = let k = if_high using (ltb-true 64 (parted (of_some tree_of using)).1 p) in omega (arith, k)
    go false p =
        let low : (parted (of_some tree_of using)).1 ≤ 64 = ltb-false 64 (parted (of_some tree_of using)).1 p in
        let k = if_high check (omega (arith, h, low)) in omega (arith, k)

update_high : (assignments : List Assignment) (condition : Option Term) → 64 < max (deepest (set_values assignments)) (parted (of_some tree_of condition)).1 → 64 < max (heights (terms_of (set_values assignments))) (height_if condition)
update_high assignments condition h = go (nat_lt 64 (deepest (set_values assignments))) refl
  where
    go : (b : Bool) → nat_lt 64 (deepest (set_values assignments)) ≡ b → 64 < max (heights (terms_of (set_values assignments))) (height_if condition)
    go true p = let k = terms_high (set_values assignments) (ltb-true 64 (deepest (set_values assignments)) p) in omega (arith, k)
    go false p =
        let low : deepest (set_values assignments) ≤ 64 = ltb-false 64 (deepest (set_values assignments)) p in
        let k = if_high condition (omega (arith, h, low)) in omega (arith, k)

pub tree_with_depth_high : (x : Statement) → 64 < (tree_with_depth_of x).1 → 64 < height_of x
tree_with_depth_high (st.Select x) h = if_high x.condition h
tree_with_depth_high (st.Insert x) h = tuples_high x.tuples h
tree_with_depth_high (st.Update x) h = update_high x.assignments x.condition h
tree_with_depth_high (st.Delete x) h = if_high x.condition h
tree_with_depth_high (st.CreatePolicy x) h = either_high x.policy.using x.policy.check h
tree_with_depth_high (st.AlterPolicy x) h = either_high x.using x.check h
tree_with_depth_high (st.DropPolicy x) h = absurd (omega (arith, h))
tree_with_depth_high (st.CreateRole x) h = absurd (omega (arith, h))
tree_with_depth_high (st.CreateTable x) h = absurd (omega (arith, h))
tree_with_depth_high (st.AlterTable x) h = absurd (omega (arith, h))
tree_with_depth_high (st.Grant x) h = absurd (omega (arith, h))
tree_with_depth_high (st.AlterRole x) h = absurd (omega (arith, h))
tree_with_depth_high (st.GrantRoles x) h = absurd (omega (arith, h))
tree_with_depth_high (st.Revoke x) h = absurd (omega (arith, h))
tree_with_depth_high (st.RevokeRoles x) h = absurd (omega (arith, h))
tree_with_depth_high (st.SetRole x) h = absurd (omega (arith, h))
tree_with_depth_high (st.Transaction x) h = absurd (omega (arith, h))
