-- The policies of a table stay in byte order of their names.
use Rattle.std.specs.Prelude.{◌≡◌, refl, ℕ, zero, suc, ◌+◌, List, [], ◌∷◌, ◌++◌, Bool, true, false, not, ◌||◌, cond, map, filter, take, drop, Option, Some, None, if◌then◌else◌}
use Rattle.std.specs.List.{AllByRecursion, find, position_or_len}
use Rattle.std.specs.List.Sorted.{IsStrictlySortedBy}
use Rattle.std.specs.Ordering.{is_lt, is_eq, ordering_reverse}
use Rattle.std.specs.Str.{bytes_eq}
use Rattle.std.specs.BTreeMap.{is_at}
use Rattle.std.specs.declared.cmp.Ordering.{Ordering}
use Rattle.std.specs.declared.cmp.Ordering.TheVariants.{Less, Equal, Greater}
use Rattle.std.proofs.Common.{ap, sym, subst, ◌∙◌}
use Rattle.std.proofs.{Math.ListN.set, Math.Numerals.one-add, lemmas.Bool.true≢false, lemmas.Cmp.nat_list_cmp_total, lemmas.List.Kept.IsStrictlySortedBy-filter, lemmas.Map.Text.is_eq-slice_cmp, lemmas.Slice.Eq.bytes_eq-Decides}
use Rattle.rls_expr.specs.declared.policy.Policy.{Policy}
use Rattle.shared_map.specs.Lists.{item_at, with_item, without_item}
use Rattle.shared_map.proofs.KeyOrder.{put_exchanges, put_inserts, removed_is_filtered}
use Rattle.rls_catalog.specs.{State.name_order, PolicyLists.InNameOrder, PolicyLists.is_named, PolicyLists.has_policy, PolicyLists.is_after, PolicyLists.with_policy, PolicyLists.without_policy, PolicyLists.with_replaced}

abbrev names : List Policy → List (List ℕ)
names policies = map (λ policy. policy.name) policies

abbrev Below : List ℕ → List (List ℕ) → Type 0
Below name others = AllByRecursion (λ other. name_order name other ≡ Less) others

-- ---- one exchanged

replaced_name : (b : Bool) (policy other : Policy) → bytes_eq other.name policy.name ≡ b → (if b then policy else other).name ≡ other.name
replaced_name true policy other is = sym ((bytes_eq-Decides other.name policy.name).0 is)
replaced_name false policy other is = refl

replaced_names : (policies : List Policy) (policy : Policy) → names (with_replaced policies policy) ≡ names policies
replaced_names [] policy = refl
replaced_names (other ∷ policies) policy = λ i. replaced_name (is_named policy.name other) policy other refl i ∷ replaced_names policies policy i

pub replaced_in_order : (policies : List Policy) (policy : Policy) → InNameOrder policies → InNameOrder (with_replaced policies policy)
replaced_in_order policies policy order = subst (IsStrictlySortedBy name_order) (sym (replaced_names policies policy)) order

-- ---- without one

left_name : (b : Bool) (policy : Policy) (left : List Policy) → names (cond b (policy ∷ left) left) ≡ cond b (policy.name ∷ names left) (names left)
left_name true policy left = refl
left_name false policy left = refl

left_names : (policies : List Policy) (name : List ℕ) → names (without_policy policies name) ≡ filter (λ other. not (bytes_eq other name)) (names policies)
left_names [] name = refl
left_names (policy ∷ policies) name =
    left_name (not (bytes_eq policy.name name)) policy (without_policy policies name)
    ∙ ap (λ left. cond (not (bytes_eq policy.name name)) (policy.name ∷ left) left) (left_names policies name)

pub dropped_in_order : (policies : List Policy) (name : List ℕ) → InNameOrder policies → InNameOrder (without_policy policies name)
dropped_in_order policies name order = subst (IsStrictlySortedBy name_order) (sym (left_names policies name)) (IsStrictlySortedBy-filter name_order (λ other. not (bytes_eq other name)) (names policies) order)

-- ---- with one more

abbrev put_at : ℕ → Policy → List Policy → List Policy
put_at n policy policies = take n policies ++ policy ∷ drop n policies

below_all : (a b : List ℕ) (others : List (List ℕ)) → name_order a b ≡ Less → Below b others → Below a others
below_all a b [] less below = tt
below_all a b (other ∷ others) less below = (nat_list_cmp_total.trans a b other less below.0, below_all a b others less below.1)

below_put : (name : List ℕ) (n : ℕ) (policy : Policy) (policies : List Policy) → name_order name policy.name ≡ Less → Below name (names policies) → Below name (names (put_at n policy policies))
below_put name zero policy policies less below = (less, below)
below_put name (suc n) policy [] less below = (less, tt)
below_put name (suc n) policy (other ∷ policies) less below = (below.0, below_put name n policy policies less below.1)

either_none : (a b : Bool) → (a || b) ≡ false → (a ≡ false) × (b ≡ false)
either_none true b none = absurd (true≢false none)
either_none false b none = (refl, none)

never_equal : {A : Type 0} (a b : List ℕ) → name_order a b ≡ Equal → bytes_eq b a ≡ false → A
never_equal a b tie other =
    absurd (true≢false (sym (ap is_eq (nat_list_cmp_total.antisymm b a ∙ ap ordering_reverse tie)) ∙ is_eq-slice_cmp b a ∙ other))

created_before : (policy other : Policy) (policies : List Policy) → name_order policy.name other.name ≡ Less → InNameOrder (other ∷ policies) → InNameOrder (with_policy (other ∷ policies) policy)
unfolding IsStrictlySortedBy
created_before policy other policies less order =
    subst (λ b. InNameOrder (put_at (cond (not b) (1 + position_or_len (is_after policy) policies) 0) policy (other ∷ policies))) (sym (ap is_lt less))
    ((less, below_all policy.name other.name (names policies) less order.0), order)

created_behind : (policy other : Policy) (policies : List Policy) → name_order policy.name other.name ≡ Greater → InNameOrder (other ∷ policies) → InNameOrder (with_policy policies policy) → InNameOrder (with_policy (other ∷ policies) policy)
unfolding IsStrictlySortedBy
created_behind policy other policies greater order further =
    subst (λ b. InNameOrder (put_at (cond (not b) (1 + position_or_len (is_after policy) policies) 0) policy (other ∷ policies))) (sym (ap is_lt greater))
    (subst (λ n. InNameOrder (put_at n policy (other ∷ policies))) (sym (one-add (position_or_len (is_after policy) policies)))
    (below_put other.name (position_or_len (is_after policy) policies) policy policies (nat_list_cmp_total.antisymm other.name policy.name ∙ ap ordering_reverse greater) order.0, further))

created_beside : (o : Ordering) (policy other : Policy) (policies : List Policy) → name_order policy.name other.name ≡ o → bytes_eq other.name policy.name ≡ false → InNameOrder (other ∷ policies) → InNameOrder (with_policy policies policy) → InNameOrder (with_policy (other ∷ policies) policy)
created_beside Less policy other policies is new order further = created_before policy other policies is order
created_beside Equal policy other policies is new order further = never_equal policy.name other.name is new
created_beside Greater policy other policies is new order further = created_behind policy other policies is order further

pub created_in_order : (policies : List Policy) (policy : Policy) → has_policy policies policy.name ≡ false → InNameOrder policies → InNameOrder (with_policy policies policy)
unfolding IsStrictlySortedBy
created_in_order [] policy new order = (tt, tt)
created_in_order (other ∷ policies) policy new order =
    let none = either_none (bytes_eq other.name policy.name) (has_policy policies policy.name) new in
    created_beside (name_order policy.name other.name) policy other policies refl none.0 order (created_in_order policies policy none.1 order.1)

-- ---- none

-- no policies stand in order
pub none_in_order : (policies : List Policy) → policies ≡ [] → InNameOrder policies
unfolding IsStrictlySortedBy
none_in_order policies none = subst InNameOrder (sym none) tt

-- ---- lists by their keys

equal_turned : (o : Ordering) → is_eq (ordering_reverse o) ≡ is_eq o
equal_turned Less = refl
equal_turned Equal = refl
equal_turned Greater = refl

named : (name : List ℕ) (policy : Policy) → is_at (name_order name) policy.name ≡ is_named name policy
named name policy = ap is_eq (nat_list_cmp_total.antisymm name policy.name) ∙ equal_turned (name_order policy.name name) ∙ is_eq-slice_cmp policy.name name

abbrev found : List ℕ → List Policy → Option Policy
found name policies = item_at (is_at (name_order name)) (λ policy. policy.name) policies

pub named_at : (name : List ℕ) (policies : List Policy) → found name policies ≡ find (is_named name) policies
named_at name [] = refl
named_at name (policy ∷ policies) = λ i. cond (named name policy i) (Some policy) (named_at name policies i)

none_named : (name : List ℕ) (policies : List Policy) → has_policy policies name ≡ false → found name policies ≡ None
none_named name [] none = refl
none_named name (policy ∷ policies) none =
    let neither = either_none (is_named name policy) (has_policy policies name) none in
    ap (λ b. cond b (Some policy) (found name policies)) (named name policy ∙ neither.0) ∙ none_named name policies neither.1

-- a policy of a new name takes its place
pub put_new : (policies : List Policy) (policy : Policy) → has_policy policies policy.name ≡ false → with_item name_order (λ p. p.name) policies policy ≡ with_policy policies policy
put_new policies policy new = put_inserts nat_list_cmp_total (λ p. p.name) policy policies (none_named policy.name policies new)

exchanged : (policies : List Policy) (policy : Policy) → map (λ p. cond (is_at (name_order policy.name) p.name) policy p) policies ≡ with_replaced policies policy
exchanged [] policy = refl
exchanged (other ∷ policies) policy = λ i. cond (named policy.name other i) policy other ∷ exchanged policies policy i

-- a policy takes the place of the one of its name
pub put_there : (policies : List Policy) (policy old : Policy) → InNameOrder policies → find (is_named policy.name) policies ≡ Some old → with_item name_order (λ p. p.name) policies policy ≡ with_replaced policies policy
put_there policies policy old order there =
    put_exchanges nat_list_cmp_total (λ p. p.name) (λ _. policy) policy old policies order (named_at policy.name policies ∙ there) refl ∙ exchanged policies policy

-- where none has its name, none is exchanged
pub put_nowhere : (policies : List Policy) (policy : Policy) → find (is_named policy.name) policies ≡ None → policies ≡ with_replaced policies policy
put_nowhere [] policy none = refl
put_nowhere (other ∷ policies) policy none =
    (elim (is_named policy.name other) as (λ b. cond b (Some other) (find (is_named policy.name) policies) ≡ None → other ∷ policies ≡ (if b then policy else other) ∷ with_replaced policies policy)
    [ true ↦ λ none. cc | false ↦ λ none. ap (λ l. other ∷ l) (put_nowhere policies policy none) ]) none

left : (policies : List Policy) (name : List ℕ) → filter (λ p. not (is_at (name_order name) p.name)) policies ≡ without_policy policies name
left [] name = refl
left (policy ∷ policies) name = λ i. cond (not (named name policy i)) (policy ∷ left policies name i) (left policies name i)

-- the policy of the name is taken away
pub taken_away : (policies : List Policy) (name : List ℕ) → InNameOrder policies → without_item (is_at (name_order name)) (λ p. p.name) policies ≡ without_policy policies name
taken_away policies name order = removed_is_filtered nat_list_cmp_total (λ p. p.name) name policies order ∙ left policies name
