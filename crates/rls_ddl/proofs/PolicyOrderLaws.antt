-- The policies of a table with one altered: they stay in order, and one of them is exchanged.
use Rattle.std.specs.Prelude.{◌≡◌, refl, ℕ, List, [], ◌∷◌, Bool, true, false, cond, Some, None, map, if◌then◌else◌}
use Rattle.std.specs.List.{AllByRecursion, find}
use Rattle.std.specs.{List.Sorted.IsStrictlySortedBy, Str.bytes_eq, declared.cmp.Ordering.TheVariants.Less}
use Rattle.std.specs.Ordering.{is_eq, ordering_reverse}
use Rattle.std.proofs.Common.{ap, sym, subst, ◌∙◌}
use Rattle.std.proofs.{lemmas.Cmp.nat_list_cmp_total, lemmas.Map.Text.is_eq-slice_cmp, lemmas.Slice.Eq.bytes_eq-Decides}
use Rattle.std.proofs.lemmas.Option.{none-some, same_Some}
use Rattle.rls_expr.specs.declared.policy.Policy.{Policy}
use Rattle.rls_guard.specs.rls_catalog.specs.{State.name_order, PolicyLists.InNameOrder, PolicyLists.has_policy, PolicyLists.is_named, PolicyLists.with_policy, PolicyLists.with_replaced, PolicyLists.without_policy}
use Rattle.rls_guard.specs.rls_catalog.proofs.PolicyListLaws as catalog
use Rattle.rls_statement.specs.declared.statement.AlterPolicy.{AlterPolicy}
use Rattle.rls_ddl.specs.AlteringPolicies.{altered, with_altered}

abbrev names : List Policy → List (List ℕ)
names policies = map (λ policy. policy.name) policies

abbrev Below : List ℕ → List (List ℕ) → Type 0
Below name others = AllByRecursion (λ other. name_order name other ≡ Less) others

-- ---- in order

same_name : (b : Bool) (alter : AlterPolicy) (policy : Policy) → (if b then altered alter policy else policy).name ≡ policy.name
same_name true alter policy = refl
same_name false alter policy = refl

same_names : (alter : AlterPolicy) (policies : List Policy) → names (with_altered alter policies) ≡ names policies
same_names alter [] = refl
same_names alter (policy ∷ policies) = λ i. same_name (is_named alter.name policy) alter policy i ∷ same_names alter policies i

pub altered_in_order : (policies : List Policy) (alter : AlterPolicy) → InNameOrder policies → InNameOrder (with_altered alter policies)
altered_in_order policies alter order = subst (IsStrictlySortedBy name_order) (sym (same_names alter policies)) order

pub created_in_order : (policies : List Policy) (policy : Policy) → has_policy policies policy.name ≡ false → InNameOrder policies → InNameOrder (with_policy policies policy)
created_in_order policies policy new order = catalog.created_in_order policies policy new order

pub dropped_in_order : (policies : List Policy) (name : List ℕ) → InNameOrder policies → InNameOrder (without_policy policies name)
dropped_in_order policies name order = catalog.dropped_in_order policies name order

-- ---- one exchanged

-- the policies with f of the one of that name
abbrev with_at : List ℕ → (Policy → Policy) → List Policy → List Policy
with_at name f policies = map (λ policy. if is_named name policy then f policy else policy) policies

other_name : (a b : List ℕ) → name_order a b ≡ Less → bytes_eq b a ≡ false
other_name a b less = sym (is_eq-slice_cmp b a) ∙ ap is_eq (nat_list_cmp_total.antisymm b a ∙ ap ordering_reverse less)

none_behind : (name : List ℕ) (f : Policy → Policy) (policies : List Policy) → Below name (names policies) → with_at name f policies ≡ policies
none_behind name f [] below = refl
none_behind name f (policy ∷ policies) below =
    λ i. (if other_name name policy.name below.0 i then f policy else policy) ∷ none_behind name f policies below.1 i

-- what stands behind one of that name has others
behind : (name : List ℕ) (policy : Policy) (policies : List Policy) → is_named name policy ≡ true → Below policy.name (names policies) → Below name (names policies)
behind name policy policies is below = subst (λ other. Below other (names policies)) ((bytes_eq-Decides policy.name name).0 is) below

found_name : (b : Bool) (name : List ℕ) (found policy : Policy) (policies : List Policy) → is_named name policy ≡ b
    → cond b (Some policy) (find (is_named name) policies) ≡ Some found → (find (is_named name) policies ≡ Some found → found.name ≡ name) → found.name ≡ name
found_name true name found policy policies is found_is further = sym (ap (λ p. p.name) (same_Some policy found found_is)) ∙ (bytes_eq-Decides policy.name name).0 is
found_name false name found policy policies is found_is further = further found_is

-- what is found has the name
name_found : (name : List ℕ) (found : Policy) (policies : List Policy) → find (is_named name) policies ≡ Some found → found.name ≡ name
name_found name found [] is = absurd (none-some found is)
name_found name found (policy ∷ policies) is = found_name (is_named name policy) name found policy policies refl is (name_found name found policies)

found_at : (b : Bool) (name : List ℕ) (f : Policy → Policy) (found policy : Policy) (policies : List Policy) → is_named name policy ≡ b
    → cond b (Some policy) (find (is_named name) policies) ≡ Some found → InNameOrder (policy ∷ policies)
    → (find (is_named name) policies ≡ Some found → with_at name (λ _. f found) policies ≡ with_at name f policies)
    → (if b then f found else policy) ∷ with_at name (λ _. f found) policies ≡ (if b then f policy else policy) ∷ with_at name f policies
unfolding IsStrictlySortedBy
found_at true name f found policy policies is found_is order further =
    let below = behind name policy policies is order.0 in
    λ i. f (sym (same_Some policy found found_is) i) ∷ (none_behind name (λ _. f found) policies below ∙ sym (none_behind name f policies below)) i
found_at false name f found policy policies is found_is order further = ap (λ rest. policy ∷ rest) (further found_is)

-- the one that is found is the only one of its name
found_only : (name : List ℕ) (f : Policy → Policy) (found : Policy) (policies : List Policy) → InNameOrder policies → find (is_named name) policies ≡ Some found
    → with_at name (λ _. f found) policies ≡ with_at name f policies
unfolding IsStrictlySortedBy
found_only name f found [] order is = refl
found_only name f found (policy ∷ policies) order is = found_at (is_named name policy) name f found policy policies refl is order (found_only name f found policies order.1)

-- to alter is to exchange the policy of that name
pub altered_is_replaced : (policies : List Policy) (alter : AlterPolicy) (policy : Policy) → InNameOrder policies → find (is_named alter.name) policies ≡ Some policy
    → with_replaced policies (altered alter policy) ≡ with_altered alter policies
altered_is_replaced policies alter policy order is =
    ap (λ name. with_at name (λ _. altered alter policy) policies) (name_found alter.name policy policies is) ∙ found_only alter.name (altered alter) policy policies order is

none_at : (b : Bool) (alter : AlterPolicy) (policy : Policy) (policies : List Policy) → cond b (Some policy) (find (is_named alter.name) policies) ≡ None
    → (find (is_named alter.name) policies ≡ None → policies ≡ with_altered alter policies)
    → policy ∷ policies ≡ (if b then altered alter policy else policy) ∷ with_altered alter policies
none_at true alter policy policies is further = absurd (none-some policy (sym is))
none_at false alter policy policies is further = ap (λ rest. policy ∷ rest) (further is)

-- where none has the name, all stay
pub altered_none : (policies : List Policy) (alter : AlterPolicy) → find (is_named alter.name) policies ≡ None → policies ≡ with_altered alter policies
altered_none [] alter is = refl
altered_none (policy ∷ policies) alter is = none_at (is_named alter.name policy) alter policy policies is (altered_none policies alter)
