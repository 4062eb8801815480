-- The objects that two footprints have in common are the same, whichever of the two is looked through.
use Rattle.std.proofs.Common.{◌≡◌, refl, ℕ, zero, suc, ◌+◌, ◌≤◌, Bool, true, false, ◌||◌, cond, List, [], ◌∷◌, ◌++◌, length, filter, get_or, map, sym, ap, subst, ◌∙◌, arith, append-nil}
use Rattle.std.specs.List.{AllByRecursion}
use Rattle.std.specs.List.Sorted.{IsStrictlySortedBy}
use Rattle.std.specs.Ordering.{is_eq, ordering_reverse}
use Rattle.std.specs.declared.cmp.Ordering.{Ordering}
use Rattle.std.specs.declared.cmp.Ordering.TheVariants.{Less, Equal, Greater}
use Rattle.std.proofs.lemmas.Cmp.{tied_itself}
use Rattle.rls_value.specs.declared.object.Object.{Object}
use Rattle.rls_value.specs.{Objects.object_order, ObjectOrder.objects_total}
use Rattle.rls_value.proofs.ObjectOrderLaws.{objects_same}
use Rattle.rls_explain.specs.rls_meaning.specs.rls_guard.specs.rls_source.specs.Footprints.{IsInOrder, is_among}
use Rattle.rls_check.specs.declared.edges.Conflict.{Conflict}
use Rattle.rls_check.specs.GraphSteps.{common}

-- all of them come behind the object
abbrev AllAbove : Object → List Object → Type 0
AllAbove x objects = AllByRecursion (λ y. object_order x y ≡ Less) objects

above_all : (x y : Object) (objects : List Object) → object_order x y ≡ Less → AllAbove y objects → AllAbove x objects
above_all x y [] less all = tt
above_all x y (z ∷ objects) less all = (objects_total.trans x y z less all.0, above_all x y objects less all.1)

-- it isn't among those behind it
not_among : (x : Object) (objects : List Object) → AllAbove x objects → is_among objects x ≡ false
not_among x [] all = refl
not_among x (y ∷ objects) all = ap (λ order. is_eq order || is_among objects x) all.0 ∙ not_among x objects all.1

behind : (x y : Object) → object_order x y ≡ Less → object_order y x ≡ Greater
behind x y less = objects_total.antisymm y x ∙ ap ordering_reverse less

-- and none of these is it
skipped : (x : Object) (a b : List Object) → AllAbove x b → filter (is_among (x ∷ a)) b ≡ filter (is_among a) b
skipped x a [] all = refl
skipped x a (y ∷ b) all =
    λ i. cond (is_eq (behind x y all.0 i) || is_among a y) (y ∷ skipped x a b all.1 i) (skipped x a b all.1 i)

-- one fewer
left_less : (x y : Object) (a b : List Object) → object_order x y ≡ Less → AllAbove y b → filter (is_among (y ∷ b)) a ≡ filter (is_among a) (y ∷ b)
    → filter (is_among (y ∷ b)) (x ∷ a) ≡ filter (is_among (x ∷ a)) (y ∷ b)
left_less x y a b less above rest =
    let all : AllAbove x (y ∷ b) = (less, above_all x y b less above) in
    ap (λ it. cond it (x ∷ filter (is_among (y ∷ b)) a) (filter (is_among (y ∷ b)) a)) (not_among x (y ∷ b) all) ∙ rest ∙ sym (skipped x a (y ∷ b) all)

found_first : (x : Object) (a b : List Object) → AllAbove x a → filter (is_among (x ∷ b)) (x ∷ a) ≡ x ∷ filter (is_among b) a
found_first x a b all =
    ap (λ order. cond (is_eq order || is_among b x) (x ∷ filter (is_among (x ∷ b)) a) (filter (is_among (x ∷ b)) a)) (tied_itself objects_total x) ∙ ap (λ rest. x ∷ rest) (skipped x b a all)

both_first : (x y : Object) (a b : List Object) → object_order x y ≡ Equal → AllAbove x a → AllAbove y b → filter (is_among b) a ≡ filter (is_among a) b → filter (is_among (y ∷ b)) (x ∷ a) ≡ filter (is_among (x ∷ a)) (y ∷ b)
both_first x y a b is above over rest =
    let same : x ≡ y = objects_same x y is in
    ap (λ it. filter (is_among (it ∷ b)) (x ∷ a)) (sym same) ∙ found_first x a b above ∙ ap (λ them. x ∷ them) rest
    ∙ sym (found_first x b a (subst (λ it. AllAbove it b) (sym same) over)) ∙ ap (λ it. filter (is_among (x ∷ a)) (it ∷ b)) same

none_among : (b : List Object) → [] ≡ filter (is_among []) b
none_among [] = refl
none_among (y ∷ b) = none_among b

-- the two lists, of so many objects at most, may be turned
abbrev Turned : ℕ → Type 0
Turned n = (a b : List Object) → length a + length b ≤ n → IsInOrder a → IsInOrder b → filter (is_among b) a ≡ filter (is_among a) b

turned_by : (n : ℕ) → Turned n → (order : Ordering) (x y : Object) (a b : List Object) → object_order x y ≡ order → suc (length a) + suc (length b) ≤ suc n → IsInOrder (x ∷ a) → IsInOrder (y ∷ b)
    → filter (is_among (y ∷ b)) (x ∷ a) ≡ filter (is_among (x ∷ a)) (y ∷ b)
unfolding IsStrictlySortedBy
turned_by n rest Less x y a b is fits ordered also = left_less x y a b is also.0 (rest a (y ∷ b) (omega (arith, fits)) ordered.1 also)
turned_by n rest Equal x y a b is fits ordered also = both_first x y a b is ordered.0 also.0 (rest a b (omega (arith, fits)) ordered.1 also.1)
turned_by n rest Greater x y a b is fits ordered also =
    let less : object_order y x ≡ Less = objects_total.antisymm y x ∙ ap ordering_reverse is in
    sym (left_less y x b a less ordered.0 (sym (rest (x ∷ a) b (omega (arith, fits)) ordered also.1)))

turned_to : (n : ℕ) → Turned n
turned_to n [] b fits ordered also = none_among b
turned_to n (x ∷ a) [] fits ordered also = sym (none_among (x ∷ a))
turned_to zero (x ∷ a) (y ∷ b) fits ordered also = absurd (omega (arith, fits))
turned_to (suc n) (x ∷ a) (y ∷ b) fits ordered also = turned_by n (turned_to n) (object_order x y) x y a b refl fits ordered also

-- what is common is what is kept
pub common_is : (a b : List Object) → common a b ≡ filter (is_among b) a
common_is [] b = refl
common_is (x ∷ a) b = λ i. cond (is_among b x) (x ∷ common_is a b i) (common_is a b i)

pub common_turned : (a b : List Object) → IsInOrder a → IsInOrder b → common a b ≡ common b a
common_turned a b ordered also = common_is a b ∙ turned_to (length a + length b) a b (omega arith) ordered also ∙ sym (common_is b a)

none_common : (a : List Object) → common a [] ≡ []
none_common [] = refl
none_common (x ∷ a) = none_common a

-- no edge comes of nothing
pub nothing_common : (edges : List Conflict) (edge : Object → Conflict) (a b : List Object) → b ≡ [] → edges ≡ edges ++ map edge (common a b)
nothing_common edges edge a b none = sym (append-nil edges) ∙ ap (λ them. edges ++ map edge them) (sym (ap (common a) none ∙ none_common a))
