-- The rows of a table that have a key are those among the numbers that the index has under it.
use Rattle.std.specs.Prelude.{◌≡◌, refl, List, [], ◌∷◌, ◌++◌, Some, None, Bool, true, false, cond, is_some, map}
use Rattle.std.specs.{BTreeMap.is_at, Map.lookup, Map.keys_of, Ordering.is_eq, Ordering.ordering_reverse}
use Rattle.std.specs.{List.AllByRecursion, List.Sorted.IsStrictlySortedBy, declared.cmp.Ordering.Ordering}
use Rattle.std.specs.declared.cmp.Ordering.TheVariants.{Less, Equal, Greater}
use Rattle.std.proofs.Common.{ap, sym, ◌∙◌}
use Rattle.std.proofs.{lemmas.Bool.true≢false, lemmas.Cmp.eq_by_cmp_equiv, lemmas.Map.lookup-none}
use Rattle.std.proofs.lemmas.Map.Entries.{none_below_head, none_past_head}
use Rattle.std.proofs.lemmas.Map.Keys.{sorted_tail, sorted_head, IsDistinct-from_sorted}
use Rattle.rls_expr.specs.rls_value.specs.{declared.row.RowId.RowId, declared.value.Value.Value}
use Rattle.rls_catalog.specs.{declared.stored.Keyed.Keyed, declared.stored.Stored.Stored, State.id_order, State.is_same_row, State.stored_of, State.with_key, KeyIndex.is_among, KeyIndex.picked, KeyIndex.with_key_at}
use Rattle.rls_catalog.proofs.{Places.id_total, Places.same_id, Places.below_all, KeyIndexLemmas.same_number, KeyIndexLemmas.own_number}

no : {A : Type 0} → false ≡ true → A
no is = absurd (true≢false (sym is))

-- each row that has the key is among the numbers
abbrev pub CoversKey : List Value → List (RowId × Keyed) → List (RowId × Unit {0}) → Type 0
CoversKey key rows ids = (id : RowId) (keyed : Keyed) → lookup (is_at (id_order id)) rows ≡ Some keyed → is_same_row keyed.key key ≡ true → is_among ids id ≡ true

-- the rows that have the key
abbrev pub wanted : List Value → List (RowId × Keyed) → List Stored
wanted key rows = with_key key (map stored_of rows)

-- no number is that one
abbrev Apart : RowId → List (RowId × Unit {0}) → Type 0
Apart id ids = AllByRecursion (λ other. is_at (id_order other) id ≡ false) (keys_of ids)

-- ---- numbers in order

after_less : (a b : RowId) → id_order a b ≡ Less → is_at (id_order b) a ≡ false
after_less a b less = ap is_eq (id_total.antisymm b a ∙ ap ordering_reverse less)

after_all : (a : RowId) (ids : List RowId) → AllByRecursion (λ b. id_order a b ≡ Less) ids → AllByRecursion (λ b. is_at (id_order b) a ≡ false) ids
after_all a [] all = tt
after_all a (b ∷ ids) all = (after_less a b all.0, after_all a ids all.1)

back_less : (a b : RowId) → id_order a b ≡ Greater → id_order b a ≡ Less
back_less a b greater = id_total.antisymm b a ∙ ap ordering_reverse greater

-- ---- numbers that a row hasn't

past_row : (key : List Value) (e : RowId × Keyed) (rows : List (RowId × Keyed)) (ids : List (RowId × Unit {0})) → Apart e.0 ids → picked key (e ∷ rows) ids ≡ picked key rows ids
past_row key e rows [] apart = refl
past_row key e rows (i ∷ ids) apart =
    ap (λ b. with_key_at key i.0 (cond b (Some e.1) (lookup (is_at (id_order i.0)) rows)) ++ picked key (e ∷ rows) ids) apart.0
    ∙ ap (λ more. with_key_at key i.0 (lookup (is_at (id_order i.0)) rows) ++ more) (past_row key e rows ids apart.1)

picked_none : (key : List Value) (ids : List (RowId × Unit {0})) → picked key [] ids ≡ []
picked_none key [] = refl
picked_none key (i ∷ ids) = picked_none key ids

-- ---- a row that isn't wanted, and one that is looked at

unwanted : (b : Bool) (stored : Stored) (rows : List Stored) → b ≡ false → cond b (stored ∷ rows) rows ≡ rows
unwanted true stored rows none = no (sym none)
unwanted false stored rows none = refl

looked_at : (b : Bool) (stored : Stored) (rows : List Stored) → cond b (stored ∷ rows) rows ≡ cond b (stored ∷ []) [] ++ rows
looked_at true stored rows = refl
looked_at false stored rows = refl

-- ---- covering, without the first

either : (b : Bool) (id first : RowId) (ids : List (RowId × Unit {0})) → is_at (id_order id) first ≡ b → b ≡ false → is_some (cond b (Some tt) (lookup (is_at (id_order id)) ids)) ≡ true → is_among ids id ≡ true
either true id first ids is none among = no (sym none)
either false id first ids is none among = among

not_true : (b : Bool) → (b ≡ true → false ≡ true) → b ≡ false
not_true true never = sym (never refl)
not_true false never = refl

-- a number at which nothing stands is another one
other_number : (rows : List (RowId × Keyed)) (first id : RowId) (keyed : Keyed) → lookup (is_at (id_order first)) rows ≡ None → lookup (is_at (id_order id)) rows ≡ Some keyed
    → is_at (id_order id) first ≡ false
other_number rows first id keyed none found =
    not_true (is_at (id_order id) first) (λ same. ap is_some (sym (ap (λ number. lookup (is_at (id_order number)) rows) (same_number id first same) ∙ none) ∙ found))

none_further : (e : RowId × Keyed) (rows : List (RowId × Keyed)) → IsStrictlySortedBy id_order (keys_of (e ∷ rows)) → lookup (is_at (id_order e.0)) rows ≡ None
none_further e rows sorted =
    lookup-none (is_at (id_order e.0)) rows (none_past_head (eq_by_cmp_equiv id_total) e.0 e rows (IsDistinct-from_sorted id_order (keys_of (e ∷ rows)) sorted) (own_number e.0))

-- what stands further stands also here
further : (e : RowId × Keyed) (rows : List (RowId × Keyed)) (id : RowId) (keyed : Keyed) → lookup (is_at (id_order e.0)) rows ≡ None → lookup (is_at (id_order id)) rows ≡ Some keyed
    → lookup (is_at (id_order id)) (e ∷ rows) ≡ Some keyed
further e rows id keyed none found = ap (λ b. cond b (Some e.1) (lookup (is_at (id_order id)) rows)) (other_number rows e.0 id keyed none found) ∙ found

own_row : (e : RowId × Keyed) (rows : List (RowId × Keyed)) → lookup (is_at (id_order e.0)) (e ∷ rows) ≡ Some e.1
own_row e rows = ap (λ b. cond b (Some e.1) (lookup (is_at (id_order e.0)) rows)) (own_number e.0)

turned : (o : Ordering) → is_eq o ≡ false → is_eq (ordering_reverse o) ≡ false
turned Less none = refl
turned Equal none = none
turned Greater none = refl

-- no number that comes after the first row is its own
not_among : (id : RowId) (ids : List (RowId × Unit {0})) → Apart id ids → is_among ids id ≡ false
not_among id [] apart = refl
not_among id (i ∷ ids) apart =
    ap (λ b. is_some (cond b (Some tt) (lookup (is_at (id_order id)) ids))) (ap is_eq (id_total.antisymm id i.0) ∙ turned (id_order i.0 id) apart.0)
    ∙ not_among id ids apart.1

-- ---- the two lists side by side

step : (o : Ordering) (key : List Value) (e : RowId × Keyed) (rows : List (RowId × Keyed)) (i : RowId × Unit {0}) (ids : List (RowId × Unit {0})) → id_order i.0 e.0 ≡ o
    → IsStrictlySortedBy id_order (keys_of (e ∷ rows)) → IsStrictlySortedBy id_order (keys_of (i ∷ ids)) → CoversKey key (e ∷ rows) (i ∷ ids)
    → (CoversKey key (e ∷ rows) ids → picked key (e ∷ rows) ids ≡ wanted key (e ∷ rows))
    → ((more : List (RowId × Unit {0})) → IsStrictlySortedBy id_order (keys_of more) → CoversKey key rows more → picked key rows more ≡ wanted key rows)
    → picked key (e ∷ rows) (i ∷ ids) ≡ wanted key (e ∷ rows)
step Less key e rows i ids less sorted ordered covers next_id next_row =
    let none : lookup (is_at (id_order i.0)) (e ∷ rows) ≡ None = lookup-none (is_at (id_order i.0)) (e ∷ rows) (none_below_head id_total i.0 e rows sorted less) in
    ap (λ found. with_key_at key i.0 found ++ picked key (e ∷ rows) ids) none
    ∙ next_id (λ id keyed found same. either (is_at (id_order id) i.0) id i.0 ids refl (other_number (e ∷ rows) i.0 id keyed none found) (covers id keyed found same))
step Equal key e rows i ids tie sorted ordered covers next_id next_row =
    let same_place : i.0 ≡ e.0 = same_id i.0 e.0 tie in
    let above : AllByRecursion (λ c. id_order e.0 c ≡ Less) (keys_of ids) = below_all e.0 i.0 (keys_of ids) (λ c less. ap (λ a. id_order a c) (sym same_place) ∙ less) (sorted_head id_order i.0 (keys_of ids) ordered) in
    let none : lookup (is_at (id_order e.0)) rows ≡ None = none_further e rows sorted in
    ap (λ a. with_key_at key a (lookup (is_at (id_order a)) (e ∷ rows)) ++ picked key (e ∷ rows) ids) same_place
    ∙ ap (λ found. with_key_at key e.0 found ++ picked key (e ∷ rows) ids) (own_row e rows)
    ∙ ap (λ more. with_key_at key e.0 (Some e.1) ++ more)
    (past_row key e rows ids (after_all e.0 (keys_of ids) above)
    ∙ next_row ids (sorted_tail id_order i.0 (keys_of ids) ordered)
    (λ id keyed found same. either (is_at (id_order id) i.0) id i.0 ids refl (ap (λ a. is_at (id_order id) a) same_place ∙ other_number rows e.0 id keyed none found) (covers id keyed (further e rows id keyed none found) same)))
    ∙ sym (looked_at (is_same_row e.1.key key) (stored_of e) (wanted key rows))
step Greater key e rows i ids greater sorted ordered covers next_id next_row =
    let above : AllByRecursion (λ c. id_order e.0 c ≡ Less) (keys_of (i ∷ ids)) = (back_less i.0 e.0 greater, below_all e.0 i.0 (keys_of ids) (λ c. id_total.trans e.0 i.0 c (back_less i.0 e.0 greater)) (sorted_head id_order i.0 (keys_of ids) ordered)) in
    let apart : Apart e.0 (i ∷ ids) = after_all e.0 (keys_of (i ∷ ids)) above in
    past_row key e rows (i ∷ ids) apart
    ∙ next_row (i ∷ ids) ordered (λ id keyed found same. covers id keyed (further e rows id keyed (none_further e rows sorted) found) same)
    ∙ sym (unwanted (is_same_row e.1.key key) (stored_of e) (wanted key rows) (not_true (is_same_row e.1.key key) (λ same. sym (not_among e.0 (i ∷ ids) apart) ∙ covers e.0 e.1 (own_row e rows) same)))

-- the rows among the numbers are all that have the key
pub picked_all : (key : List Value) (rows : List (RowId × Keyed)) (ids : List (RowId × Unit {0})) → IsStrictlySortedBy id_order (keys_of rows) → IsStrictlySortedBy id_order (keys_of ids)
    → CoversKey key rows ids → picked key rows ids ≡ wanted key rows
picked_all key [] ids sorted ordered covers = picked_none key ids
picked_all key (e ∷ rows) [] sorted ordered covers =
    picked_all key rows [] (sorted_tail id_order e.0 (keys_of rows) sorted) ordered (λ id keyed found same. covers id keyed (further e rows id keyed (none_further e rows sorted) found) same)
    ∙ sym (unwanted (is_same_row e.1.key key) (stored_of e) (wanted key rows) (not_true (is_same_row e.1.key key) (λ same. covers e.0 e.1 (own_row e rows) same)))
picked_all key (e ∷ rows) (i ∷ ids) sorted ordered covers =
    step (id_order i.0 e.0) key e rows i ids refl sorted ordered covers
    (picked_all key (e ∷ rows) ids sorted (sorted_tail id_order i.0 (keys_of ids) ordered))
    (λ more. picked_all key rows more (sorted_tail id_order e.0 (keys_of rows) sorted))
