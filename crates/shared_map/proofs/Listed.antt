-- A list in key order, and the map that has each item under its key.
use Rattle.std.proofs.Common.{◌≡◌, List, [], ◌∷◌, Bool, true, false, cond, refl, sym, ap, subst, ◌∙◌, map, Some}
use Rattle.std.specs.declared.cmp.Ordering.{Ordering}
use Rattle.std.specs.declared.cmp.Ordering.TheVariants.{Less, Equal, Greater}
use Rattle.std.specs.Ordering.{match_ordering}
use Rattle.std.specs.Map.{keys_of, values_of, lookup, remove_entry}
use Rattle.std.specs.BTreeMap.{insert_entry, is_at}
use Rattle.std.specs.List.Sorted.{IsStrictlySortedBy}
use Rattle.shared_map.specs.Entries.{Ascend, entries_from}
use Rattle.shared_map.specs.Lists.{HaveKeys, InKeyOrder, item_at, items_from, with_item, without_item}

module _ {K X : Type 0} (key_of : X → K) where
  pub keys_are : (es : List (K × X)) → HaveKeys key_of es → keys_of es ≡ map key_of (values_of es)
  keys_are [] h = refl
  keys_are (e ∷ es) h = λ i. h.0 i ∷ keys_are es h.1 i

  pub keys_ascend : (cmp : K → K → Ordering) (es : List (K × X)) → HaveKeys key_of es → Ascend cmp es → InKeyOrder cmp key_of (values_of es)
  keys_ascend cmp es h a = subst (IsStrictlySortedBy cmp) (keys_are es h) a

  pub found : (test : K → Bool) (es : List (K × X)) → HaveKeys key_of es → lookup test es ≡ item_at test key_of (values_of es)
  found test [] h = refl
  found test (e ∷ es) h = λ i. cond (test (h.0 i)) (Some e.1) (found test es h.1 i)

  pub left_from : (test : K → Bool) (es : List (K × X)) → HaveKeys key_of es → values_of (entries_from test es) ≡ items_from test key_of (values_of es)
  left_from test [] h = refl
  left_from test (e ∷ es) h =
      (elim (test e.0) as (λ t. values_of (cond t (e ∷ es) (entries_from test es)) ≡ cond t (e.1 ∷ values_of es) (items_from test key_of (values_of es)))
      [ true ↦ refl | false ↦ left_from test es h.1 ])
      ∙ (λ i. cond (test (h.0 i)) (e.1 ∷ values_of es) (items_from test key_of (values_of es)))

  pub put_in : (cmp : K → K → Ordering) (es : List (K × X)) (k : K) (item : X) → k ≡ key_of item → HaveKeys key_of es → values_of (insert_entry cmp es k item) ≡ with_item cmp key_of (values_of es) item
  put_in cmp [] k item q h = refl
  put_in cmp (e ∷ es) k item q h =
      (elim (cmp k e.0) as (λ t. values_of (match_ordering t ((k, item) ∷ e ∷ es) ((e.0, item) ∷ es) (e ∷ insert_entry cmp es k item)) ≡ match_ordering t (item ∷ e.1 ∷ values_of es) (item ∷ values_of es) (e.1 ∷ with_item cmp key_of (values_of es) item))
      [ Less ↦ refl | Equal ↦ refl | Greater ↦ ap (λ l. e.1 ∷ l) (put_in cmp es k item q h.1) ])
      ∙ (λ i. match_ordering (cmp (q i) (h.0 i)) (item ∷ e.1 ∷ values_of es) (item ∷ values_of es) (e.1 ∷ with_item cmp key_of (values_of es) item))

  pub put_keys : (cmp : K → K → Ordering) (es : List (K × X)) (k : K) (item : X) → k ≡ key_of item → HaveKeys key_of es → ((x y : K) → cmp x y ≡ Equal → x ≡ y) → HaveKeys key_of (insert_entry cmp es k item)
  put_keys cmp [] k item q h one = (q, tt)
  put_keys cmp (e ∷ es) k item q h one =
      (elim (cmp k e.0) as (λ t. cmp k e.0 ≡ t → HaveKeys key_of (match_ordering t ((k, item) ∷ e ∷ es) ((e.0, item) ∷ es) (e ∷ insert_entry cmp es k item)))
      [ Less ↦ λ c. (q, h) | Equal ↦ λ c. (sym (one k e.0 c) ∙ q, h.1) | Greater ↦ λ c. (h.0, put_keys cmp es k item q h.1 one) ]) refl

  pub taken : (test : K → Bool) (es : List (K × X)) → HaveKeys key_of es → values_of (remove_entry test es) ≡ without_item test key_of (values_of es)
  taken test [] h = refl
  taken test (e ∷ es) h =
      (elim (test e.0) as (λ t. values_of (cond t es (e ∷ remove_entry test es)) ≡ cond t (values_of es) (e.1 ∷ without_item test key_of (values_of es)))
      [ true ↦ refl | false ↦ ap (λ l. e.1 ∷ l) (taken test es h.1) ])
      ∙ (λ i. cond (test (h.0 i)) (values_of es) (e.1 ∷ without_item test key_of (values_of es)))

  pub keys_taken : (test : K → Bool) (es : List (K × X)) → HaveKeys key_of es → HaveKeys key_of (remove_entry test es)
  keys_taken test [] h = tt
  keys_taken test (e ∷ es) h = elim (test e.0) as (λ t. HaveKeys key_of (cond t es (e ∷ remove_entry test es))) [ true ↦ h.1 | false ↦ (h.0, keys_taken test es h.1) ]
