-- What one item more, one in place of another, or one less makes of a list in key order.
use Rattle.std.specs.Prelude.{◌≡◌, refl, ℕ, ◌+◌, List, [], ◌∷◌, ◌++◌, Bool, true, false, not, cond, map, filter, take, drop, Option, Some, None}
use Rattle.std.proofs.Common.{ap, sym, subst, ◌∙◌}
use Rattle.std.proofs.{Math.Numerals.one-add, lemmas.Cmp.tied_itself}
use Rattle.std.specs.{Cmp.IsTotalOrder, BTreeMap.is_at}
use Rattle.std.specs.List.{AllByRecursion, position_or_len}
use Rattle.std.specs.List.Sorted.{IsStrictlySortedBy}
use Rattle.std.specs.Ordering.{is_eq, is_lt, match_ordering, ordering_reverse}
use Rattle.std.specs.declared.cmp.Ordering.{Ordering}
use Rattle.std.specs.declared.cmp.Ordering.TheVariants.{Less, Equal, Greater}
use Rattle.shared_map.specs.Lists.{InKeyOrder, item_at, with_item, without_item}

tie_of : (o : Ordering) → is_eq o ≡ true → o ≡ Equal
tie_of Less is = cc
tie_of Equal is = refl
tie_of Greater is = cc

module _ {K X : Type 0} {cmp : K → K → Ordering} (o : IsTotalOrder cmp) (key_of : X → K) where
  -- the key is below those of all
  abbrev Below : K → List X → Type 0
  Below k xs = AllByRecursion (λ y. cmp k y ≡ Less) (map key_of xs)

  below_all : (k j : K) (xs : List X) → cmp k j ≡ Less → Below j xs → Below k xs
  below_all k j [] less below = tt
  below_all k j (x ∷ xs) less below = (o.trans k j (key_of x) less below.0, below_all k j xs less below.1)

  below_tied : (k j : K) (xs : List X) → cmp k j ≡ Equal → Below j xs → Below k xs
  below_tied k j [] tie below = tt
  below_tied k j (x ∷ xs) tie below = (o.congr k j (key_of x) tie ∙ below.0, below_tied k j xs tie below.1)

  none_below : (k : K) (xs : List X) → Below k xs → item_at (is_at (cmp k)) key_of xs ≡ None
  none_below k [] below = refl
  none_below k (x ∷ xs) below = ap (λ t. cond (is_eq t) (Some x) (item_at (is_at (cmp k)) key_of xs)) below.0 ∙ none_below k xs below.1

  all_stay : (k : K) (xs : List X) → Below k xs → filter (λ x. not (is_at (cmp k) (key_of x))) xs ≡ xs
  all_stay k [] below = refl
  all_stay k (x ∷ xs) below =
      ap (λ t. cond (not (is_eq t)) (x ∷ filter (λ x. not (is_at (cmp k) (key_of x))) xs) (filter (λ x. not (is_at (cmp k) (key_of x))) xs)) below.0
      ∙ ap (λ l. x ∷ l) (all_stay k xs below.1)

  none_changes : (k : K) (f : X → X) (xs : List X) → Below k xs → map (λ x. cond (is_at (cmp k) (key_of x)) (f x) x) xs ≡ xs
  none_changes k f [] below = refl
  none_changes k f (x ∷ xs) below = λ i. cond (is_eq (below.0 i)) (f x) x ∷ none_changes k f xs below.1 i

  -- ---- one less

  pub removed_is_filtered : (k : K) (xs : List X) → InKeyOrder cmp key_of xs → without_item (is_at (cmp k)) key_of xs ≡ filter (λ x. not (is_at (cmp k) (key_of x))) xs
  unfolding IsStrictlySortedBy
  removed_is_filtered k [] order = refl
  removed_is_filtered k (x ∷ xs) order =
      (elim (is_eq (cmp k (key_of x))) as (λ b. is_eq (cmp k (key_of x)) ≡ b → cond b xs (x ∷ without_item (is_at (cmp k)) key_of xs) ≡ cond (not b) (x ∷ filter (λ x. not (is_at (cmp k) (key_of x))) xs) (filter (λ x. not (is_at (cmp k) (key_of x))) xs)) [
        | true ↦ λ is. sym (all_stay k xs (below_tied k (key_of x) xs (tie_of (cmp k (key_of x)) is) order.0))
        | false ↦ λ is. ap (λ l. x ∷ l) (removed_is_filtered k xs order.1)
      ]) refl

  greater_than : (x y : X) → cmp (key_of y) (key_of x) ≡ Less → cmp (key_of x) (key_of y) ≡ Greater
  greater_than x y less = o.antisymm (key_of x) (key_of y) ∙ ap ordering_reverse less

  next_above : (k : K) (seen left : List X) (x : X) → Below k (seen ++ x ∷ left) → cmp k (key_of x) ≡ Less
  next_above k [] left x below = below.0
  next_above k (y ∷ seen) left x below = next_above k seen left x below.1

  -- on the way through a list in order, the next one is taken away
  pub next_removed : (keep : X → Bool) (seen left : List X) (x : X) → InKeyOrder cmp key_of (seen ++ x ∷ left)
      → without_item (is_at (cmp (key_of x))) key_of (filter keep seen ++ x ∷ left) ≡ filter keep seen ++ left
  unfolding IsStrictlySortedBy
  next_removed keep [] left x order = ap (λ t. cond (is_eq t) left (x ∷ without_item (is_at (cmp (key_of x))) key_of left)) (tied_itself o (key_of x))
  next_removed keep (y ∷ seen) left x order =
      elim (keep y) as (λ b. without_item (is_at (cmp (key_of x))) key_of (cond b (y ∷ filter keep seen) (filter keep seen) ++ x ∷ left) ≡ cond b (y ∷ filter keep seen) (filter keep seen) ++ left) [
        | true ↦ ap (λ t. cond (is_eq t) (filter keep seen ++ x ∷ left) (y ∷ without_item (is_at (cmp (key_of x))) key_of (filter keep seen ++ x ∷ left))) (greater_than x y (next_above (key_of y) seen left x order.0))
            ∙ ap (λ l. y ∷ l) (next_removed keep seen left x order.1)
        | false ↦ next_removed keep seen left x order.1
      ]

  -- ---- one in place of another

  -- on the way through a list in order, the next one is exchanged
  pub next_put : (f : X → X) (same : (x : X) → key_of (f x) ≡ key_of x) (seen left : List X) (x : X) → InKeyOrder cmp key_of (seen ++ x ∷ left)
      → with_item cmp key_of (map f seen ++ x ∷ left) (f x) ≡ map f seen ++ f x ∷ left
  unfolding IsStrictlySortedBy
  next_put f same [] left x order =
      ap (λ t. match_ordering t (f x ∷ x ∷ left) (f x ∷ left) (x ∷ with_item cmp key_of left (f x))) (ap (λ k. cmp k (key_of x)) (same x) ∙ tied_itself o (key_of x))
  next_put f same (y ∷ seen) left x order =
      ap (λ t. match_ordering t (f x ∷ f y ∷ (map f seen ++ x ∷ left)) (f x ∷ (map f seen ++ x ∷ left)) (f y ∷ with_item cmp key_of (map f seen ++ x ∷ left) (f x)))
      ((λ i. cmp (same x i) (same y i)) ∙ greater_than x y (next_above (key_of y) seen left x order.0))
      ∙ ap (λ l. f y ∷ l) (next_put f same seen left x order.1)

  -- an item takes the place of the one with its key
  pub put_exchanges : (f : X → X) (item old : X) (xs : List X) → InKeyOrder cmp key_of xs → item_at (is_at (cmp (key_of item))) key_of xs ≡ Some old → f old ≡ item
      → with_item cmp key_of xs item ≡ map (λ x. cond (is_at (cmp (key_of item)) (key_of x)) (f x) x) xs
  unfolding IsStrictlySortedBy
  put_exchanges f item old [] order there is = cc
  put_exchanges f item old (x ∷ xs) order there is =
      (elim (cmp (key_of item) (key_of x)) as (λ t. cmp (key_of item) (key_of x) ≡ t → cond (is_eq t) (Some x) (item_at (is_at (cmp (key_of item))) key_of xs) ≡ Some old
      → match_ordering t (item ∷ x ∷ xs) (item ∷ xs) (x ∷ with_item cmp key_of xs item) ≡ cond (is_eq t) (f x) x ∷ map (λ x. cond (is_at (cmp (key_of item)) (key_of x)) (f x) x) xs) [
        | Less ↦ λ less found. let none = none_below (key_of item) xs (below_all (key_of item) (key_of x) xs less order.0) in cc
        | Equal ↦ λ tie found. let one : x ≡ old = cc in λ i. (sym is ∙ ap f (sym one)) i ∷ sym (none_changes (key_of item) f xs (below_tied (key_of item) (key_of x) xs tie order.0)) i
        | Greater ↦ λ greater found. ap (λ l. x ∷ l) (put_exchanges f item old xs order.1 found is)
      ]) refl there

  -- ---- one more

  -- a new item stands before the first whose key is greater
  pub put_inserts : (item : X) (xs : List X) → item_at (is_at (cmp (key_of item))) key_of xs ≡ None
      → with_item cmp key_of xs item ≡ take (position_or_len (λ x. is_lt (cmp (key_of item) (key_of x))) xs) xs ++ item ∷ drop (position_or_len (λ x. is_lt (cmp (key_of item) (key_of x))) xs) xs
  put_inserts item [] none = refl
  put_inserts item (x ∷ xs) none =
      let n = position_or_len (λ x. is_lt (cmp (key_of item) (key_of x))) xs in
      (elim (cmp (key_of item) (key_of x)) as (λ t. cond (is_eq t) (Some x) (item_at (is_at (cmp (key_of item))) key_of xs) ≡ None
      → match_ordering t (item ∷ x ∷ xs) (item ∷ xs) (x ∷ with_item cmp key_of xs item) ≡ take (cond (not (is_lt t)) (1 + n) 0) (x ∷ xs) ++ item ∷ drop (cond (not (is_lt t)) (1 + n) 0) (x ∷ xs)) [
        | Less ↦ λ none. refl
        | Equal ↦ λ none. cc
        | Greater ↦ λ none. ap (λ l. x ∷ l) (put_inserts item xs none) ∙ ap (λ m. take m (x ∷ xs) ++ item ∷ drop m (x ∷ xs)) (sym (one-add n))
      ]) none
