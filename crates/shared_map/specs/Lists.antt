-- Lists in the order of their items' keys.
use Rattle.std.specs.Prelude.{◌≡◌, List, [], ◌∷◌, Option, Some, None, Bool, cond, map}
use Rattle.std.specs.declared.cmp.Ordering.{Ordering}
use Rattle.std.specs.List.{AllByRecursion}
use Rattle.std.specs.List.Sorted.{IsStrictlySortedBy}
use Rattle.std.specs.Ordering.{match_ordering}

-- the keys of the items ascend
abbrev pub InKeyOrder : {K X : Type 0} → (K → K → Ordering) → (X → K) → List X → Type 0
InKeyOrder cmp key_of items = IsStrictlySortedBy cmp (map key_of items)

-- each item stands under its key
abbrev pub HaveKeys : {K X : Type 0} → (X → K) → List (K × X) → Type 0
HaveKeys key_of entries = AllByRecursion (λ e. e.0 ≡ key_of e.1) entries

-- the first item whose key passes
abbrev pub item_at : {K X : Type 0} → (K → Bool) → (X → K) → List X → Option X
item_at test key_of [] = None
item_at test key_of (x ∷ xs) = cond (test (key_of x)) (Some x) (item_at test key_of xs)

-- the items with one more, in its place by its key, or in place of the one that has its key
abbrev pub with_item : {K X : Type 0} → (K → K → Ordering) → (X → K) → List X → X → List X
with_item cmp key_of [] item = item ∷ []
with_item cmp key_of (x ∷ xs) item = match_ordering (cmp (key_of item) (key_of x)) (item ∷ x ∷ xs) (item ∷ xs) (x ∷ with_item cmp key_of xs item)

-- the items but for the first whose key passes
abbrev pub without_item : {K X : Type 0} → (K → Bool) → (X → K) → List X → List X
without_item test key_of [] = []
without_item test key_of (x ∷ xs) = cond (test (key_of x)) xs (x ∷ without_item test key_of xs)

-- the items from the first on whose key passes
abbrev pub items_from : {K X : Type 0} → (K → Bool) → (X → K) → List X → List X
items_from test key_of [] = []
items_from test key_of (x ∷ xs) = cond (test (key_of x)) (x ∷ xs) (items_from test key_of xs)
