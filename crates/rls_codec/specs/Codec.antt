-- Codecs: how the values of a type are written as JSON and found again, with the law that what is written is found. What objects
-- and arrays are made of has such a law too.
use Rattle.std.specs.Prelude.{◌≡◌, ◌≤◌, ℕ, List, length, true, false, Option, Some}
use Rattle.serde_json.specs.Data.{Data, array, object, Items, item, Members, member, depth, items_depth, members_depth}
use Rattle.serde_json.specs.Written.{has_float, items_have_float, members_have_float}
use Rattle.serde_json.specs.Events.{items_len, members_len}
use Rattle.rls_codec.specs.Looking.{Head, head_written, is_same_head, is_other_head, joined, has_size, comes_first, is_other_size}

-- The JSON of values, and the value that JSON stands for, if any. Those that fit are found again. No JSON of a value has a float,
-- and none nests deeper than so many levels.
pub record Codec (A : Type 0) : Type 1 where
  pub Fits : A → Type 0
  pub written : A → Data
  pub found : Data → Option A
  pub levels : ℕ
  pub back : (a : A) → Fits a → found (written a) ≡ Some a
  pub plain : (a : A) → has_float (written a) ≡ false
  pub flat : (a : A) → depth (written a) ≤ levels

-- the items of an array from a place on, up to its end
pub record Rest (A : Type 0) : Type 1 where
  pub Fits : A → Type 0
  pub written : A → Items
  pub found : ℕ → Data → Option A
  pub levels : ℕ
  pub back : (before : Items) (a : A) → Fits a → found (items_len before) (array (joined before (written a))) ≡ Some a
  pub plain : (a : A) → items_have_float (written a) ≡ false
  pub flat : (a : A) → items_depth (written a) ≤ levels

-- the items of an array from a place on, of which the first tells what the others are
pub record Choice (A : Type 0) : Type 1 where
  pub heads : List Head
  pub Fits : A → Type 0
  pub head : A → Head
  pub rest : A → Items
  pub found : ℕ → Data → Option A
  pub levels : ℕ
  pub back : (before : Items) (a : A) → Fits a → found (items_len before) (array (joined before (item (head_written (head a)) (rest a)))) ≡ Some a
  pub plain : (a : A) → items_have_float (rest a) ≡ false
  pub flat : (a : A) → items_depth (rest a) ≤ levels
  pub apart : (a : A) (h : Head) → is_other_head h heads ≡ true → is_same_head (head a) h ≡ false

-- the members of an object, by their names
pub record Fields (A : Type 0) : Type 1 where
  pub names : List (List ℕ)
  pub Fits : A → Type 0
  pub written : A → Members
  pub found : Data → Option A
  pub levels : ℕ
  pub back : (a : A) → Fits a → found (object (written a)) ≡ Some a
  pub plain : (a : A) → members_have_float (written a) ≡ false
  pub flat : (a : A) → members_depth (written a) ≤ levels
  pub sized : (a : A) → members_len (written a) ≡ length names
  pub skips : (k : List ℕ) (d : Data) (ms : Members) → comes_first k names ≡ true → found (object (member k d ms)) ≡ found (object ms)

-- the members of objects that are told apart by how many they have
pub record Kinds (A : Type 0) : Type 1 where
  pub sizes : List ℕ
  pub Fits : A → Type 0
  pub written : A → Members
  pub found : Data → Option A
  pub levels : ℕ
  pub back : (a : A) → Fits a → found (object (written a)) ≡ Some a
  pub plain : (a : A) → members_have_float (written a) ≡ false
  pub flat : (a : A) → members_depth (written a) ≤ levels
  pub apart : (a : A) (n : ℕ) → is_other_size n sizes ≡ true → has_size n (object (written a)) ≡ false
