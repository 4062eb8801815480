-- The laws of codecs of numbers, lists and pairs, of what may be absent, and of what is told by another value.
use Rattle.std.specs.Prelude.{◌≡◌, ◌≤◌, ◌<◌, ℕ, suc, max, ℤ, pos, negsuc, List, [], ◌∷◌, ◌++◌, map, Bool, true, false, ◌||◌, Option, Some, None, option_map, option_and_then}
use Rattle.std.specs.List.{All}
use Rattle.std.proofs.Common.{refl, sym, ap, ◌∙◌, arith, append_assoc, append-nil, lt-ltb}
use Rattle.serde_json.specs.Data.{number, items_depth, depth}
use Rattle.serde_json.specs.Find.{of_integer}
use Rattle.serde_json.specs.Written.{has_float, items_have_float}
use Rattle.serde_json.specs.View.{items_of}
use Rattle.rls_codec.specs.Looking.{paired, found_after, is_int, int_found, below, Both, FitsIfThere, written_or_null, found_unless_null}
use Rattle.rls_codec.specs.Codec.{Codec}

pub below_back : (bound n : ℕ) → n < bound → below bound n ≡ Some n
below_back bound n h = rw (lt-ltb n bound h)

pub int_back : (z : ℤ) → is_int z ≡ true → int_found (number (of_integer z)) ≡ Some z
int_back (pos n) h = rw h
int_back (negsuc n) h = refl

pub int_plain : (z : ℤ) → has_float (number (of_integer z)) ≡ false
int_plain (pos n) = refl
int_plain (negsuc n) = refl

pub suc_le : {m n : ℕ} → m ≤ n → suc m ≤ suc n
suc_le h = omega arith

pub max_le : {a b m n : ℕ} → a ≤ m → b ≤ n → max a b ≤ max m n
max_le h k = omega arith

pub max_zero_le : {a b m n : ℕ} → a ≤ m → b ≤ n → max a (max b 0) ≤ max m n
max_zero_le h k = omega arith

pub both_false : {a b : Bool} → a ≡ false → b ≡ false → (a || b) ≡ false
both_false h k = rw (h, k)

-- ---- lists, pairs

pub all_first : {A : Type 0} (P : A → Type 0) (x : A) (xs : List A) → All P (x ∷ xs) → P x
all_first P x xs h = h 0 x (omega arith)

pub all_later : {A : Type 0} (P : A → Type 0) (x : A) (xs : List A) → All P (x ∷ xs) → All P xs
all_later P x xs h = λ k d lt. h (suc k) d (omega (arith, lt))

pub list_back : {A : Type 0} (c : Codec A) (before xs : List A) → All c.Fits xs → found_after c.found before (items_of (map c.written xs)) ≡ Some (before ++ xs)
list_back c before [] h = ap (λ l. Some l) (sym (append-nil before))
list_back c before (x ∷ xs) h =
    rw (c.back x (all_first c.Fits x xs h)) (list_back c (before ++ x ∷ []) xs (all_later c.Fits x xs h) ∙ ap (λ l. Some l) (append_assoc before (x ∷ []) xs))

pub list_plain : {A : Type 0} (c : Codec A) (xs : List A) → items_have_float (items_of (map c.written xs)) ≡ false
list_plain c [] = refl
list_plain c (x ∷ xs) = both_false (c.plain x) (list_plain c xs)

pub list_flat : {A : Type 0} (c : Codec A) (xs : List A) → items_depth (items_of (map c.written xs)) ≤ c.levels
list_flat c [] = omega arith
list_flat c (x ∷ xs) = omega (arith, c.flat x, list_flat c xs)

pub pair_back : {A B : Type 0} (a : Codec A) (b : Codec B) (p : A × B) → Both a.Fits b.Fits p → paired (a.found (a.written p.0)) (b.found (b.written p.1)) ≡ Some p
pair_back a b p h = rw (a.back p.0 h.0, b.back p.1 h.1)

-- ---- what may be absent

pub maybe_back : {A : Type 0} (c : Codec A) (o : Option A) → FitsIfThere c.Fits c.written o → found_unless_null c.found (written_or_null c.written o) ≡ Some o
maybe_back c None h = refl
maybe_back c (Some a) h = rw (h.1, c.back a h.0)

pub maybe_plain : {A : Type 0} (c : Codec A) (o : Option A) → has_float (written_or_null c.written o) ≡ false
maybe_plain c None = refl
maybe_plain c (Some a) = c.plain a

pub maybe_flat : {A : Type 0} (c : Codec A) (o : Option A) → depth (written_or_null c.written o) ≤ c.levels
maybe_flat c None = omega arith
maybe_flat c (Some a) = c.flat a

-- ---- what is told by another value

pub via_back : {A B : Type 0} (to : B → A) (from : A → B) → ((b : B) → from (to b) ≡ b) → (c : Codec A) (b : B) → c.Fits (to b) → option_map from (c.found (c.written (to b))) ≡ Some b
via_back to from same c b h = rw (c.back (to b) h) (ap (λ x. Some x) (same b))

pub parsed_back : {A B : Type 0} (c : Codec A) (from : A → Option B) (a : A) {b : B} → c.Fits a → from a ≡ Some b → option_and_then from (c.found (c.written a)) ≡ Some b
parsed_back c from a h e = rw (c.back a h) e
