-- The laws of arrays by their places: parts, ends, choices by the first item.
use Rattle.std.specs.Prelude.{◌≡◌, ◌≤◌, ℕ, suc, max, ◌∷◌, Bool, true, false, ◌&&◌, ◌||◌, not, Option, Some, option_map, option_and_then, if◌then◌else◌}
use Rattle.std.proofs.Common.{refl, sym, ap, ap₂, ◌∙◌, ◌⊎◌, inl, inr, arith, eq-eqb}
use Rattle.std.proofs.lemmas.Slice.Eq.{bytes_eq-Decides}
use Rattle.serde_json.specs.Data.{Data, array, Items, no_items, item, items_depth}
use Rattle.serde_json.specs.Find.{at, get_item}
use Rattle.serde_json.specs.Written.{has_float, items_have_float}
use Rattle.serde_json.specs.Events.{items_len}
use Rattle.rls_codec.specs.Looking.{paired, found_where, has_length, joined, Both, Head, by_word, by_number, head_written, is_same_head, is_head, is_other_head, EitherFits, either_of}
use Rattle.rls_codec.specs.Codec.{Codec, Rest, Choice}

pub and_left : (a b : Bool) → (a && b) ≡ true → a ≡ true
and_left true b h = refl
and_left false b h = h

pub and_right : (a b : Bool) → (a && b) ≡ true → b ≡ true
and_right true b h = h
and_right false b h = absurd (cc)

pub not_true : (b : Bool) → not b ≡ true → b ≡ false
not_true true h = absurd (cc)
not_true false h = refl

-- ---- items by their places

at_joined : (before : Items) (d : Data) (ds : Items) → get_item (items_len before) (joined before (item d ds)) ≡ Some d
at_joined no_items d ds = refl
at_joined (item e es) d ds = at_joined es d ds

joined_more : (before : Items) (d : Data) (ds : Items) → joined (joined before (item d no_items)) ds ≡ joined before (item d ds)
joined_more no_items d ds = refl
joined_more (item e es) d ds = ap (item e) (joined_more es d ds)

length_more : (before : Items) (d : Data) → items_len (joined before (item d no_items)) ≡ suc (items_len before)
length_more no_items d = refl
length_more (item e es) d = ap suc (length_more es d)

joined_none : (before : Items) → items_len (joined before no_items) ≡ items_len before
joined_none no_items = refl
joined_none (item e es) = ap suc (joined_none es)

pub end_back : (before : Items) (u : Unit {0}) → Unit {0} → found_where (has_length (items_len before) (array (joined before no_items))) (Some tt) ≡ Some u
end_back before u h = rw (eq-eqb (items_len (joined before no_items)) (items_len before) (joined_none before))

-- what stands behind an item is found at the next place
rest_back : {B : Type 0} (r : Rest B) (before : Items) (d : Data) (b : B) → r.Fits b → r.found (suc (items_len before)) (array (joined before (item d (r.written b)))) ≡ Some b
rest_back r before d b h =
    ap₂ (λ n ds. r.found n (array ds)) (sym (length_more before d)) (sym (joined_more before d (r.written b))) ∙ r.back (joined before (item d no_items)) b h

pub part_back : {A B : Type 0} (c : Codec A) (r : Rest B) (before : Items) (p : A × B) → Both c.Fits r.Fits p
    → paired (option_and_then c.found (get_item (items_len before) (joined before (item (c.written p.0) (r.written p.1))))) (r.found (suc (items_len before)) (array (joined before (item (c.written p.0) (r.written p.1))))) ≡ Some p
part_back c r before p h = rw (at_joined before (c.written p.0) (r.written p.1), c.back p.0 h.0, rest_back r before (c.written p.0) p.1 h.1)

pub rest_via_back : {A B : Type 0} (to : B → A) (from : A → B) → ((b : B) → from (to b) ≡ b) → (r : Rest A) (before : Items) (b : B) → r.Fits (to b)
    → option_map from (r.found (items_len before) (array (joined before (r.written (to b))))) ≡ Some b
rest_via_back to from same r before b h = rw (r.back before (to b) h) (ap (λ x. Some x) (same b))

-- ---- choices by the first item

same_head : (h : Head) → is_same_head h h ≡ true
same_head (by_word w) = (bytes_eq-Decides w w).1 refl
same_head (by_number n) = eq-eqb n n refl

head_told : (h k : Head) → is_head h (Some (head_written k)) ≡ is_same_head k h
head_told (by_word w) (by_word v) = refl
head_told (by_word w) (by_number n) = refl
head_told (by_number n) (by_word v) = refl
head_told (by_number n) (by_number m) = refl

pub head_plain : (h : Head) {b : Bool} → b ≡ false → (has_float (head_written h) || b) ≡ false
head_plain (by_word w) h = h
head_plain (by_number n) h = h

pub head_flat : (h : Head) (ds : Items) {m : ℕ} → items_depth ds ≤ m → items_depth (item (head_written h) ds) ≤ m
head_flat (by_word w) ds h = omega (arith, h)
head_flat (by_number n) ds h = omega (arith, h)

module _ {B C : Type 0} (h : Head) (r : Rest B) (others : Choice C) where
  abbrev head_of : B ⊎ C → Head
  head_of = either_of (λ b. h) others.head

  abbrev items_behind : B ⊎ C → Items
  items_behind = either_of r.written others.rest

  abbrev chosen_at : ℕ → Data → Option (B ⊎ C)
  chosen_at n d = if is_head h (at n d) then option_map inl (r.found (suc n) d) else option_map inr (others.found n d)

  pub choice_back : is_other_head h others.heads ≡ true → (before : Items) (a : B ⊎ C) → EitherFits r.Fits others.Fits a
      → chosen_at (items_len before) (array (joined before (item (head_written (head_of a)) (items_behind a)))) ≡ Some a
  choice_back fresh before (inl b) fits =
      rw (at_joined before (head_written h) (r.written b), head_told h h, same_head h) (ap (option_map inl) (rest_back r before (head_written h) b fits))
  choice_back fresh before (inr c) fits =
      rw (at_joined before (head_written (others.head c)) (others.rest c), head_told h (others.head c), others.apart c h fresh) (ap (option_map inr) (others.back before c fits))

  pub choice_plain : (a : B ⊎ C) → items_have_float (items_behind a) ≡ false
  choice_plain (inl b) = r.plain b
  choice_plain (inr c) = others.plain c

  pub choice_flat : (a : B ⊎ C) → items_depth (items_behind a) ≤ max r.levels others.levels
  choice_flat (inl b) = omega (arith, r.flat b)
  choice_flat (inr c) = omega (arith, others.flat c)

  pub choice_apart : (a : B ⊎ C) (k : Head) → is_other_head k (h ∷ others.heads) ≡ true → is_same_head (head_of a) k ≡ false
  choice_apart (inl b) k e = not_true (is_same_head h k) (and_left (not (is_same_head h k)) (is_other_head k others.heads) e)
  choice_apart (inr c) k e = others.apart c k (and_right (not (is_same_head h k)) (is_other_head k others.heads) e)
