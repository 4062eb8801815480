-- What is looked for in JSON, and when it is there.
use Rattle.std.specs.Prelude.{◌≡◌, ◌^◌, ℕ, ℤ, pos, negsuc, List, [], ◌∷◌, ◌++◌, Bool, true, false, ◌&&◌, not, nat_lt, ◌==◌, Option, Some, None, option_map, option_and_then, unwrap_or, is_some, if◌then◌else◌}
use Rattle.std.specs.Str.{bytes_eq}
use Rattle.std.specs.Ordering.{nat_cmp, match_ordering}
use Rattle.std.specs.Cmp.Lexicographic.{slice_cmp}
use Rattle.std.proofs.Common.{◌⊎◌, inl, inr}
use Rattle.serde_json.specs.Data.{Data, null, number, string, unsigned, Items, no_items, item}
use Rattle.serde_json.specs.Find.{as_i64, as_u64, as_number, as_str, as_null, as_array, as_object}
use Rattle.serde_json.specs.Events.{items_len, members_len}

-- any value
abbrev pub Anything : {A : Type 0} → A → Type 0
Anything a = Unit {0}

-- the first of a pair is such, and the second
abbrev pub Both : {A B : Type 0} → (A → Type 0) → (B → Type 0) → A × B → Type 0
Both P Q p = P p.0 × Q p.1

-- both, where both are there
abbrev pub paired : {A B : Type 0} → Option A → Option B → Option (A × B)
paired None second = None
paired (Some a) second = option_map (λ b. (a, b)) second

-- what is there, where the condition holds
abbrev pub found_where : {A : Type 0} → Bool → Option A → Option A
found_where true o = o
found_where false o = None

-- ---- numbers, null

-- a whole number that has 64 bits, if it isn't negative; none that is negative is written but within them
abbrev pub is_int : ℤ → Bool
is_int (pos n) = nat_lt n (2 ^ 63)
is_int (negsuc n) = true

-- the whole number of 64 bits with its sign
abbrev pub int_found : Data → Option ℤ
int_found d = option_and_then as_i64 (as_number d)

-- the whole number without a sign
abbrev pub natural_found : Data → Option ℕ
natural_found d = option_and_then as_u64 (as_number d)

-- the number, where it is below the bound
abbrev pub below : ℕ → ℕ → Option ℕ
below bound n = found_where (nat_lt n bound) (Some n)

-- `null`
abbrev pub is_null : Data → Bool
is_null d = is_some (as_null d)

-- ---- words

-- the first of these whose word the text is
abbrev pub worded : {A : Type 0} → (A → List ℕ) → List A → List ℕ → Option A
worded word [] t = None
worded word (a ∷ others) t = if bytes_eq t (word a) then Some a else worded word others t

-- ---- what may be absent

-- what is there fits, and its JSON isn't `null`
abbrev pub FitsIfThere : {A : Type 0} → (A → Type 0) → (A → Data) → Option A → Type 0
FitsIfThere P w None = Unit {0}
FitsIfThere P w (Some a) = P a × (is_null (w a) ≡ false)

-- the JSON of what is there, or `null`
abbrev pub written_or_null : {A : Type 0} → (A → Data) → Option A → Data
written_or_null w None = null
written_or_null w (Some a) = w a

-- nothing for `null`, else what the JSON stands for
abbrev pub found_unless_null : {A : Type 0} → (Data → Option A) → Data → Option (Option A)
found_unless_null f d = if is_null d then Some None else option_map (λ a. Some a) (f d)

-- ---- arrays

-- what the items stand for, behind those before
abbrev pub found_after : {A : Type 0} → (Data → Option A) → List A → Items → Option (List A)
found_after f before no_items = Some before
found_after f before (item d ds) = option_and_then (λ a. found_after f (before ++ a ∷ []) ds) (f d)

-- an array of so many items
abbrev pub has_length : ℕ → Data → Bool
has_length n d = unwrap_or (option_map (λ ds. items_len ds == n) (as_array d)) false

-- the one, then the other
abbrev pub joined : Items → Items → Items
joined no_items es = es
joined (item d ds) es = item d (joined ds es)

-- the item that tells what those behind it are: a word or a number
pub data Head : Type 0 where
  by_word : List ℕ → Head
  by_number : ℕ → Head

-- its JSON
abbrev pub head_written : Head → Data
head_written (by_word w) = string w
head_written (by_number n) = number (unsigned n)

-- the two are the same
abbrev pub is_same_head : Head → Head → Bool
is_same_head (by_word v) (by_word w) = bytes_eq v w
is_same_head (by_word v) (by_number n) = false
is_same_head (by_number m) (by_word w) = false
is_same_head (by_number m) (by_number n) = m == n

-- the JSON there is this head
abbrev pub is_head : Head → Option Data → Bool
is_head (by_word w) o = unwrap_or (option_map (λ v. bytes_eq v w) (option_and_then as_str o)) false
is_head (by_number n) o = unwrap_or (option_map (λ m. m == n) (option_and_then natural_found o)) false

-- it is none of these
abbrev pub is_other_head : Head → List Head → Bool
is_other_head h [] = true
is_other_head h (k ∷ ks) = not (is_same_head k h) && is_other_head h ks

-- ---- objects

-- an object of so many members
abbrev pub has_size : ℕ → Data → Bool
has_size n d = unwrap_or (option_map (λ ms. members_len ms == n) (as_object d)) false

-- in the order of bytes the key comes before this one
abbrev pub is_before : List ℕ → List ℕ → Bool
is_before k name = match_ordering (slice_cmp nat_cmp k name) true false false

-- in the order of bytes the key comes before all of these
abbrev pub comes_first : List ℕ → List (List ℕ) → Bool
comes_first k [] = true
comes_first k (name ∷ names) = is_before k name && comes_first k names

-- it is none of these sizes
abbrev pub is_other_size : ℕ → List ℕ → Bool
is_other_size n [] = true
is_other_size n (m ∷ ms) = not (m == n) && is_other_size n ms

-- ---- one or another

-- what is made of the one, or of the other
abbrev pub either_of : {B C D : Type 0} → (B → D) → (C → D) → B ⊎ C → D
either_of f g (inl b) = f b
either_of f g (inr c) = g c

-- the one fits, or the other
abbrev pub EitherFits : {B C : Type 0} → (B → Type 0) → (C → Type 0) → B ⊎ C → Type 0
EitherFits P Q (inl b) = P b
EitherFits P Q (inr c) = Q c
