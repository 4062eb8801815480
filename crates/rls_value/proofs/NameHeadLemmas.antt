-- The first bytes of a name as a number tell two names apart in their order.
use Rattle.std.proofs.Common.{◌≡◌, ℕ, zero, suc, ◌+◌, ◌*◌, ◌≤◌, ◌<◌, Bool, true, false, List, [], ◌∷◌, length, refl, ap, sym, subst, ◌∙◌, arith, rules, inl, inr}
use Rattle.std.specs.{List.list_all, Str.bytes_eq}
use Rattle.std.specs.Ordering.{nat_cmp, ordering_then}
use Rattle.std.specs.Cmp.{nat_cmp_is}
use Rattle.std.specs.Cmp.Lexicographic.{slice_cmp}
use Rattle.std.specs.declared.cmp.Ordering.{Ordering}
use Rattle.std.specs.declared.cmp.Ordering.TheVariants.{Less, Equal, Greater}
use Rattle.std.proofs.Math.Nat.{mul-le-mul_right}
use Rattle.std.proofs.lemmas.Bool.{cases_order, and_parts}
use Rattle.std.proofs.lemmas.Slice.Eq.{bytes_eq-Decides}
use Rattle.std.proofs.lemmas.Map.Text.{is_eq-slice_cmp}
use Rattle.rls_value.specs.Names.{is_letter_or_digit, IsName}
use Rattle.rls_value.specs.NameHeads.{head_of, weight}

-- ---- weights

pub weight_above : (n : ℕ) → 0 < weight n
weight_above zero = omega arith
weight_above (suc n) = let more : 0 < weight n = weight_above n in omega (arith, more)

weight_up : (m n : ℕ) → m ≤ n → weight m ≤ weight n
weight_up zero n h = weight_above n
weight_up (suc m) zero h = absurd (omega (arith, h))
weight_up (suc m) (suc n) h = let more : weight m ≤ weight n = weight_up m n (omega (arith, h)) in omega (arith, more)

weight_most : (n : ℕ) → n ≤ 8 → weight n ≤ 18446744073709551616
weight_most n h = weight_up n 8 h

head_fits : (byte rest n : ℕ) → byte < 256 → rest < weight n → byte * weight n + rest < weight (suc n)
head_fits byte rest n b r =
    let up : suc byte * weight n ≤ 256 * weight n = mul-le-mul_right (weight n) b in
    omega (arith, up, r)

-- a first byte and the bytes behind it stay below the next weight
pub head_below : (byte rest n count : ℕ) → suc n ≡ count → byte < 256 → rest < weight n → byte * weight n + rest < weight count
head_below byte rest n count is b r = subst (λ (z : ℕ). byte * weight n + rest < weight z) is (head_fits byte rest n b r)

-- so they are a number of 64 bits
pub head_in_bits : (byte rest n count : ℕ) → suc n ≡ count → count ≤ 8 → byte < 256 → rest < weight n → byte * weight n + rest < 18446744073709551616
head_in_bits byte rest n count is most b r =
    let below : byte * weight n + rest < weight count = head_below byte rest n count is b r in
    let top : weight count ≤ 18446744073709551616 = weight_most count most in
    omega (arith, below, top)

-- ---- the order of names

byte_of : (byte : ℕ) → is_letter_or_digit byte ≡ true → byte < 256
byte_of byte h = search (rules, h)

head_under : (n : ℕ) (xs : List ℕ) → list_all is_letter_or_digit xs ≡ true → head_of n xs < weight n
head_under zero xs h = omega arith
head_under (suc n) [] h = weight_above (suc n)
head_under (suc n) (x ∷ xs) h =
    let both = and_parts (is_letter_or_digit x) (list_all is_letter_or_digit xs) h in
    head_fits x (head_of n xs) n (byte_of x both.0) (head_under n xs both.1)

first_decides : (n x y h k : ℕ) → x < y → h < weight n → ¬ (y * weight n + k < x * weight n + h)
first_decides n x y h k less below over =
    let up : suc x * weight n ≤ y * weight n = mul-le-mul_right (weight n) less in
    omega (arith, up, below, over)

less_order : (x y : ℕ) (o : Ordering) → x < y → ordering_then (nat_cmp x y) o ≡ Less
less_order x y o less = ap (λ (it : Ordering). ordering_then it o) (sym (nat_cmp_is x y Less less))

same_order : (x : ℕ) (o : Ordering) → ordering_then (nat_cmp x x) o ≡ o
same_order x o = ap (λ (it : Ordering). ordering_then it o) (sym (nat_cmp_is x x Equal refl))

more_order : (x y : ℕ) (o : Ordering) → y < x → ordering_then (nat_cmp x y) o ≡ Greater
more_order x y o more = ap (λ (it : Ordering). ordering_then it o) (sym (nat_cmp_is x y Greater more))

head_less : (n : ℕ) (xs ys : List ℕ) → list_all is_letter_or_digit xs ≡ true → list_all is_letter_or_digit ys ≡ true → head_of n xs < head_of n ys → slice_cmp nat_cmp xs ys ≡ Less
head_less zero xs ys h k less = absurd (omega (arith, less))
head_less (suc n) [] [] h k less = absurd (omega (arith, less))
head_less (suc n) [] (y ∷ ys) h k less = refl
head_less (suc n) (x ∷ xs) [] h k less = absurd (omega (arith, less))
head_less (suc n) (x ∷ xs) (y ∷ ys) h k less =
    let hs = and_parts (is_letter_or_digit x) (list_all is_letter_or_digit xs) h in
    let ks = and_parts (is_letter_or_digit y) (list_all is_letter_or_digit ys) k in
    elim (cases_order x y) [
      | inl same ↦
          ap (λ (z : ℕ). ordering_then (nat_cmp x z) (slice_cmp nat_cmp xs ys)) (sym same) ∙ same_order x (slice_cmp nat_cmp xs ys)
          ∙ head_less n xs ys hs.1 ks.1 (let at : x * weight n + head_of n xs < x * weight n + head_of n ys = subst (λ (z : ℕ). x * weight n + head_of n xs < z * weight n + head_of n ys) (sym same) less in omega (arith, at))
      | inr (inl below) ↦ less_order x y (slice_cmp nat_cmp xs ys) below
      | inr (inr above) ↦ absurd (first_decides n y x (head_of n ys) (head_of n xs) above (head_under n ys ks.1) less)
    ]

head_more : (n : ℕ) (xs ys : List ℕ) → list_all is_letter_or_digit xs ≡ true → list_all is_letter_or_digit ys ≡ true → head_of n ys < head_of n xs → slice_cmp nat_cmp xs ys ≡ Greater
head_more zero xs ys h k more = absurd (omega (arith, more))
head_more (suc n) [] [] h k more = absurd (omega (arith, more))
head_more (suc n) [] (y ∷ ys) h k more = absurd (omega (arith, more))
head_more (suc n) (x ∷ xs) [] h k more = refl
head_more (suc n) (x ∷ xs) (y ∷ ys) h k more =
    let hs = and_parts (is_letter_or_digit x) (list_all is_letter_or_digit xs) h in
    let ks = and_parts (is_letter_or_digit y) (list_all is_letter_or_digit ys) k in
    elim (cases_order x y) [
      | inl same ↦
          ap (λ (z : ℕ). ordering_then (nat_cmp x z) (slice_cmp nat_cmp xs ys)) (sym same) ∙ same_order x (slice_cmp nat_cmp xs ys)
          ∙ head_more n xs ys hs.1 ks.1 (let at : x * weight n + head_of n ys < x * weight n + head_of n xs = subst (λ (z : ℕ). z * weight n + head_of n ys < x * weight n + head_of n xs) (sym same) more in omega (arith, at))
      | inr (inl below) ↦ absurd (first_decides n x y (head_of n xs) (head_of n ys) below (head_under n xs hs.1) more)
      | inr (inr above) ↦ more_order x y (slice_cmp nat_cmp xs ys) above
    ]

letters_of : (xs : List ℕ) → IsName xs → list_all is_letter_or_digit xs ≡ true
letters_of [] is = refl
letters_of (x ∷ xs) is = search (rules, is.word)

-- where the numbers differ, their order is that of the names
pub head_orders : (xs ys : List ℕ) (m n : ℕ) (o : Ordering) → IsName xs → IsName ys → m ≡ head_of 8 xs → n ≡ head_of 8 ys → o ≡ nat_cmp m n → ¬ (o ≡ Equal) → o ≡ slice_cmp nat_cmp xs ys
head_orders xs ys m n o hx hy is its at differs =
    elim (cases_order m n) [
      | inl same ↦ absurd (differs (at ∙ sym (nat_cmp_is m n Equal same)))
      | inr (inl less) ↦ at ∙ sym (nat_cmp_is m n Less less) ∙ sym (head_less 8 xs ys (letters_of xs hx) (letters_of ys hy) (subst (λ (z : ℕ). z < head_of 8 ys) is (subst (λ (z : ℕ). m < z) its less)))
      | inr (inr more) ↦ at ∙ sym (nat_cmp_is m n Greater more) ∙ sym (head_more 8 xs ys (letters_of xs hx) (letters_of ys hy) (subst (λ (z : ℕ). z < head_of 8 xs) its (subst (λ (z : ℕ). n < z) is more)))
    ]

same_heads : (xs ys : List ℕ) (b : Bool) → bytes_eq xs ys ≡ b → ¬ (head_of 8 xs ≡ head_of 8 ys) → bytes_eq xs ys ≡ false
same_heads xs ys true is differ = absurd (differ (ap (λ (zs : List ℕ). head_of 8 zs) ((bytes_eq-Decides xs ys).0 is)))
same_heads xs ys false is differ = is

-- names whose numbers differ are two
pub heads_differ : (xs ys : List ℕ) (m n : ℕ) → m ≡ head_of 8 xs → n ≡ head_of 8 ys → ¬ (m ≡ n) → bytes_eq xs ys ≡ false
heads_differ xs ys m n is its differ = same_heads xs ys (bytes_eq xs ys) refl (λ same. differ (is ∙ same ∙ sym its))

-- ---- short names

some_byte : (byte : ℕ) → is_letter_or_digit byte ≡ true → 0 < byte
some_byte byte h = search (rules, h)

first_told : (n x y h k : ℕ) → x < y → h < weight n → ¬ (x * weight n + h ≡ y * weight n + k)
first_told n x y h k less below same =
    let up : suc x * weight n ≤ y * weight n = mul-le-mul_right (weight n) less in
    omega (arith, up, below, same)

-- a byte that is there counts
byte_counts : (n x h : ℕ) → 0 < x → ¬ (0 ≡ x * weight n + h)
byte_counts n x h some none =
    let up : 1 * weight n ≤ x * weight n = mul-le-mul_right (weight n) some in
    let above : 0 < weight n = weight_above n in
    omega (arith, up, above, none)

-- the number of so many bytes tells names that have no more
head_tells : (n : ℕ) (xs ys : List ℕ) → list_all is_letter_or_digit xs ≡ true → list_all is_letter_or_digit ys ≡ true → length xs ≤ n → length ys ≤ n → head_of n xs ≡ head_of n ys → xs ≡ ys
head_tells n [] [] h k short few same = refl
head_tells zero (x ∷ xs) ys h k short few same = absurd (omega (arith, short))
head_tells zero [] (y ∷ ys) h k short few same = absurd (omega (arith, few))
head_tells (suc n) [] (y ∷ ys) h k short few same =
    absurd (byte_counts n y (head_of n ys) (some_byte y (and_parts (is_letter_or_digit y) (list_all is_letter_or_digit ys) k).0) same)
head_tells (suc n) (x ∷ xs) [] h k short few same =
    absurd (byte_counts n x (head_of n xs) (some_byte x (and_parts (is_letter_or_digit x) (list_all is_letter_or_digit xs) h).0) (sym same))
head_tells (suc n) (x ∷ xs) (y ∷ ys) h k short few same =
    let hs = and_parts (is_letter_or_digit x) (list_all is_letter_or_digit xs) h in
    let ks = and_parts (is_letter_or_digit y) (list_all is_letter_or_digit ys) k in
    elim (cases_order x y) [
      | inl is ↦
          ap (λ (z : ℕ). z ∷ xs) is
          ∙ ap (λ (zs : List ℕ). y ∷ zs) (head_tells n xs ys hs.1 ks.1 (omega (arith, short)) (omega (arith, few))
          (let at : x * weight n + head_of n xs ≡ x * weight n + head_of n ys = subst (λ (z : ℕ). x * weight n + head_of n xs ≡ z * weight n + head_of n ys) (sym is) same in omega (arith, at)))
      | inr (inl below) ↦ absurd (first_told n x y (head_of n xs) (head_of n ys) below (head_under n xs hs.1) same)
      | inr (inr above) ↦ absurd (first_told n y x (head_of n ys) (head_of n xs) above (head_under n ys ks.1) (sym same))
    ]

-- short names whose numbers are the same are one
pub heads_tell : (xs ys : List ℕ) (m n : ℕ) → IsName xs → IsName ys → m ≡ head_of 8 xs → n ≡ head_of 8 ys → m ≡ n → length xs ≤ 8 → length ys ≤ 8 → bytes_eq xs ys ≡ true
heads_tell xs ys m n hx hy is its same short few =
    (bytes_eq-Decides xs ys).1 (head_tells 8 xs ys (letters_of xs hx) (letters_of ys hy) short few (sym is ∙ same ∙ its))

-- names that are the same tie
pub same_names_tie : (xs ys : List ℕ) → true ≡ bytes_eq xs ys → Equal ≡ slice_cmp nat_cmp xs ys
same_names_tie xs ys is = search (rules, is_eq-slice_cmp xs ys, is)
