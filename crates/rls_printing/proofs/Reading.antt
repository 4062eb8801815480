-- The words of a printed text are those that were printed.
use Rattle.std.proofs.Common.{◌≡◌, ℕ, zero, suc, ◌+◌, ◌-◌, ◌*◌, ◌^◌, ◌<◌, ◌≤◌, min, length, get_or, Bool, true, false, ◌&&◌, ◌||◌, not, nat_eq, nat_le, if◌then◌else◌, List, [], ◌∷◌, ◌++◌, Option, Some, None, refl, ap, sym, subst, ◌∙◌, append_assoc, append-nil, arith, rules, eqb-true, leb-true, inl, inr}
use Rattle.std.specs.Prelude.{pos, negsuc, codes, ◌⊎◌}
use Rattle.std.specs.{Char.encode_utf8, Char.to_ascii_lowercase, List.list_all, List.flat_map, Str.chars, Str.is_utf8, Fmt.decimal}
use Rattle.std.proofs.lemmas.Bool.{false_from_ne_true, ne_eqb, both_ways, or_cases, and_parts}
use Rattle.std.proofs.lemmas.Str.{chars-IsAscii, encodes-chars, IsUtf8-from_is_utf8}
use Rattle.std.proofs.lemmas.Fmt.{digits_decimal, digits_value-decimal, decimal_nonempty}
use Rattle.std.proofs.lemmas.Str.Parse.{IsNumeralModel, numerals_by_fold}
use lib.Utf8.{encodes}
use Rattle.rls_value.specs.Names.{folded, is_word, is_name_text, is_letter, is_letter_or_digit, is_between}
use Rattle.rls_text.specs.{declared.token.Symbol.Symbol, declared.token.Token.Token, Writes.joined, Writes.some_is, Words.words_of, Words.words_in, Words.next_word, Words.word_from, Words.word_of, Words.word_and_more, Words.is_bad, Words.is_blank, Words.begins_comment, Words.letters, Words.behind_letters, Words.is_digit, Words.number_from, Words.quoted, Words.quoted_in, Words.text_from, Words.next_quoted, Words.with_content, Words.behind_quote, Words.single, Words.double}
use Rattle.rls_printing.specs.{declared.buffer.Mark.Mark, OutputTokens.OutputToken, OutputTokens.Word, OutputTokens.Qualified, OutputTokens.Number, OutputTokens.Text, OutputTokens.Marked, OutputTokens.Count, OutputTokens.output_token_text, OutputTokens.tokens_read_of, OutputTokens.word_token, OutputTokens.tokens_of, OutputTokens.doubled, OutputTokens.mark_text, OutputTokens.symbol_of, Outputs.Output, Outputs.space, Outputs.opens, Outputs.closes, Outputs.is_fit, Outputs.are_fit, Outputs.output_tokens_text, Outputs.put, Outputs.put_all, Outputs.with_output_token}

-- ---- words with enough turns

-- the words of the characters, whatever the number of turns, if there are enough
abbrev pub Reads : List ℕ → List Token → Type 0
Reads cs ts = (n : ℕ) → length cs ≤ n → words_in n cs ≡ ts

pub reads_none : Reads [] []
unfolding words_in next_word
reads_none zero h = refl
reads_none (suc n) h = refl

turns : (n k l : ℕ) → l < k → k ≤ n → (m : ℕ) × (n ≡ suc m) × (l ≤ m)
turns zero k l h e = absurd (omega (arith, h, e))
turns (suc n) k l h e = (n, refl, omega (arith, h, e))

-- a word and what follows
reads_word : (cs rest : List ℕ) (token : Token) (ts : List Token) → next_word cs ≡ Some (token, rest) → is_bad token ≡ false → length rest < length cs → Reads rest ts → Reads cs (token ∷ ts)
unfolding words_in
reads_word cs rest token ts e b h again n enough =
    let x = turns n (length cs) (length rest) h enough in
    rw (x.1, e, b) (ap (λ z. token ∷ z) (again x.0 x.2))

space_passed : (cs : List ℕ) → next_word (32 ∷ cs) ≡ next_word cs
unfolding next_word begins_comment is_blank
space_passed [] = refl
space_passed (c ∷ cs) = refl

-- behind a space
reads_space : (cs : List ℕ) (ts : List Token) → Reads cs ts → Reads (32 ∷ cs) ts
unfolding words_in
reads_space cs ts again n enough =
    let x = turns n (length (32 ∷ cs)) (length cs) (omega arith) enough in
    let y : words_in (suc x.0) (32 ∷ cs) ≡ words_in (suc x.0) cs = ap (λ z. word_and_more (words_in x.0) z) (space_passed cs) in
    rw (x.1) (y ∙ again (suc x.0) (omega (arith, x.2)))

-- ---- characters

-- two characters of which a test tells one from the other
differs : (f : ℕ → Bool) (c k : ℕ) → f c ≡ true → f k ≡ false → nat_eq c k ≡ false
differs f c k h n = ne_eqb c k (λ e. both_ways (f k) n (subst (λ z. f z ≡ true) e h))

-- what a word may be followed by: nothing, a space, a comma or a closed parenthesis
abbrev pub stops : ℕ → Bool
stops c = nat_eq c 32 || (nat_eq c 41 || nat_eq c 44)

abbrev pub ends : List ℕ → Bool
ends [] = true
ends (c ∷ cs) = stops c

-- it begins with no letter and no digit
abbrev no_letter : List ℕ → Bool
no_letter [] = true
no_letter (c ∷ cs) = not (is_letter_or_digit c)

is_stop : (c : ℕ) → stops c ≡ true → (c ≡ 32) ⊎ ((c ≡ 41) ⊎ (c ≡ 44))
is_stop c h = elim (or_cases (nat_eq c 32) (nat_eq c 41 || nat_eq c 44) h) [
  | inl x ↦ inl (eqb-true c 32 x)
  | inr y ↦ elim (or_cases (nat_eq c 41) (nat_eq c 44) y) [ inl x ↦ inr (inl (eqb-true c 41 x)) | inr x ↦ inr (inr (eqb-true c 44 x)) ]
]

stop_false : (f : ℕ → Bool) (c : ℕ) → stops c ≡ true → f 32 ≡ false → f 41 ≡ false → f 44 ≡ false → f c ≡ false
stop_false f c h a b d = elim (is_stop c h) [ inl e ↦ subst (λ z. f z ≡ false) (sym e) a | inr y ↦ elim y [ inl e ↦ subst (λ z. f z ≡ false) (sym e) b | inr e ↦ subst (λ z. f z ≡ false) (sym e) d ] ]

ends_no_letter : (cs : List ℕ) → ends cs ≡ true → no_letter cs ≡ true
ends_no_letter [] h = refl
ends_no_letter (c ∷ cs) h = rw (stop_false is_letter_or_digit c h refl refl refl) refl

-- a character that is no blank and begins no comment begins a word
begins_word : (c : ℕ) (cs : List ℕ) → is_blank c ≡ false → begins_comment c cs ≡ false → next_word (c ∷ cs) ≡ Some (word_from c cs)
unfolding next_word
begins_word c cs b e = rw (e, b) refl

no_comment : (c : ℕ) (cs : List ℕ) → nat_eq c 45 ≡ false → begins_comment c cs ≡ false
unfolding begins_comment
no_comment c [] h = refl
no_comment c (d ∷ cs) h = rw h refl

no_blank : (f : ℕ → Bool) (c : ℕ) → f c ≡ true → f 32 ≡ false → f 9 ≡ false → f 10 ≡ false → f 13 ≡ false → is_blank c ≡ false
unfolding is_blank
no_blank f c h a b d e = rw (differs f c 32 h a, differs f c 9 h b, differs f c 10 h d, differs f c 13 h e) refl

-- ---- keywords and names

letters_all : (w rest : List ℕ) → list_all is_letter_or_digit w ≡ true → no_letter rest ≡ true → letters (w ++ rest) ≡ folded w
letters_all [] [] h k = refl
letters_all [] (c ∷ cs) h k = go (is_letter_or_digit c) k
  where
    go : (b : Bool) → not b ≡ true → (if b then to_ascii_lowercase c ∷ letters cs else []) ≡ []
    go true e = cc
    go false e = refl
letters_all (c ∷ w) rest h k =
    let x = and_parts (is_letter_or_digit c) (list_all is_letter_or_digit w) h in
    rw (x.0) (ap (λ z. to_ascii_lowercase c ∷ z) (letters_all w rest x.1 k))

letters_behind : (w rest : List ℕ) → list_all is_letter_or_digit w ≡ true → no_letter rest ≡ true → behind_letters (w ++ rest) ≡ rest
letters_behind [] [] h k = refl
letters_behind [] (c ∷ cs) h k = go (is_letter_or_digit c) k
  where
    go : (b : Bool) → not b ≡ true → (if b then behind_letters cs else c ∷ cs) ≡ c ∷ cs
    go true e = cc
    go false e = refl
letters_behind (c ∷ w) rest h k =
    let x = and_parts (is_letter_or_digit c) (list_all is_letter_or_digit w) h in
    rw (x.0) (letters_behind w rest x.1 k)

letter_word : (c : ℕ) (cs : List ℕ) → is_letter c ≡ true → word_from c cs ≡ word_of c cs
unfolding word_from
letter_word c cs h = rw (differs is_letter c 39 h refl, h) refl

word_next : (w rest : List ℕ) → is_name_text w ≡ true → no_letter rest ≡ true → next_word (w ++ rest) ≡ Some (Token.Word (folded w), rest)
word_next [] rest h k = cc
word_next (c ∷ w) rest h k =
    let x = and_parts (is_letter c) (list_all is_letter_or_digit (c ∷ w)) h in
    let y = and_parts (is_letter_or_digit c) (list_all is_letter_or_digit w) x.1 in
    begins_word c (w ++ rest) (no_blank is_letter c x.0 refl refl refl refl) (no_comment c (w ++ rest) (differs is_letter c 45 x.0 refl))
    ∙ ap (λ z. Some z) (letter_word c (w ++ rest) x.0)
    ∙ ap (λ z. Some (Token.Word (to_ascii_lowercase c ∷ z), behind_letters (w ++ rest))) (letters_all w rest y.1 k)
    ∙ ap (λ z. Some (Token.Word (folded (c ∷ w)), z)) (letters_behind w rest y.1 k)

longer : (c : ℕ) (w rest : List ℕ) → length rest < length ((c ∷ w) ++ rest)
longer c [] rest = omega arith
longer c (d ∷ w) rest = let h = longer d w rest in omega (arith, h)

word_longer : (w rest : List ℕ) → is_name_text w ≡ true → length rest < length (w ++ rest)
word_longer [] rest h = cc
word_longer (c ∷ w) rest h = longer c w rest

reads_name : (w rest : List ℕ) (ts : List Token) → is_name_text w ≡ true → no_letter rest ≡ true → Reads rest ts → Reads (w ++ rest) (Token.Word (folded w) ∷ ts)
reads_name w rest ts h k again = reads_word (w ++ rest) rest (Token.Word (folded w)) ts (word_next w rest h k) refl (word_longer w rest h) again

small_between : (low high c : ℕ) → high < 128 → is_between low high c ≡ true → c < 128
small_between low high c h e = let x = and_parts (nat_le low c) (nat_le c high) e in omega (arith, h, leb-true c high x.1)

small_letter : (c : ℕ) → is_letter c ≡ true → c < 128
small_letter c h = elim (or_cases (is_between 65 90 c || nat_eq c 95) (is_between 97 122 c) h) [
  | inl y ↦ elim (or_cases (is_between 65 90 c) (nat_eq c 95) y) [ inl x ↦ small_between 65 90 c (omega arith) x | inr x ↦ omega (arith, eqb-true c 95 x) ]
  | inr x ↦ small_between 97 122 c (omega arith) x
]

small_part : (c : ℕ) → is_letter_or_digit c ≡ true → c < 128
small_part c h = elim (or_cases (is_between 48 57 c) (is_letter c) h) [ inl x ↦ small_between 48 57 c (omega arith) x | inr x ↦ small_letter c x ]

ascii_letters : (w : List ℕ) → list_all is_letter_or_digit w ≡ true → (i : ℕ) → get_or w i 0 < 128
ascii_letters [] h i = omega arith
ascii_letters (c ∷ w) h zero = small_part c (and_parts (is_letter_or_digit c) (list_all is_letter_or_digit w) h).0
ascii_letters (c ∷ w) h (suc i) = ascii_letters w (and_parts (is_letter_or_digit c) (list_all is_letter_or_digit w) h).1 i

-- the characters of a name are its bytes
chars_name : (w : List ℕ) → is_name_text w ≡ true → chars w ≡ w
chars_name [] h = cc
chars_name (c ∷ w) h = chars-IsAscii (c ∷ w) (ascii_letters (c ∷ w) (and_parts (is_letter c) (list_all is_letter_or_digit (c ∷ w)) h).1)

-- ---- numbers

abbrev all_digits : List ℕ → Bool
all_digits [] = true
all_digits (c ∷ cs) = is_digit c && all_digits cs

-- the number that digits write behind others
abbrev read_on : ℕ → List ℕ → ℕ
read_on n [] = n
read_on n (c ∷ cs) = read_on (n * 10 + (c - 48)) cs

read_on_more : (n : ℕ) (ds : List ℕ) → n ≤ read_on n ds
read_on_more n [] = omega arith
read_on_more n (d ∷ ds) = let h = read_on_more (n * 10 + (d - 48)) ds in omega (arith, h)

min_left : (a b : ℕ) → a ≤ b → min a b ≡ a
min_left a b h = omega (arith, h)

number_read : (n : ℕ) (ds rest : List ℕ) → all_digits ds ≡ true → ends rest ≡ true → read_on n ds ≤ 18446744073709551615 → number_from n (ds ++ rest) ≡ (Token.Number (read_on n ds), rest)
number_read n [] [] h k small = refl
number_read n [] (c ∷ cs) h k small = rw (stop_false is_digit c k refl refl refl) refl
number_read n (d ∷ ds) rest h k small =
    let x = and_parts (is_digit d) (all_digits ds) h in
    let below = read_on_more (n * 10 + (d - 48)) ds in
    rw (x.0, min_left (n * 10 + (d - 48)) 18446744073709551615 (omega (arith, below, small))) (number_read (n * 10 + (d - 48)) ds rest x.1 k small)

digit_no_letter : (c : ℕ) → is_digit c ≡ true → is_letter c ≡ false
digit_no_letter c h = false_from_ne_true (is_letter c) (λ e.
    let x = and_parts (nat_le 48 c) (nat_le c 57) h in
    let high = leb-true c 57 x.1 in
    elim (or_cases (is_between 65 90 c || nat_eq c 95) (is_between 97 122 c) e) [
      | inl z ↦ elim (or_cases (is_between 65 90 c) (nat_eq c 95) z) [ inl y ↦ omega (arith, high, leb-true 65 c (and_parts (nat_le 65 c) (nat_le c 90) y).0) | inr y ↦ omega (arith, high, eqb-true c 95 y) ]
      | inr y ↦ omega (arith, high, leb-true 97 c (and_parts (nat_le 97 c) (nat_le c 122) y).0)
    ])

digit_word : (c : ℕ) (cs : List ℕ) → is_digit c ≡ true → word_from c cs ≡ number_from (c - 48) cs
unfolding word_from
digit_word c cs h = rw (differs is_digit c 39 h refl, digit_no_letter c h, h) refl

number_next : (d : ℕ) (ds rest : List ℕ) → all_digits (d ∷ ds) ≡ true → ends rest ≡ true → read_on 0 (d ∷ ds) ≤ 18446744073709551615 → next_word ((d ∷ ds) ++ rest) ≡ Some (Token.Number (read_on 0 (d ∷ ds)), rest)
number_next d ds rest h k small =
    let x = and_parts (is_digit d) (all_digits ds) h in
    let e : 0 * 10 + (d - 48) ≡ d - 48 = omega arith in
    begins_word d (ds ++ rest) (no_blank is_digit d x.0 refl refl refl refl) (no_comment d (ds ++ rest) (differs is_digit d 45 x.0 refl))
    ∙ ap (λ z. Some z) (digit_word d (ds ++ rest) x.0 ∙ ap (λ z. number_from z (ds ++ rest)) (sym e) ∙ number_read (0 * 10 + (d - 48)) ds rest x.1 k small)

own : IsNumeralModel (λ ds. all_digits ds ≡ true) (read_on 0)
own = numerals_by_fold _ (search rules) read_on (search rules)

reads_decimal : (n : ℕ) (rest : List ℕ) (ts : List Token) → n < 2 ^ 64 → ends rest ≡ true → Reads rest ts → Reads (decimal n ++ rest) (Token.Number n ∷ ts)
reads_decimal n rest ts h k again = go (decimal n) (digits_decimal own n h) (digits_value-decimal own n h) (decimal_nonempty n h)
  where
    go : (ds : List ℕ) → all_digits ds ≡ true → read_on 0 ds ≡ n → 0 < length ds → Reads (ds ++ rest) (Token.Number n ∷ ts)
    go [] a b l = absurd (omega (arith, l))
    go (d ∷ ds) a b l =
        reads_word ((d ∷ ds) ++ rest) rest (Token.Number n) ts
        (number_next d ds rest a k (omega (arith, b, h)) ∙ ap (λ z. Some (Token.Number z, rest)) b) refl (longer d ds rest) again

-- ---- texts

quote_ends : (rest : List ℕ) → ends rest ≡ true → behind_quote rest ≡ (None, rest)
quote_ends [] h = refl
quote_ends (c ∷ cs) h = rw (stop_false (λ z. nat_eq z 39) c h refl refl refl) refl

quoted_content : (cs rest : List ℕ) (n : ℕ) → ends rest ≡ true → length cs < n → quoted_in n (flat_map doubled cs ++ 39 ∷ rest) ≡ Some (encodes cs, rest)
unfolding quoted_in next_quoted with_content
quoted_content cs rest zero h l = absurd (omega (arith, l))
quoted_content [] rest (suc n) h l = rw (quote_ends rest h) refl
quoted_content (c ∷ cs) rest (suc n) h l = go (quoted_content cs rest n h (omega (arith, l))) (nat_eq c 39) refl
  where
    go : quoted_in n (flat_map doubled cs ++ 39 ∷ rest) ≡ Some (encodes cs, rest) → (b : Bool) → nat_eq c 39 ≡ b → quoted_in (suc n) (((if b then 39 ∷ 39 ∷ [] else c ∷ []) ++ flat_map doubled cs) ++ 39 ∷ rest) ≡ Some (encode_utf8 c ++ encodes cs, rest)
    go again true e = rw (again, eqb-true c 39 e) refl
    go again false e = rw (e, again) refl

content_long : (cs rest : List ℕ) → length cs < length (flat_map doubled cs ++ 39 ∷ rest)
content_long [] rest = omega arith
content_long (c ∷ cs) rest = go (content_long cs rest) (nat_eq c 39)
  where
    go : length cs < length (flat_map doubled cs ++ 39 ∷ rest) → (b : Bool) → length (c ∷ cs) < length (((if b then 39 ∷ 39 ∷ [] else c ∷ []) ++ flat_map doubled cs) ++ 39 ∷ rest)
    go h true = omega (arith, h)
    go h false = omega (arith, h)

quote_no_blank : is_blank 39 ≡ false
unfolding is_blank
quote_no_blank = refl

text_next : (cs rest : List ℕ) → ends rest ≡ true → next_word (39 ∷ (flat_map doubled cs ++ 39 ∷ rest)) ≡ Some (Token.Text (encodes cs), rest)
unfolding word_from quoted
text_next cs rest h =
    begins_word 39 (flat_map doubled cs ++ 39 ∷ rest) quote_no_blank (no_comment 39 (flat_map doubled cs ++ 39 ∷ rest) refl)
    ∙ ap (λ z. Some (text_from (flat_map doubled cs ++ 39 ∷ rest) z)) (quoted_content cs rest (length (flat_map doubled cs ++ 39 ∷ rest)) h (content_long cs rest))

rest_short : (cs rest : List ℕ) → length rest < length (cs ++ 39 ∷ rest)
rest_short [] rest = omega arith
rest_short (c ∷ cs) rest = let h = rest_short cs rest in omega (arith, h)

reads_text : (x rest : List ℕ) (ts : List Token) → is_utf8 x ≡ true → ends rest ≡ true → Reads rest ts → Reads ((39 ∷ (flat_map doubled (chars x) ++ 39 ∷ [])) ++ rest) (Token.Text x ∷ ts)
reads_text x rest ts u h again =
    let cs = chars x in
    let same : encodes cs ≡ x = encodes-chars x (IsUtf8-from_is_utf8 x u) in
    subst (λ z. Reads z (Token.Text x ∷ ts)) (ap (λ z. 39 ∷ z) (sym (append_assoc (flat_map doubled cs) (39 ∷ []) rest)))
    (reads_word (39 ∷ (flat_map doubled cs ++ 39 ∷ rest)) rest (Token.Text x) ts (text_next cs rest h ∙ ap (λ z. Some (Token.Text z, rest)) same) refl (let l = rest_short (flat_map doubled cs) rest in omega (arith, l)) again)

-- ---- marks

-- a sign before what may follow a word
sign_alone : (c : ℕ) (rest : List ℕ) → is_blank c ≡ false → nat_eq c 39 ≡ false → is_letter c ≡ false → is_digit c ≡ false → ends rest ≡ true → next_word (c ∷ rest) ≡ Some (single c, rest)
unfolding word_from next_word begins_comment double
sign_alone c [] b q l d h = rw (b, q, l, d) refl
sign_alone c (e ∷ rest) b q l d h =
    rw (stop_false (λ z. nat_eq z 45) e h refl refl refl, and_false (nat_eq c 45), b, q, l, d, stop_false (λ z. nat_eq z 62) e h refl refl refl, stop_false (λ z. nat_eq z 61) e h refl refl refl, and_false (nat_eq c 60), and_false (nat_eq c 33), and_false (nat_eq c 62)) refl
  where
    and_false : (x : Bool) → (x && false) ≡ false
    and_false true = refl
    and_false false = refl

not_equal : (rest : List ℕ) → next_word (60 ∷ 62 ∷ rest) ≡ Some (Token.Symbol Symbol.NotEqual, rest)
unfolding word_from next_word begins_comment double is_blank
not_equal rest = refl

less_or_equal : (rest : List ℕ) → next_word (60 ∷ 61 ∷ rest) ≡ Some (Token.Symbol Symbol.LessOrEqual, rest)
unfolding word_from next_word begins_comment double is_blank
less_or_equal rest = refl

greater_or_equal : (rest : List ℕ) → next_word (62 ∷ 61 ∷ rest) ≡ Some (Token.Symbol Symbol.GreaterOrEqual, rest)
unfolding word_from next_word begins_comment double is_blank
greater_or_equal rest = refl

mark_next : (m : Mark) → (rest : List ℕ) → ends rest ≡ true → next_word (mark_text m ++ rest) ≡ Some (Token.Symbol (symbol_of m), rest)
unfolding is_blank single
mark_next Mark.Open rest h = sign_alone 40 rest refl refl refl refl h
mark_next Mark.Close rest h = sign_alone 41 rest refl refl refl refl h
mark_next Mark.Comma rest h = sign_alone 44 rest refl refl refl refl h
mark_next Mark.Star rest h = sign_alone 42 rest refl refl refl refl h
mark_next Mark.Plus rest h = sign_alone 43 rest refl refl refl refl h
mark_next Mark.Minus rest h = sign_alone 45 rest refl refl refl refl h
mark_next Mark.Equal rest h = sign_alone 61 rest refl refl refl refl h
mark_next Mark.Less rest h = sign_alone 60 rest refl refl refl refl h
mark_next Mark.Greater rest h = sign_alone 62 rest refl refl refl refl h
mark_next Mark.NotEqual rest h = not_equal rest
mark_next Mark.LessOrEqual rest h = less_or_equal rest
mark_next Mark.GreaterOrEqual rest h = greater_or_equal rest

-- an open parenthesis before anything
open_next : (rest : List ℕ) → next_word (40 ∷ rest) ≡ Some (Token.Symbol Symbol.LParen, rest)
unfolding word_from next_word begins_comment double is_blank single
open_next [] = refl
open_next (c ∷ rest) = refl

star_next : (rest : List ℕ) → next_word (42 ∷ rest) ≡ Some (Token.Symbol Symbol.Star, rest)
unfolding word_from next_word begins_comment double is_blank single
star_next [] = refl
star_next (c ∷ rest) = refl

close_next : (rest : List ℕ) → next_word (41 ∷ rest) ≡ Some (Token.Symbol Symbol.RParen, rest)
unfolding word_from next_word begins_comment double is_blank single
close_next [] = refl
close_next (c ∷ rest) = refl

dot_next : (rest : List ℕ) → next_word (46 ∷ rest) ≡ Some (Token.Symbol Symbol.Dot, rest)
unfolding word_from next_word begins_comment double is_blank single
dot_next [] = refl
dot_next (c ∷ rest) = refl

-- a minus before a digit
minus_next : (d : ℕ) (ds : List ℕ) → is_digit d ≡ true → next_word (45 ∷ d ∷ ds) ≡ Some (Token.Symbol Symbol.Minus, d ∷ ds)
unfolding word_from next_word begins_comment double is_blank single
minus_next d ds h = rw (differs is_digit d 45 h refl) refl

reads_sign : (c : ℕ) (rest : List ℕ) (token : Token) (ts : List Token) → next_word (c ∷ rest) ≡ Some (token, rest) → is_bad token ≡ false → Reads rest ts → Reads (c ∷ rest) (token ∷ ts)
reads_sign c rest token ts e b again = reads_word (c ∷ rest) rest token ts e b (omega arith) again

mark_longer : (m : Mark) (rest : List ℕ) → length rest < length (mark_text m ++ rest)
mark_longer Mark.Open rest = omega arith
mark_longer _ rest = omega arith

-- ---- output tokens

reads_negative : (n : ℕ) (rest : List ℕ) (ts : List Token) → suc n ≤ 2 ^ 63 → ends rest ≡ true → Reads rest ts → Reads ((45 ∷ decimal (suc n)) ++ rest) (Token.Symbol Symbol.Minus ∷ Token.Number (suc n) ∷ ts)
reads_negative n rest ts h e again =
    let small : suc n < 2 ^ 64 = omega (arith, h) in
    go (decimal (suc n)) (digits_decimal own (suc n) small) (decimal_nonempty (suc n) small) (reads_decimal (suc n) rest ts small e again)
  where
    go : (ds : List ℕ) → all_digits ds ≡ true → 0 < length ds → Reads (ds ++ rest) (Token.Number (suc n) ∷ ts) → Reads ((45 ∷ ds) ++ rest) (Token.Symbol Symbol.Minus ∷ Token.Number (suc n) ∷ ts)
    go [] a l r = absurd (omega (arith, l))
    go (d ∷ ds) a l r = reads_sign 45 ((d ∷ ds) ++ rest) (Token.Symbol Symbol.Minus) (Token.Number (suc n) ∷ ts) (minus_next d (ds ++ rest) (and_parts (is_digit d) (all_digits ds) a).0) refl r

reads_column : (q n rest : List ℕ) (us : List Token) → is_name_text q ≡ true → is_name_text n ≡ true → ends rest ≡ true → Reads rest us → Reads ((chars q ++ 46 ∷ chars n) ++ rest) (Token.Word (folded q) ∷ Token.Symbol Symbol.Dot ∷ Token.Word (folded n) ∷ us)
reads_column q n rest us h k e again =
    rw (chars_name q h, chars_name n k, append_assoc q (46 ∷ n) rest)
    (reads_name q (46 ∷ (n ++ rest)) (Token.Symbol Symbol.Dot ∷ Token.Word (folded n) ∷ us) h refl
    (reads_sign 46 (n ++ rest) (Token.Symbol Symbol.Dot) (Token.Word (folded n) ∷ us) (dot_next (n ++ rest)) refl (reads_name n rest us k (ends_no_letter rest e) again)))

output_token_reads : (p : OutputToken) (ts us : List Token) (rest : List ℕ) → tokens_read_of p ≡ Some ts → is_fit p ≡ true → opens p ≡ false → ends rest ≡ true → Reads rest us → Reads (output_token_text p ++ rest) (ts ++ us)
output_token_reads (Word w) ts us rest h f o e again = go (is_name_text w) refl h
  where
    go : (b : Bool) → is_name_text w ≡ b → (if b then Some (Token.Word (folded w) ∷ []) else None) ≡ Some ts → Reads (chars w ++ rest) (ts ++ us)
    go true k i = rw (chars_name w k) (subst (λ z. Reads (w ++ rest) (z ++ us)) (some_is (Token.Word (folded w) ∷ []) ts i) (reads_name w rest us k (ends_no_letter rest e) again))
    go false k i = cc
output_token_reads (Qualified q n) ts us rest h f o e again = go (is_name_text q) (is_name_text n) refl refl h
  where
    go : (a b : Bool) → is_name_text q ≡ a → is_name_text n ≡ b
        → joined (if a then Some (Token.Word (folded q) ∷ []) else None) (joined (Some (Token.Symbol Symbol.Dot ∷ [])) (if b then Some (Token.Word (folded n) ∷ []) else None)) ≡ Some ts → Reads ((chars q ++ 46 ∷ chars n) ++ rest) (ts ++ us)
    go true true k l i = subst (λ z. Reads ((chars q ++ 46 ∷ chars n) ++ rest) (z ++ us)) (some_is (Token.Word (folded q) ∷ Token.Symbol Symbol.Dot ∷ Token.Word (folded n) ∷ []) ts i) (reads_column q n rest us k l e again)
    go true false k l i = cc
    go false b k l i = cc
output_token_reads (Number (pos n)) ts us rest h f o e again = go (nat_le n (2 ^ 63 - 1)) refl h
  where
    go : (b : Bool) → nat_le n (2 ^ 63 - 1) ≡ b → (if b then Some (Token.Number n ∷ []) else None) ≡ Some ts → Reads (decimal n ++ rest) (ts ++ us)
    go true k i = subst (λ z. Reads (decimal n ++ rest) (z ++ us)) (some_is (Token.Number n ∷ []) ts i) (reads_decimal n rest us (omega (arith, leb-true n (2 ^ 63 - 1) k)) e again)
    go false k i = cc
output_token_reads (Number (negsuc n)) ts us rest h f o e again = go (nat_le (suc n) (2 ^ 63)) refl h
  where
    go : (b : Bool) → nat_le (suc n) (2 ^ 63) ≡ b → (if b then Some (Token.Symbol Symbol.Minus ∷ Token.Number (suc n) ∷ []) else None) ≡ Some ts → Reads ((45 ∷ decimal (suc n)) ++ rest) (ts ++ us)
    go true k i = subst (λ z. Reads ((45 ∷ decimal (suc n)) ++ rest) (z ++ us)) (some_is (Token.Symbol Symbol.Minus ∷ Token.Number (suc n) ∷ []) ts i) (reads_negative n rest us (leb-true (suc n) (2 ^ 63) k) e again)
    go false k i = cc
output_token_reads (Text x) ts us rest h f o e again = subst (λ z. Reads (output_token_text (Text x) ++ rest) (z ++ us)) (some_is (Token.Text x ∷ []) ts h) (reads_text x rest us f e again)
output_token_reads (Marked m) ts us rest h f o e again =
    subst (λ z. Reads (mark_text m ++ rest) (z ++ us)) (some_is (Token.Symbol (symbol_of m) ∷ []) ts h) (reads_word (mark_text m ++ rest) rest (Token.Symbol (symbol_of m)) us (mark_next m rest e) refl (mark_longer m rest) again)
output_token_reads Count ts us rest h f o e again =
    subst (λ z. Reads (codes "COUNT(*)" ++ rest) (z ++ us)) (some_is (Token.Word (codes "count") ∷ Token.Symbol Symbol.LParen ∷ Token.Symbol Symbol.Star ∷ Token.Symbol Symbol.RParen ∷ []) ts h)
    (reads_name (codes "COUNT") (40 ∷ 42 ∷ 41 ∷ rest) (Token.Symbol Symbol.LParen ∷ Token.Symbol Symbol.Star ∷ Token.Symbol Symbol.RParen ∷ us) refl refl
    (reads_sign 40 (42 ∷ 41 ∷ rest) (Token.Symbol Symbol.LParen) (Token.Symbol Symbol.Star ∷ Token.Symbol Symbol.RParen ∷ us) (open_next (42 ∷ 41 ∷ rest)) refl
    (reads_sign 42 (41 ∷ rest) (Token.Symbol Symbol.Star) (Token.Symbol Symbol.RParen ∷ us) (star_next (41 ∷ rest)) refl
    (reads_sign 41 rest (Token.Symbol Symbol.RParen) us (close_next rest) refl again))))

-- what follows a word begins with a space, or closes
ends_next : (ps : List OutputToken) → ends (output_tokens_text false ps) ≡ true
ends_next (Marked Mark.Open ∷ ps) = refl
ends_next _ = refl

-- a word and those behind it
word_and_others : (p : OutputToken) (ps : List OutputToken) (ts us : List Token) → tokens_read_of p ≡ Some ts → is_fit p ≡ true → ((tight : Bool) → Reads (output_tokens_text tight ps) us) → Reads (output_token_text p ++ output_tokens_text (opens p) ps) (ts ++ us)
word_and_others (Marked Mark.Open) ps ts us h f again =
    subst (λ z. Reads (40 ∷ output_tokens_text true ps) (z ++ us)) (some_is (Token.Symbol Symbol.LParen ∷ []) ts h) (reads_sign 40 (output_tokens_text true ps) (Token.Symbol Symbol.LParen) us (open_next (output_tokens_text true ps)) refl (again true))
word_and_others p ps ts us h f again = output_token_reads p ts us (output_tokens_text false ps) h f refl (ends_next ps) (again false)

spaced_reads : (none : Bool) (cs : List ℕ) (ts : List Token) → Reads cs ts → Reads (space none ++ cs) ts
spaced_reads true cs ts h = h
spaced_reads false cs ts h = reads_space cs ts h

pub output_tokens_read : (ps : List OutputToken) (ts : List Token) → tokens_of ps ≡ Some ts → are_fit ps ≡ true → (tight : Bool) → Reads (output_tokens_text tight ps) ts
output_tokens_read [] ts h f tight = subst (λ z. Reads [] z) (some_is [] ts h) reads_none
output_tokens_read (p ∷ ps) ts h f tight = go (tokens_read_of p) refl (tokens_of ps) refl h (λ us e. output_tokens_read ps us e fit.1)
  where
    fit : (is_fit p ≡ true) × (are_fit ps ≡ true)
    fit = and_parts (is_fit p) (are_fit ps) f

    go : (o : Option (List Token)) → tokens_read_of p ≡ o → (u : Option (List Token)) → tokens_of ps ≡ u → joined o u ≡ Some ts
        → ((us : List Token) → tokens_of ps ≡ Some us → (tight : Bool) → Reads (output_tokens_text tight ps) us) → Reads (output_tokens_text tight (p ∷ ps)) ts
    go None a u b i again = cc
    go (Some x) a None b i again = cc
    go (Some x) a (Some y) b i again =
        subst (λ z. Reads (output_tokens_text tight (p ∷ ps)) z) (some_is (x ++ y) ts i)
        (spaced_reads (tight || closes p) (output_token_text p ++ output_tokens_text (opens p) ps) (x ++ y) (word_and_others p ps x y a fit.0 (again y b)))

-- The words of a text of printed words are their tokens.
pub words_told : (bytes : List ℕ) (ps : List OutputToken) (ts : List Token) → chars bytes ≡ output_tokens_text true ps → are_fit ps ≡ true → tokens_of ps ≡ Some ts → words_of bytes ≡ ts
words_told bytes ps ts e f h = rw e (output_tokens_read ps ts h f true (length (output_tokens_text true ps)) (omega arith))

-- a word's token
fit_word : (w : List ℕ) → is_word w ≡ true → word_token w ≡ Some (Token.Word (folded w) ∷ [])
fit_word w f = rw ((and_parts (is_name_text w) (nat_le (length w) 63) f).0) refl

-- what is fit has tokens
fit_output_token : (p : OutputToken) → is_fit p ≡ true → (ts : List Token) × (tokens_read_of p ≡ Some ts)
fit_output_token (Word w) f = (Token.Word (folded w) ∷ [], fit_word w f)
fit_output_token (Qualified q n) f = (
  Token.Word (folded q) ∷ Token.Symbol Symbol.Dot ∷ Token.Word (folded n) ∷ [],
  let both = and_parts (is_word q) (is_word n) f in rw (fit_word q both.0, fit_word n both.1) refl,
)
fit_output_token (Number (pos n)) f = (Token.Number n ∷ [], rw f refl)
fit_output_token (Number (negsuc n)) f = (Token.Symbol Symbol.Minus ∷ Token.Number (suc n) ∷ [], rw f refl)
fit_output_token (Text x) f = (Token.Text x ∷ [], refl)
fit_output_token (Marked m) f = (Token.Symbol (symbol_of m) ∷ [], refl)
fit_output_token Count f = (Token.Word (codes "count") ∷ Token.Symbol Symbol.LParen ∷ Token.Symbol Symbol.Star ∷ Token.Symbol Symbol.RParen ∷ [], refl)

-- so have all of them
pub fit_tokens : (ps : List OutputToken) → are_fit ps ≡ true → (ts : List Token) × (tokens_of ps ≡ Some ts)
fit_tokens [] f = ([], refl)
fit_tokens (p ∷ ps) f =
    let parts = and_parts (is_fit p) (are_fit ps) f in
    let first = fit_output_token p parts.0 in
    let others = fit_tokens ps parts.1 in
    (first.0 ++ others.0, rw (first.1, others.1) refl)

-- ---- what is put into a buffer

none_stays : (ps : List OutputToken) → put_all None ps ≡ None
unfolding put
none_stays [] = refl
none_stays (p ∷ ps) = none_stays ps

none_some : {A : Type 0} {x : A} → ◌≡◌ {A = Option A} None (Some x) → ⊥
none_some h = cc

some_same : {A : Type 0} (x y : A) → ◌≡◌ {A = Option A} (Some x) (Some y) → y ≡ x
some_same x y h = sym (some_is x y h)

-- the text of words that were put
pub record IsText (ps : List OutputToken) (s u : Output) : Type 0 where
  pub fit : are_fit ps ≡ true
  pub text : u.0 ≡ s.0 ++ output_tokens_text s.1 ps

pub put_text : (ps : List OutputToken) (s u : Output) → put_all (Some s) ps ≡ Some u → IsText ps s u
unfolding put with_output_token
put_text [] s u h = record { fit = refl; text = ap (λ z. z.0) (some_same s u h) ∙ sym (append-nil s.0) }
put_text (p ∷ ps) s u h = go (λ e. put_text ps (with_output_token s p) u e) (is_fit p) refl h
  where
    go : (put_all (Some (with_output_token s p)) ps ≡ Some u → IsText ps (with_output_token s p) u) → (b : Bool) → is_fit p ≡ b → put_all (if b then Some (with_output_token s p) else None) ps ≡ Some u → IsText (p ∷ ps) s u
    go again true f k =
        let x = again k in
        record {
          fit = rw f (x.fit);
          text = x.text ∙ append_assoc (s.0 ++ space (s.1 || closes p)) (output_token_text p) (output_tokens_text (opens p) ps) ∙ append_assoc s.0 (space (s.1 || closes p)) (output_token_text p ++ output_tokens_text (opens p) ps);
        }
    go again false f k = absurd (none_some (sym (none_stays ps) ∙ k))
