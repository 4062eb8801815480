-- Words that are put one behind another.
use Rattle.std.proofs.Common.{◌≡◌, ℕ, zero, suc, ◌+◌, ◌<◌, length, drop, take, get_or, ◌-◌, arith, ◌^◌, Bool, true, false, ◌||◌, if◌then◌else◌, List, [], ◌∷◌, ◌++◌, Option, Some, Result, Ok, Err, is_ok, OnOk, string_bytes, String, Global, refl, ap, sym, ◌∙◌, append-nil, eqb-true, le-leb, nat_eq}
use Rattle.std.specs.Prelude.{ℤ, pos, negsuc, codes}
use Rattle.std.specs.Char.{encode_utf8, IsScalar}
use Rattle.std.specs.Fmt.{signed_decimal}
use Rattle.std.specs.Str.{chars}
use Rattle.std.proofs.lemmas.List.{take_all, length-drop}
use Rattle.std.proofs.lemmas.Fmt.{IsAscii-signed}
use Rattle.std.proofs.lemmas.Str.{chars-append, IsUtf8-string_bytes, chars_past_char, IsUtf8-encode, chars-nil, chars-IsAscii}
use lib.Signed.{mag}
use native.Mathlib.Numerals.{unary_clauses}
use Rattle.rls_expr.specs.Terms.{Term, More, terms_of}
use Rattle.rls_printing.specs.{declared.buffer.Mark.Mark, OutputTokens.OutputToken, OutputTokens.output_token_text, OutputTokens.mark_text, OutputTokens.doubled, Outputs.Output, Outputs.put, Outputs.put_all, Outputs.with_output_token, Outputs.space, Outputs.is_fit, Outputs.opens, Outputs.closes, Outputs.is_number, Outputs.text_of}

pub put_both : (output : Option Output) (ps qs : List OutputToken) → put_all output (ps ++ qs) ≡ put_all (put_all output ps) qs
put_both output [] qs = refl
put_both output (p ∷ ps) qs = put_both (put output p) ps qs

or_false : (b : Bool) → b ≡ (b || false)
or_false true = refl
or_false false = refl

-- a word behind its space
pub put_is : (old a b : List ℕ) (after_open : Bool) (p : OutputToken) → is_fit p ≡ true → a ≡ old ++ space (after_open || closes p) → b ≡ a ++ output_token_text p → put (Some (old, after_open)) p ≡ Some (b, opens p)
unfolding put with_output_token
put_is old a b after_open p f ha hb = rw f (ap (λ z. Some (z, opens p)) (sym (hb ∙ ap (λ z. z ++ output_token_text p) ha)))

-- one that doesn't close
pub put_word : (old a b : List ℕ) (after_open : Bool) (p : OutputToken) → is_fit p ≡ true → closes p ≡ false → a ≡ old ++ space after_open → b ≡ a ++ output_token_text p → put (Some (old, after_open)) p ≡ Some (b, opens p)
put_word old a b after_open p f c ha hb = put_is old a b after_open p f (ha ∙ ap (λ z. old ++ space z) (or_false after_open ∙ ap (λ z. after_open || z) (sym c))) hb

-- the characters of a text that grows
pub text_grows : {E : Type 0} (r : Result (Unit {0}) E) (old new : String Global) (bs : List ℕ) → string_bytes new ≡ (if is_ok r then string_bytes old ++ bs else string_bytes old) → OnOk r (text_of new ≡ text_of old ++ chars bs)
unfolding text_of
text_grows (Ok x) old new bs h = ap chars h ∙ chars-append (string_bytes old) bs (IsUtf8-string_bytes old)
text_grows (Err e) old new bs h = tt

pub on_ok : {E : Type 0} {P Q : Type 0} (r : Result (Unit {0}) E) → OnOk r P → (P → Q) → OnOk r Q
on_ok (Ok x) h f = f h
on_ok (Err e) h f = tt

pub text_writes : {E : Type 0} (r : Result (Unit {0}) E) (old new : String Global) (bs cs : List ℕ) → OnOk r (string_bytes new ≡ string_bytes old ++ bs) → chars bs ≡ cs → OnOk r (text_of new ≡ text_of old ++ cs)
unfolding text_of
text_writes (Ok x) old new bs cs h e = ap chars h ∙ chars-append (string_bytes old) bs (IsUtf8-string_bytes old) ∙ ap (λ z. chars (string_bytes old) ++ z) e
text_writes (Err e) old new bs cs h k = tt

pub text_with : {E : Type 0} (r : Result (Unit {0}) E) (old new : String Global) (bs cs : List ℕ) → OnOk r (text_of new ≡ text_of old ++ chars bs) → chars bs ≡ cs → OnOk r (text_of new ≡ text_of old ++ cs)
text_with r old new bs cs h e = on_ok r h (λ k. k ∙ ap (λ z. text_of old ++ z) e)

pub chars_char : (c : ℕ) → IsScalar c → chars (encode_utf8 c) ≡ c ∷ []
chars_char c h = chars_past_char (encode_utf8 c) [] c (IsUtf8-encode c h) (sym (append-nil (encode_utf8 c))) ∙ ap (λ z. c ∷ z) chars-nil

pub number_fit : (z : ℤ) → mag z < 2 ^ 63 → is_number z ≡ true
number_fit (pos n) h = le-leb n (2 ^ 63 - 1) (omega (arith, h))
number_fit (negsuc n) h = le-leb (suc n) (2 ^ 63) (omega (arith, h))

pub chars_signed : (z : ℤ) → mag z < 2 ^ 63 → chars (signed_decimal z) ≡ signed_decimal z
chars_signed z h = chars-IsAscii (signed_decimal z) (IsAscii-signed z h)

pub doubled_other : (c : ℕ) → (c ≡ 39 → ⊥) → doubled c ≡ c ∷ []
doubled_other c h = go (nat_eq c 39) refl
  where
    go : (b : Bool) → nat_eq c 39 ≡ b → (if b then 39 ∷ 39 ∷ [] else c ∷ []) ≡ c ∷ []
    go true e = absurd (h (eqb-true c 39 e))
    go false e = refl

pub chars_space : chars (32 ∷ []) ≡ 32 ∷ []
unfolding chars
chars_space = refl

pub chars_quote : chars (39 ∷ []) ≡ 39 ∷ []
unfolding chars
chars_quote = refl

pub chars_quotes : chars (39 ∷ 39 ∷ []) ≡ 39 ∷ 39 ∷ []
unfolding chars
chars_quotes = refl

pub chars_dot : chars (46 ∷ []) ≡ 46 ∷ []
unfolding chars
chars_dot = refl

pub chars_count : chars (codes "COUNT(*)") ≡ codes "COUNT(*)"
unfolding chars
chars_count = refl

pub chars_mark : (m : Mark) → chars (mark_text m) ≡ mark_text m
unfolding chars
chars_mark Mark.Open = refl
chars_mark _ = refl

-- words, and those behind them
pub put_on : {E : Type 0} (s : Option Output) (a b : List OutputToken) (t u : Option Output) (r : Result (Unit {0}) E) → put_all s a ≡ t → OnOk r (put_all t b ≡ u) → OnOk r (put_all s (a ++ b) ≡ u)
put_on s a b t u r h k = on_ok r k (λ e. put_both s a b ∙ ap (λ z. put_all z b) h ∙ e)

-- a word, and those behind it
pub put_one : {E : Type 0} (s : Option Output) (p : OutputToken) (b : List OutputToken) (t u : Option Output) (r : Result (Unit {0}) E) → put s p ≡ t → OnOk r (put_all t b ≡ u) → OnOk r (put_all s (p ∷ b) ≡ u)
put_one s p b t u r h k = on_ok r k (λ e. ap (λ z. put_all z b) h ∙ e)

pub on_same : {E : Type 0} {A : Type 0} (r : Result (Unit {0}) E) (a b u : A) → a ≡ b → OnOk r (b ≡ u) → OnOk r (a ≡ u)
on_same r a b u h k = on_ok r k (λ e. h ∙ e)

-- three, of which the second is given by a call
pub put_step : (s t u : Option Output) (p : OutputToken) (a b : List OutputToken) → put s p ≡ t → put_all t a ≡ u → put_all s (p ∷ (a ++ b)) ≡ put_all u b
put_step s t u p a b h k = put_both (put s p) a b ∙ ap (λ z. put_all z b) (ap (λ z. put_all z a) h ∙ k)

-- what is left begins with the part at the index
terms_from : (es : List Term) (i : ℕ) (e : Term) → i < length es → e ≡ get_or es i e → terms_of (drop i es) ≡ More e (terms_of (drop (suc i) es))
terms_from [] i e h is = absurd (omega arith)
terms_from (x ∷ es) zero e h is = ap (λ y. More y (terms_of es)) (sym is)
terms_from (x ∷ es) (suc i) e h is = terms_from es i e (omega arith) is

-- the same, with the next index as code writes it
pub terms_left : (es : List Term) (i : ℕ) (e : Term) → i < length es → e ≡ get_or es i e → terms_of (drop i es) ≡ More e (terms_of (drop (i + 1) es))
terms_left es i e h is = simp unary_clauses (terms_from es i e h is)

-- all but the first, as a pattern gives them
pub rest_is : {A : Type 0} (xs : List A) → take (length xs - 1) (drop 1 xs) ≡ drop 1 xs
rest_is xs = take_all (length xs - 1) (drop 1 xs) (omega (arith, length-drop 1 xs))

items_from : {A : Type 0} (xs : List A) (i : ℕ) (x : A) → i < length xs → x ≡ get_or xs i x → drop i xs ≡ x ∷ drop (suc i) xs
items_from [] i x h is = absurd (omega arith)
items_from (y ∷ xs) zero x h is = ap (λ z. z ∷ xs) (sym is)
items_from (y ∷ xs) (suc i) x h is = items_from xs i x (omega arith) is

-- what is left of a list begins with the item at the index
pub items_left : {A : Type 0} (xs : List A) (i : ℕ) (x : A) → i < length xs → x ≡ get_or xs i x → drop i xs ≡ x ∷ drop (i + 1) xs
items_left xs i x h is = simp unary_clauses (items_from xs i x h is)
