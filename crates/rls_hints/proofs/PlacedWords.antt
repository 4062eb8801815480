-- Words that are read one by one.
use Rattle.std.proofs.Common.{◌≡◌, ℕ, zero, suc, ◌+◌, ◌-◌, ◌<◌, ◌≤◌, Bool, true, false, List, [], ◌∷◌, ◌++◌, length, Option, Some, None, refl, arith, ap, sym, append_assoc, ◌∙◌}
use Rattle.std.specs.Prelude.{map, min, ◌*◌, if◌then◌else◌}
use Rattle.rls_text.specs.declared.token.Token.{Token as TextToken}
use Rattle.rls_text.specs.declared.token.Token.TheVariants as w
use Rattle.std.proofs.lemmas.Bool.{ne_eqb}
use Rattle.rls_value.specs.Names.{is_letter}
use Rattle.rls_text.specs.Words.{word_from, is_digit, number_from, quoted, quoted_in, quoted_and_more, text_from, with_content, next_quoted, next_word, word_and_more, words_in, words_of, behind_blanks}
use Rattle.rls_hints.specs.declared.token.Placed.{Placed}
use Rattle.rls_hints.specs.declared.token.Token.{Token}
use Rattle.rls_hints.specs.declared.token.Token.TheVariants as t
use Rattle.rls_hints.specs.Beginnings.{seen, mark_of}
use Rattle.rls_hints.specs.Reading.{seen_first, next_placed, placed_first, placed_and_more, placed_in, placed_of, is_end, behind_digits, behind_and_more, behind_quoted, text_or_bad}
use Rattle.std.specs.Char.{encode_utf8}
use Rattle.std.specs.Str.{chars}

pub one_left : (turn end : ℕ) → turn < end → end - turn ≡ suc (end - (turn + 1))
one_left turn end h = omega arith

pub none_left : (turn end : ℕ) → end ≤ turn → end - turn ≡ 0
none_left turn end h = omega arith

append_end : {A : Type 0} (xs : List A) → xs ++ [] ≡ xs
append_end [] = refl
append_end (x ∷ xs) = ap (λ z. x ∷ z) (append_end xs)

pub words_begin : (n : ℕ) (cs : List ℕ) → placed_in n cs ≡ [] ++ placed_in (n - 0) cs
words_begin n cs = let e : n - 0 ≡ n = omega arith in rw e refl

pub words_none : (front : List Placed) (turn end : ℕ) (rest : List ℕ) → turn < end → next_placed rest ≡ None → front ++ placed_in (end - turn) rest ≡ front
unfolding placed_in
words_none front turn end rest h e = rw (one_left turn end h, e) (append_end front)

pub words_end : (front : List Placed) (turn end : ℕ) (rest : List ℕ) → end ≤ turn → front ++ placed_in (end - turn) rest ≡ front
unfolding placed_in
words_end front turn end rest h = rw (none_left turn end h) (append_end front)

pub words_last : (front : List Placed) (turn end : ℕ) (rest behind : List ℕ) (placed : Placed) → turn < end → next_placed rest ≡ Some (placed, behind) → is_end placed.token ≡ true
    → front ++ placed_in (end - turn) rest ≡ front ++ placed ∷ []
unfolding placed_in
words_last front turn end rest behind placed h e b = rw (one_left turn end h, e, b) refl

pub words_more : (front : List Placed) (turn end : ℕ) (rest behind : List ℕ) (placed : Placed) → turn < end → next_placed rest ≡ Some (placed, behind) → is_end placed.token ≡ false
    → front ++ placed_in (end - turn) rest ≡ (front ++ placed ∷ []) ++ placed_in (end - (turn + 1)) behind
unfolding placed_in
words_more front turn end rest behind placed h e b = rw (one_left turn end h, e, b) (sym (append_assoc front (placed ∷ []) (placed_in (end - (turn + 1)) behind)))

pub quoted_begins : (n : ℕ) (cs : List ℕ) → behind_quoted n cs ≡ behind_quoted (n - 0) cs
quoted_begins n cs = let e : n - 0 ≡ n = omega arith in rw e refl

pub quoted_open : (turn end : ℕ) (rest : List ℕ) → turn < end → next_quoted rest ≡ None → behind_quoted (end - turn) rest ≡ None
unfolding behind_quoted
quoted_open turn end rest h e = rw (one_left turn end h, e) refl

pub quoted_out : (turn end : ℕ) (rest : List ℕ) → end ≤ turn → behind_quoted (end - turn) rest ≡ None
unfolding behind_quoted
quoted_out turn end rest h = rw (none_left turn end h) refl

pub quoted_ends : (turn end : ℕ) (rest behind : List ℕ) → turn < end → next_quoted rest ≡ Some (None, behind) → behind_quoted (end - turn) rest ≡ Some behind
unfolding behind_quoted
quoted_ends turn end rest behind h e = rw (one_left turn end h, e) refl

pub quoted_more : (turn end c : ℕ) (rest behind : List ℕ) → turn < end → next_quoted rest ≡ Some (Some c, behind) → behind_quoted (end - turn) rest ≡ behind_quoted (end - (turn + 1)) behind
unfolding behind_quoted
quoted_more turn end c rest behind h e = rw (one_left turn end h, e) refl

-- a number is its digits
pub number_seen : (n : ℕ) (cs : List ℕ) → seen_first (number_from n cs) ≡ (t.Number, behind_digits cs)
number_seen n [] = refl
number_seen n (c ∷ cs) = go (is_digit c) (λ m. number_seen m cs)
  where
    go : (b : Bool) → ((m : ℕ) → seen_first (number_from m cs) ≡ (t.Number, behind_digits cs)) → seen_first (if◌then◌else◌ {A = TextToken × List ℕ} b (number_from (min (n * 10 + (c - 48)) 18446744073709551615) cs) (w.Number n, c ∷ cs)) ≡ (t.Number, if b then behind_digits cs else c ∷ cs)
    go true more = more _
    go false more = refl

pub digits_seen : (c : ℕ) (cs : List ℕ) → (c ≡ 39 → ⊥) → is_letter c ≡ false → is_digit c ≡ true → (t.Number, behind_digits cs) ≡ seen_first (word_from c cs)
unfolding word_from
digits_seen c cs other letter digit = rw (ne_eqb c 39 other, letter, digit) (sym (number_seen (c - 48) cs))

-- a text ends where it is read to
unfoldable read_to : (whole : List ℕ) → Option (List ℕ × List ℕ) → Token × List ℕ
read_to whole o = seen_first (text_from whole o)

content_kept : (whole front : List ℕ) (o : Option (List ℕ × List ℕ)) → read_to whole (with_content front o) ≡ read_to whole o
unfolding with_content read_to
content_kept whole front None = refl
content_kept whole front (Some read) = refl

quoted_behind : (n : ℕ) (cs whole : List ℕ) → read_to whole (quoted_in n cs) ≡ text_or_bad whole (behind_quoted n cs)
unfolding quoted_in behind_quoted read_to
quoted_behind zero cs whole = refl
quoted_behind (suc n) cs whole = go (next_quoted cs) (λ ds. quoted_behind n ds whole)
  where
    go : (o : Option (Option ℕ × List ℕ)) → ((ds : List ℕ) → read_to whole (quoted_in n ds) ≡ text_or_bad whole (behind_quoted n ds)) → read_to whole (quoted_and_more (quoted_in n) o) ≡ text_or_bad whole (behind_and_more (behind_quoted n) o)
    go None more = refl
    go (Some (None, rest)) more = refl
    go (Some (Some c, rest)) more = content_kept whole (encode_utf8 c) (quoted_in n rest) ∙ more rest

pub quoted_seen : (cs : List ℕ) → seen_first (quoted cs) ≡ text_or_bad cs (behind_quoted (length cs) cs)
unfolding quoted read_to
quoted_seen cs = quoted_behind (length cs) cs cs

-- The words are those of `rls_text`.
one_seen : (read : Option (TextToken × List ℕ)) (left : ℕ) (n : ℕ) (more : List ℕ → List Placed) (words : List ℕ → List TextToken) → ((cs : List ℕ) → map (λ placed. placed.token) (more cs) ≡ map seen (words cs))
    → map (λ placed. placed.token) (placed_and_more more (placed_first left read)) ≡ map seen (word_and_more words read)
one_seen None left n more words h = refl
one_seen (Some (w.Bad, rest)) left n more words h = refl
one_seen (Some (w.Word x, rest)) left n more words h = ap (λ ts. t.Word x ∷ ts) (h rest)
one_seen (Some (w.Number x, rest)) left n more words h = ap (λ ts. t.Number ∷ ts) (h rest)
one_seen (Some (w.Text x, rest)) left n more words h = ap (λ ts. t.Text ∷ ts) (h rest)
one_seen (Some (w.Symbol x, rest)) left n more words h = ap (λ ts. t.Sign (mark_of x) ∷ ts) (h rest)

words_seen : (n : ℕ) (cs : List ℕ) → map (λ placed. placed.token) (placed_in n cs) ≡ map seen (words_in n cs)
unfolding placed_in words_in next_placed
words_seen zero cs = refl
words_seen (suc n) cs = one_seen (next_word cs) (length (behind_blanks false cs)) n (placed_in n) (words_in n) (λ ds. words_seen n ds)

pub read_as_words : (text : List ℕ) → map (λ placed. placed.token) (placed_of text) ≡ map seen (words_of text)
read_as_words text = words_seen (length (chars text)) (chars text)
