-- The words of a text, up to the first character that begins none (PostgreSQL manual, 4.1, without quoted names).
use Rattle.std.specs.Prelude.{ℕ, zero, suc, ◌+◌, ◌-◌, ◌*◌, min, nat_eq, Bool, true, false, not, ◌&&◌, ◌||◌, if◌then◌else◌, List, [], ◌∷◌, ◌++◌, length, Option, Some, None}
use Rattle.std.specs.Borrow.{Bor}
use Rattle.std.specs.Char.{to_ascii_lowercase, encode_utf8}
use Rattle.std.specs.Str.{chars}
use Rattle.rls_value.specs.Names.{is_between, is_letter, is_letter_or_digit}
use Rattle.rls_text.specs.declared.token.Symbol.{Symbol}
use Rattle.rls_text.specs.declared.token.Symbol.TheVariants as s
use Rattle.rls_text.specs.declared.token.Token.{Token}
use Rattle.rls_text.specs.declared.token.Token.TheVariants as t

-- space, tab, LF, CR
unfoldable pub is_blank : ℕ → Bool
is_blank c = nat_eq c 32 || nat_eq c 9 || nat_eq c 10 || nat_eq c 13

-- two minus signs
unfoldable pub begins_comment : ℕ → List ℕ → Bool
begins_comment c [] = false
begins_comment c (d ∷ ds) = nat_eq c 45 && nat_eq d 45

-- what follows the blanks and the comments, where a comment is open or none; it ends with the line
abbrev pub behind_blanks : Bool → List ℕ → List ℕ
behind_blanks comment [] = []
behind_blanks true (c ∷ cs) = behind_blanks (not (nat_eq c 10)) cs
behind_blanks false (c ∷ cs) = if begins_comment c cs then behind_blanks true cs else (if is_blank c then behind_blanks false cs else c ∷ cs)

-- the letters, digits and `_` at the front, in lower case
abbrev pub letters : List ℕ → List ℕ
letters [] = []
letters (c ∷ cs) = if is_letter_or_digit c then to_ascii_lowercase c ∷ letters cs else []

-- what follows them
abbrev pub behind_letters : List ℕ → List ℕ
behind_letters [] = []
behind_letters (c ∷ cs) = if is_letter_or_digit c then behind_letters cs else c ∷ cs

-- a keyword or a name, of which the first letter is read
abbrev pub word_of : ℕ → List ℕ → Token × List ℕ
word_of c cs = (t.Word (to_ascii_lowercase c ∷ letters cs), behind_letters cs)

-- 0 to 9
abbrev pub is_digit : ℕ → Bool
is_digit c = is_between 48 57 c

-- a number, the digits so far being read; over 64 bits it is their greatest
abbrev pub number_from : ℕ → List ℕ → Token × List ℕ
number_from n [] = (t.Number n, [])
number_from n (c ∷ cs) = if◌then◌else◌ {A = Token × List ℕ} (is_digit c) (number_from (min (n * 10 + (c - 48)) 18446744073709551615) cs) (t.Number n, c ∷ cs)

-- behind these bytes
unfoldable pub with_content : List ℕ → Option (List ℕ × List ℕ) → Option (List ℕ × List ℕ)
with_content front None = None
with_content front (Some read) = Some (front ++ read.0, read.1)

-- behind a quote: another one, and the two are one in the text; else the text has ended
abbrev pub behind_quote : List ℕ → Option ℕ × List ℕ
behind_quote [] = (None, [])
behind_quote (c ∷ cs) = if◌then◌else◌ {A = Option ℕ × List ℕ} (nat_eq c 39) (Some 39, cs) (None, c ∷ cs)

-- the next character of a text, or its end, and what follows; nothing where it isn't closed
unfoldable pub next_quoted : List ℕ → Option (Option ℕ × List ℕ)
next_quoted [] = None
next_quoted (c ∷ cs) = Some (if◌then◌else◌ {A = Option ℕ × List ℕ} (nat_eq c 39) (behind_quote cs) (Some c, cs))

-- a character and what follows it, up to the end
abbrev pub quoted_and_more : (List ℕ → Option (List ℕ × List ℕ)) → Option (Option ℕ × List ℕ) → Option (List ℕ × List ℕ)
quoted_and_more more None = None
quoted_and_more more (Some (None, rest)) = Some ([], rest)
quoted_and_more more (Some (Some c, rest)) = with_content (encode_utf8 c) (more rest)

-- the bytes of a text of so many characters at most, and what follows it
unfoldable pub quoted_in : ℕ → List ℕ → Option (List ℕ × List ℕ)
quoted_in zero cs = None
quoted_in (suc n) cs = quoted_and_more (quoted_in n) (next_quoted cs)

-- a text that isn't closed is no word
abbrev pub text_from : List ℕ → Option (List ℕ × List ℕ) → Token × List ℕ
text_from cs None = (t.Bad, cs)
text_from cs (Some read) = (t.Text read.0, read.1)

-- the text behind an opening quote
unfoldable pub quoted : List ℕ → Token × List ℕ
quoted cs = text_from cs (quoted_in (length cs) cs)

-- two characters that are one sign
unfoldable pub double : ℕ → ℕ → Option Symbol
double c d = if nat_eq c 60 && nat_eq d 62 then Some s.NotEqual else (if nat_eq c 33 && nat_eq d 61 then Some s.NotEqual else
    (if nat_eq c 60 && nat_eq d 61 then Some s.LessOrEqual else (if nat_eq c 62 && nat_eq d 61 then Some s.GreaterOrEqual else None)))

-- a sign of one character; another begins no word
unfoldable pub single : ℕ → Token
single c = if nat_eq c 40 then t.Symbol s.LParen else (if nat_eq c 41 then t.Symbol s.RParen else (if nat_eq c 44 then t.Symbol s.Comma else
    (if nat_eq c 46 then t.Symbol s.Dot else (if nat_eq c 59 then t.Symbol s.Semicolon else (if nat_eq c 42 then t.Symbol s.Star else
    (if nat_eq c 43 then t.Symbol s.Plus else (if nat_eq c 45 then t.Symbol s.Minus else (if nat_eq c 61 then t.Symbol s.Equal else
    (if nat_eq c 60 then t.Symbol s.Less else (if nat_eq c 62 then t.Symbol s.Greater else t.Bad))))))))))

-- two characters that are one sign, or the first alone
abbrev pub sign_with : ℕ → ℕ → List ℕ → Option Symbol → Token × List ℕ
sign_with c d ds (Some symbol) = (t.Symbol symbol, ds)
sign_with c d ds None = (single c, d ∷ ds)

-- the sign at the front
abbrev pub sign_from : ℕ → List ℕ → Token × List ℕ
sign_from c [] = (single c, [])
sign_from c (d ∷ ds) = sign_with c d ds (double c d)

-- the word that begins with this character, and what follows it
unfoldable pub word_from : ℕ → List ℕ → Token × List ℕ
word_from c cs = if◌then◌else◌ {A = Token × List ℕ} (nat_eq c 39) (quoted cs) (if◌then◌else◌ {A = Token × List ℕ} (is_letter c) (word_of c cs)
    (if◌then◌else◌ {A = Token × List ℕ} (is_digit c) (number_from (c - 48) cs) (sign_from c cs)))

-- no word of a statement
abbrev pub is_bad : Token → Bool
is_bad t.Bad = true
is_bad _ = false

-- the word at the front, and what follows it
abbrev pub word_at : List ℕ → Option (Token × List ℕ)
word_at [] = None
word_at (c ∷ cs) = Some (word_from c cs)

-- the first word, behind blanks and comments, and what follows it
unfoldable pub next_word : List ℕ → Option (Token × List ℕ)
next_word cs = word_at (behind_blanks false cs)

-- behind a bad word no others are read
abbrev pub word_and_more : (List ℕ → List Token) → Option (Token × List ℕ) → List Token
word_and_more more None = []
word_and_more more (Some read) = read.0 ∷ (if is_bad read.0 then [] else more read.1)

-- as the code gives it
abbrev pub read_now : {A : Type 0} → Option (A × Bor (List ℕ)) → Option (A × List ℕ)
read_now None = None
read_now (Some read) = Some (read.0, read.1.now)

-- so many words at most
unfoldable pub words_in : ℕ → List ℕ → List Token
words_in zero cs = []
words_in (suc n) cs = word_and_more (words_in n) (next_word cs)

-- the words of the text; each takes up a character at least, so that there are no more of them than characters
abbrev pub words_of : List ℕ → List Token
words_of text = words_in (length (chars text)) (chars text)
