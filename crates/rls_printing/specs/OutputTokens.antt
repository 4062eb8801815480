-- The words of printed texts: how each is written, and which tokens it is read as.
use Rattle.std.specs.Prelude.{ℕ, ◌-◌, ◌^◌, nat_le, pos, negsuc, ℤ, suc, nat_eq, if◌then◌else◌, List, [], ◌∷◌, ◌++◌, Option, Some, None, codes}
use Rattle.std.specs.Fmt.{signed_decimal}
use Rattle.std.specs.List.{flat_map}
use Rattle.std.specs.Str.{chars}
use Rattle.rls_value.specs.Names.{folded, is_name_text}
use Rattle.rls_text.specs.declared.token.Symbol.{Symbol}
use Rattle.rls_text.specs.declared.token.Symbol.TheVariants as s
use Rattle.rls_text.specs.declared.token.Token.{Token}
use Rattle.rls_text.specs.declared.token.Token.TheVariants as t
use Rattle.rls_text.specs.Writes.{joined}
use Rattle.rls_printing.specs.declared.buffer.Mark.{Mark}
use Rattle.rls_printing.specs.declared.buffer.Mark.TheVariants as m

-- a word of a printed text
pub data OutputToken : Type 0 where
  -- a keyword or a name
  Word : List ℕ → OutputToken
  -- a name with what qualifies it
  Qualified : (qualifier name : List ℕ) → OutputToken
  -- a number with its sign
  Number : ℤ → OutputToken
  -- a text, which is put between quotes
  Text : List ℕ → OutputToken
  Marked : Mark → OutputToken
  -- COUNT(*)
  Count : OutputToken

-- ---- how a word is written, as characters

-- a character between quotes: a quote twice
abbrev pub doubled : ℕ → List ℕ
doubled c = if nat_eq c 39 then 39 ∷ 39 ∷ [] else c ∷ []

-- between quotes
abbrev pub quoted : List ℕ → List ℕ
quoted cs = 39 ∷ (flat_map doubled cs ++ 39 ∷ [])

-- a mark
abbrev pub mark_text : Mark → List ℕ
mark_text m.Open = codes "("
mark_text m.Close = codes ")"
mark_text m.Comma = codes ","
mark_text m.Star = codes "*"
mark_text m.Plus = codes "+"
mark_text m.Minus = codes "-"
mark_text m.Equal = codes "="
mark_text m.NotEqual = codes "<>"
mark_text m.Less = codes "<"
mark_text m.LessOrEqual = codes "<="
mark_text m.Greater = codes ">"
mark_text m.GreaterOrEqual = codes ">="

-- a word
abbrev pub output_token_text : OutputToken → List ℕ
output_token_text (Word w) = chars w
output_token_text (Qualified qualifier name) = chars qualifier ++ 46 ∷ chars name
output_token_text (Number z) = signed_decimal z
output_token_text (Text x) = quoted (chars x)
output_token_text (Marked m) = mark_text m
output_token_text Count = codes "COUNT(*)"

-- ---- which tokens it is read as

-- a mark as a token
abbrev pub symbol_of : Mark → Symbol
symbol_of m.Open = s.LParen
symbol_of m.Close = s.RParen
symbol_of m.Comma = s.Comma
symbol_of m.Star = s.Star
symbol_of m.Plus = s.Plus
symbol_of m.Minus = s.Minus
symbol_of m.Equal = s.Equal
symbol_of m.NotEqual = s.NotEqual
symbol_of m.Less = s.Less
symbol_of m.LessOrEqual = s.LessOrEqual
symbol_of m.Greater = s.Greater
symbol_of m.GreaterOrEqual = s.GreaterOrEqual

-- letters, digits and `_`, in lower case; nothing where they make no word
abbrev pub word_token : List ℕ → Option (List Token)
word_token w = if is_name_text w then Some (t.Word (folded w) ∷ []) else None

-- a number with its sign; nothing where it is out of the range of 64 bits
abbrev pub number_tokens : ℤ → Option (List Token)
number_tokens (pos n) = if nat_le n (2 ^ 63 - 1) then Some (t.Number n ∷ []) else None
number_tokens (negsuc n) = if nat_le (suc n) (2 ^ 63) then Some (t.Symbol s.Minus ∷ t.Number (suc n) ∷ []) else None

-- a word
abbrev pub tokens_read_of : OutputToken → Option (List Token)
tokens_read_of (Word w) = word_token w
tokens_read_of (Qualified qualifier name) = joined (word_token qualifier) (joined (Some (t.Symbol s.Dot ∷ [])) (word_token name))
tokens_read_of (Number z) = number_tokens z
tokens_read_of (Text x) = Some (t.Text x ∷ [])
tokens_read_of (Marked m) = Some (t.Symbol (symbol_of m) ∷ [])
tokens_read_of Count = Some (t.Word (codes "count") ∷ t.Symbol s.LParen ∷ t.Symbol s.Star ∷ t.Symbol s.RParen ∷ [])

-- words, one behind another
abbrev pub tokens_of : List OutputToken → Option (List Token)
tokens_of [] = Some []
tokens_of (p ∷ ps) = joined (tokens_read_of p) (tokens_of ps)
