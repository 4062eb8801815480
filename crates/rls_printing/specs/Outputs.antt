-- The text of a list of words: one space between two of them, but none behind an open parenthesis and none before a
-- comma or a closed one.
use Rattle.std.specs.Prelude.{ℕ, ◌-◌, ◌^◌, suc, nat_le, ℤ, pos, negsuc, Bool, true, false, ◌&&◌, ◌||◌, if◌then◌else◌, List, [], ◌∷◌, ◌++◌, Option, Some, None}
use Rattle.std.specs.Prelude.{String}
use Rattle.std.proofs.Common.{Global}
use Rattle.std.specs.Str.{chars, is_utf8}
use Rattle.std.specs.String.{string_bytes}
use Rattle.rls_value.specs.Names.{is_word}
use Rattle.rls_printing.specs.declared.buffer.OutputBuffer.{OutputBuffer}
use Rattle.rls_printing.specs.declared.buffer.Mark.TheVariants as m
use Rattle.rls_printing.specs.OutputTokens.{OutputToken, Word, Qualified, Number, Text, Marked, output_token_text}

-- the characters of a text
unfoldable pub text_of : String Global → List ℕ
text_of text = chars (string_bytes text)

-- what is written: its characters, and whether no space may follow
abbrev pub Output : Type 0
Output = List ℕ × Bool

-- of a buffer
abbrev pub output_of : OutputBuffer → Output
output_of buffer = (text_of buffer.text, buffer.tight)

-- an empty output
abbrev pub blank : Output
blank = ([], true)

-- an open parenthesis
abbrev pub opens : OutputToken → Bool
opens (Marked m.Open) = true
opens _ = false

-- a comma, or a closed parenthesis
abbrev pub closes : OutputToken → Bool
closes (Marked m.Close) = true
closes (Marked m.Comma) = true
closes _ = false

-- a number of 64 bits
abbrev pub is_number : ℤ → Bool
is_number (pos n) = nat_le n (2 ^ 63 - 1)
is_number (negsuc n) = nat_le (suc n) (2 ^ 63)

-- words are keywords or names, numbers have 64 bits, texts are UTF-8
abbrev pub is_fit : OutputToken → Bool
is_fit (Word w) = is_word w
is_fit (Qualified qualifier name) = is_word qualifier && is_word name
is_fit (Number z) = is_number z
is_fit (Text x) = is_utf8 x
is_fit _ = true

-- the space before a word, unless there is none
abbrev pub space : (none : Bool) → List ℕ
space true = []
space false = 32 ∷ []

-- with a further word
unfoldable pub with_output_token : Output → OutputToken → Output
with_output_token output p = ((output.0 ++ space (output.1 || closes p)) ++ output_token_text p, opens p)

-- with a further word, if it is fit
unfoldable pub put : Option Output → OutputToken → Option Output
put None p = None
put (Some output) p = if is_fit p then Some (with_output_token output p) else None

-- with further words
abbrev pub put_all : Option Output → List OutputToken → Option Output
put_all output [] = output
put_all output (p ∷ ps) = put_all (put output p) ps

-- the text of words; `tight` says whether no space may stand before the first
abbrev pub output_tokens_text : (tight : Bool) → List OutputToken → List ℕ
output_tokens_text tight [] = []
output_tokens_text tight (p ∷ ps) = space (tight || closes p) ++ (output_token_text p ++ output_tokens_text (opens p) ps)

-- all are fit
abbrev pub are_fit : List OutputToken → Bool
are_fit [] = true
are_fit (p ∷ ps) = is_fit p && are_fit ps
