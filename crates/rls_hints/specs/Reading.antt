-- The words of a line with their places, as `rls_text` reads them.
use Rattle.std.specs.Prelude.{ℕ, zero, suc, Bool, true, false, if◌then◌else◌, List, [], ◌∷◌, length, Option, Some, None}
use Rattle.std.specs.Str.{chars}
use Rattle.rls_text.specs.declared.token.Token.{Token as TextToken}
use Rattle.rls_text.specs.Words.{is_digit, behind_blanks, next_word, next_quoted}
use Rattle.rls_hints.specs.declared.token.Token.{Token}
use Rattle.rls_hints.specs.declared.token.Token.TheVariants as t
use Rattle.rls_hints.specs.declared.token.Placed.{Placed}
use Rattle.rls_hints.specs.Beginnings.{seen}

-- a word, as a hint sees it, and what follows it
abbrev pub seen_first : TextToken × List ℕ → Token × List ℕ
seen_first read = (seen read.0, read.1)

-- its place is told by how many characters are left where it begins, and behind it
abbrev pub placed_first : ℕ → Option (TextToken × List ℕ) → Option (Placed × List ℕ)
placed_first left None = None
placed_first left (Some read) = Some (record { token = seen read.0; left = left; behind = length read.1 }, read.1)

-- the first word, behind blanks and comments, and what follows it
unfoldable pub next_placed : List ℕ → Option (Placed × List ℕ)
next_placed cs = placed_first (length (behind_blanks false cs)) (next_word cs)

-- no word of a statement
abbrev pub is_end : Token → Bool
is_end t.Bad = true
is_end _ = false

-- behind a bad word no others are read
abbrev pub placed_and_more : (List ℕ → List Placed) → Option (Placed × List ℕ) → List Placed
placed_and_more more None = []
placed_and_more more (Some read) = read.0 ∷ (if is_end read.0.token then [] else more read.1)

-- so many words at most
unfoldable pub placed_in : ℕ → List ℕ → List Placed
placed_in zero cs = []
placed_in (suc n) cs = placed_and_more (placed_in n) (next_placed cs)

-- the words of the text
abbrev pub placed_of : List ℕ → List Placed
placed_of text = placed_in (length (chars text)) (chars text)

-- what follows the digits at the front
abbrev pub behind_digits : List ℕ → List ℕ
behind_digits [] = []
behind_digits (c ∷ cs) = if is_digit c then behind_digits cs else c ∷ cs

-- what follows a text of so many characters at most, where it is closed
abbrev pub behind_and_more : (List ℕ → Option (List ℕ)) → Option (Option ℕ × List ℕ) → Option (List ℕ)
behind_and_more more None = None
behind_and_more more (Some (None, rest)) = Some rest
behind_and_more more (Some (Some c, rest)) = more rest

unfoldable pub behind_quoted : ℕ → List ℕ → Option (List ℕ)
behind_quoted zero cs = None
behind_quoted (suc n) cs = behind_and_more (behind_quoted n) (next_quoted cs)

-- a text, or a word that is none where it isn't closed
abbrev pub text_or_bad : List ℕ → Option (List ℕ) → Token × List ℕ
text_or_bad cs None = (t.Bad, cs)
text_or_bad cs (Some rest) = (t.Text, rest)
