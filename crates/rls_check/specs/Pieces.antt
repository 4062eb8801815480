-- What a page in HTML is made of.
use Rattle.std.specs.Prelude.{◌<◌, ◌^◌, ℕ, List, [], ◌∷◌}
use Rattle.std.specs.Fmt.{decimal}
use Rattle.std.specs.List.{flat_map}
use Rattle.html_text.specs.Html.{marked_text}
use Rattle.rls_audit.specs.rls_printing.specs.Escaped.{escaped_text}

-- a text as the page has it: without a control character, and no byte of it opens a tag, ends an attribute or begins a reference
abbrev pub html_text : List ℕ → List ℕ
html_text bytes = marked_text (escaped_text bytes)

-- markup of the program's own; a number; a text that comes from the audit or the command line
pub data Piece : Type 0 where
  Tag : List ℕ → Piece
  Number : ℕ → Piece
  Data : List ℕ → Piece

-- a piece as the page has it
abbrev pub text_of : Piece → List ℕ
text_of (Tag markup) = markup
text_of (Number number) = decimal number
text_of (Data text) = html_text text

unfoldable pub page_text : List Piece → List ℕ
page_text pieces = flat_map text_of pieces

-- its markup alone
abbrev pub markup_of : Piece → List ℕ
markup_of (Tag markup) = markup
markup_of (Number number) = []
markup_of (Data text) = []

abbrev pub markup : List Piece → List ℕ
markup pieces = flat_map markup_of pieces

-- a number has 64 bits
abbrev pub IsWord : Piece → Type 0
IsWord (Tag markup) = Unit {0}
IsWord (Number number) = number < 2 ^ 64
IsWord (Data text) = Unit {0}

abbrev pub AreWords : List Piece → Type 0
AreWords [] = Unit {0}
AreWords (piece ∷ more) = IsWord piece × AreWords more
