-- Labels in pictures: no text leaves its label, and a line is a line.
use Rattle.std.specs.Prelude.{ℕ, Bool, List, [], ◌∷◌, ◌++◌, ◌/◌, ◌%◌, ◌||◌, ◌&&◌, nat_eq, nat_le, nat_lt, codes, length, take, if◌then◌else◌}
use Rattle.std.specs.Char.{encode_utf8}
use Rattle.std.specs.Fmt.{decimal}
use Rattle.std.specs.Str.{chars}
use Rattle.rls_audit.specs.rls_printing.specs.Escaped.{hex_digit}
use Rattle.rls_check.specs.declared.graph_form.Picture.{Picture}
use Rattle.rls_check.specs.declared.graph_form.Picture.TheVariants as p

-- an ASCII letter or digit, a blank, a point, an underscore or a comma
abbrev pub is_plain : ℕ → Bool
is_plain c = (nat_le 48 c && nat_le c 57) || ((nat_le 65 c && nat_le c 90) || ((nat_le 97 c && nat_le c 122) || (nat_eq c 32 || (nat_eq c 46 || (nat_eq c 95 || nat_eq c 44)))))

-- Mermaid: every other character is its code point
abbrev pub mermaid_char : ℕ → List ℕ
mermaid_char c = if is_plain c then encode_utf8 c else codes "#" ++ (decimal c ++ codes ";")

-- DOT: a quote has a backslash in front; control characters and backslashes are escaped as in lines, and each backslash stands twice
abbrev pub dot_char : ℕ → List ℕ
dot_char c =
    if nat_eq c 34 then 92 ∷ 34 ∷ []
    else if nat_eq c 92 then 92 ∷ 92 ∷ 92 ∷ 92 ∷ []
    else if nat_eq c 10 then 92 ∷ 92 ∷ 110 ∷ []
    else if nat_eq c 13 then 92 ∷ 92 ∷ 114 ∷ []
    else if nat_eq c 9 then 92 ∷ 92 ∷ 116 ∷ []
    else if nat_lt c 32 || nat_eq c 127 then 92 ∷ 92 ∷ 120 ∷ (encode_utf8 (hex_digit (c / 16)) ++ encode_utf8 (hex_digit (c % 16)))
    else encode_utf8 c

-- a character as the language writes it
abbrev pub char_in : Picture → ℕ → List ℕ
char_in p.Mermaid c = mermaid_char c
char_in p.Dot c = dot_char c

-- one character after another
abbrev pub letters_text : Picture → List ℕ → List ℕ
letters_text picture [] = []
letters_text picture (c ∷ letters) = char_in picture c ++ letters_text picture letters

-- so many of the characters at most; where there are more, two points stand behind them
abbrev pub cut_text : Picture → ℕ → List ℕ → List ℕ
cut_text picture most letters = letters_text picture (take most letters) ++ (if nat_lt most (length letters) then codes ".." else [])

-- of a text
abbrev pub label_text : Picture → ℕ → List ℕ → List ℕ
label_text picture most text = cut_text picture most (chars text)
