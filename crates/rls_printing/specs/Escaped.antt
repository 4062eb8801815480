-- Lines of which no byte moves a terminal's cursor or ends the line.
use Rattle.std.specs.Prelude.{ℕ, List, [], ◌∷◌, ◌++◌, ◌/◌, ◌%◌, ◌+◌, ◌||◌, nat_eq, nat_lt, if◌then◌else◌}
use Rattle.std.specs.List.{flat_map}

-- a hexadecimal digit
abbrev pub hex_digit : ℕ → ℕ
hex_digit n = if nat_lt n 10 then 48 + n else 55 + n

-- a byte as a line has it: control characters and backslashes escaped
abbrev pub escaped_byte : ℕ → List ℕ
escaped_byte byte =
    if nat_eq byte 92 then 92 ∷ 92 ∷ []
    else if nat_eq byte 10 then 92 ∷ 110 ∷ []
    else if nat_eq byte 13 then 92 ∷ 114 ∷ []
    else if nat_eq byte 9 then 92 ∷ 116 ∷ []
    else if nat_lt byte 32 || nat_eq byte 127 then 92 ∷ 120 ∷ hex_digit (byte / 16) ∷ hex_digit (byte % 16) ∷ []
    else byte ∷ []

abbrev pub escaped_text : List ℕ → List ℕ
escaped_text bytes = flat_map escaped_byte bytes

-- a line, escaped, and its end
abbrev pub escaped_line : List ℕ → List ℕ
escaped_line line = escaped_text line ++ 10 ∷ []
