-- Names (PostgreSQL manual, 4.1.1, without quoted names): a letter or `_`, then letters, digits and `_`,
-- folded to lower case, at most 63 bytes, no reserved word.
use Rattle.std.specs.Prelude.{◌≡◌, ℕ, Bool, true, false, ◌&&◌, ◌||◌, not, nat_le, nat_eq, List, [], ◌∷◌, map, length, codes}
use Rattle.std.specs.List.{list_all}
use Rattle.std.specs.Char.{to_ascii_lowercase}
use Rattle.std.specs.Str.{bytes_eq}

-- in lower case
abbrev pub folded : List ℕ → List ℕ
folded text = map to_ascii_lowercase text

-- from the one to the other
abbrev pub is_between : ℕ → ℕ → ℕ → Bool
is_between low high byte = nat_le low byte && nat_le byte high

-- a letter or `_`
abbrev pub is_letter : ℕ → Bool
is_letter byte = is_between 65 90 byte || nat_eq byte 95 || is_between 97 122 byte

-- a letter, `_` or a digit
abbrev pub is_letter_or_digit : ℕ → Bool
is_letter_or_digit byte = is_between 48 57 byte || is_letter byte

-- a letter or `_`, and then letters, digits and `_`
abbrev pub is_name_text : List ℕ → Bool
is_name_text [] = false
is_name_text (first ∷ rest) = is_letter first && list_all is_letter_or_digit (first ∷ rest)

-- the word is one of them
abbrev pub one_of : List (List ℕ) → List ℕ → Bool
one_of [] word = false
one_of (w ∷ ws) word = bytes_eq w word || one_of ws word

-- the words that are no names
unfoldable pub reserved : List ℕ → Bool
reserved = one_of (codes "all" ∷ codes "and" ∷ codes "as" ∷ codes "check" ∷ codes "create" ∷ codes "current_user" ∷ codes "default" ∷ codes "exists" ∷ codes "false" ∷ codes "for" ∷ codes "from" ∷ codes "grant" ∷ codes "group" ∷ codes "in" ∷ codes "into" ∷ codes "is" ∷ codes "none" ∷ codes "not" ∷ codes "null" ∷ codes "on" ∷ codes "or" ∷ codes "order" ∷ codes "primary" ∷ codes "public" ∷ codes "returning" ∷ codes "select" ∷ codes "session_user" ∷ codes "table" ∷ codes "to" ∷ codes "true" ∷ codes "unique" ∷ codes "user" ∷ codes "using" ∷ codes "where" ∷ codes "with" ∷ [])

-- a text that is a name once it is folded
abbrev pub spells_name : List ℕ → Bool
spells_name text = is_name_text text && not (reserved (folded text))

-- a name's text of at most 63 bytes: a name, or a keyword
abbrev pub is_word : List ℕ → Bool
is_word text = is_name_text text && nat_le (length text) 63

-- What each name is.
pub record IsName (name : List ℕ) : Type 0 where
  pub lower : folded name ≡ name
  pub word : is_word name ≡ true
  pub free : reserved name ≡ false

-- the role of the opening state
abbrev pub postgres : List ℕ
postgres = codes "postgres"
