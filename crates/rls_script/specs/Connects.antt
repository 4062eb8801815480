-- `\connect ROLE`.
use Rattle.std.specs.Prelude.{ℕ, Bool, true, false, cond, nat_eq, nat_lt, ◌&&◌, ◌||◌, ◌≡◌, ◌<◌, ◌++◌, List, [], ◌∷◌, length, take, drop, codes, Option, Some, None, Result, Ok, Err}
use Rattle.std.specs.List.{prefix_len}
use Rattle.rls_value.specs.Giving.{and_then}
use Rattle.rls_value.specs.declared.refusal.Refusal.{Refusal}
use Rattle.rls_value.specs.declared.refusal.Refusal.TheVariants as r
use Rattle.rls_value.specs.declared.refusal.Limit.{Limit}
use Rattle.rls_value.specs.declared.refusal.Limit.TheVariants as l
use Rattle.rls_value.specs.Names.{is_between, is_letter_or_digit, spells_name, folded}
use Rattle.rls_text.specs.Words.{words_of}
use Rattle.rls_text.specs.ParseResults.{first_limit}

-- space, tab, LF or CR
abbrev pub is_white : ℕ → Bool
is_white byte = nat_eq byte 32 || nat_eq byte 9 || nat_eq byte 10 || nat_eq byte 13

-- the end, or white space
abbrev pub begins_white : List ℕ → Bool
begins_white [] = true
begins_white (byte ∷ bytes) = is_white byte

-- the word, and then white space or the end
abbrev pub IsConnect : List ℕ → List ℕ → Type 0
IsConnect command behind = (command ≡ codes "\\connect" ++ behind) × (begins_white behind ≡ true)

-- behind the white space at the front
abbrev pub without_white : List ℕ → List ℕ
without_white text = drop (prefix_len is_white text) text

-- how long the word at the front is; a digit begins no name
abbrev pub word_len : List ℕ → ℕ
word_len [] = 0
word_len (byte ∷ bytes) = cond (is_between 48 57 byte) 0 (prefix_len is_letter_or_digit (byte ∷ bytes))

-- the word that names the role
abbrev pub role_word : List ℕ → List ℕ
role_word text = take (word_len (without_white text)) (without_white text)

-- that word is over the limit of a name
abbrev pub is_long_name : List ℕ → Bool
is_long_name text = nat_lt 63 (length (role_word text))

-- nothing, or a comment
abbrev pub is_comment : List ℕ → Bool
is_comment [] = true
is_comment (first ∷ []) = false
is_comment (first ∷ second ∷ rest) = nat_eq first 45 && nat_eq second 45

-- what stands behind that word is nothing, but for white space and a comment
abbrev pub ends_with_role : List ℕ → Bool
ends_with_role text = is_comment (without_white (drop (word_len (without_white text)) (without_white text)))

-- the name that a word spells; one of over 63 bytes is refused as such, whatever its bytes
abbrev pub name_of : List ℕ → Result (List ℕ) Refusal
name_of word = cond (nat_lt 63 (length word)) (Err (r.Limit l.Name)) (cond (spells_name word) (Ok (folded word)) (Err r.Syntax))

-- one name, and nothing behind it
abbrev pub one_name : List ℕ → Result (List ℕ) Refusal
one_name text = and_then (name_of (role_word text)) (λ role. cond (ends_with_role text) (Ok role) (Err r.Syntax))

-- a limit that is passed comes first
abbrev pub unless_over : Option Limit → Result (List ℕ) Refusal → Result (List ℕ) Refusal
unless_over (Some limit) read = Err (r.Limit limit)
unless_over None read = read

-- The role that stands behind `\connect`. What stands there is words of the grammar, whose limits come before
-- anything else: first that of the name itself, then the first that the words pass from the left.
abbrev pub role_named : List ℕ → Result (List ℕ) Refusal
role_named text = cond (is_long_name text) (Err (r.Limit l.Name)) (unless_over (first_limit (words_of text)) (one_name text))

-- a `\connect` whose role's name is over its limit
pub record ConnectsToLongName (command : List ℕ) : Type 0 where
  pub behind : List ℕ
  pub connect : IsConnect command behind
  pub long : is_long_name behind ≡ true

-- the limit, where it is one on words: those on columns, nesting and subqueries are on statements
abbrev pub limit_on_words : Limit → Option Limit
limit_on_words l.Columns = None
limit_on_words l.Nesting = None
limit_on_words l.Subqueries = None
limit_on_words limit = Some limit
