-- Where a line and a command may be cut: behind ASCII, and at a colon.
use Rattle.std.proofs.Common.{◌≡◌, ◌<◌, ℕ, Bool, false, cond, [], ◌∷◌, Option, Bor, MatchOption, zero, suc, ◌+◌, ◌≤◌, true, List, length, get_or, arith, rules}
use native.Mathlib.Numerals.{unary_clauses}
use Rattle.std.specs.List.{prefix_len, position_or_len, before_first, after_first}
use Rattle.std.specs.Str.{IsUtf8, IsCharBoundary}
use Rattle.std.proofs.lemmas.List.Sums.{prefix_len_passes, prefix_len-le-length}
use Rattle.std.proofs.lemmas.Str.{IsCharBoundary-start, IsCharBoundary-after_ascii}
use Rattle.std.proofs.lemmas.Str.Pattern.{split_once_first, IsSplitOnceResult}
use Rattle.rls_value.specs.Names.{is_between, is_letter_or_digit}
use Rattle.rls_script.specs.Connects.{is_white, word_len}
use Rattle.rls_script.specs.Lines.{is_blank, is_colon}

-- bytes of ASCII alone pass the test
abbrev pub IsOfAscii : (ℕ → Bool) → Type 0
IsOfAscii p = (byte : ℕ) → p byte ≡ true → byte < 128

-- behind n such bytes
pub boundary_behind : (p : ℕ → Bool) → IsOfAscii p → (bs : List ℕ) (n : ℕ) → IsUtf8 bs → n ≤ length bs → ((k : ℕ) → k < n → p (get_or bs k 0) ≡ true) → IsCharBoundary bs n
boundary_behind p ascii bs zero u le all = IsCharBoundary-start bs u
boundary_behind p ascii bs (suc m) u le all =
    let h : IsCharBoundary bs (m + 1) = IsCharBoundary-after_ascii bs m u (omega arith) (ascii (get_or bs m 0) (all m (omega arith))) in
    simp unary_clauses at h

-- behind all such bytes at the front
pub prefix_boundary : (p : ℕ → Bool) → IsOfAscii p → (bs : List ℕ) → IsUtf8 bs → IsCharBoundary bs (prefix_len p bs)
prefix_boundary p ascii bs u = boundary_behind p ascii bs (prefix_len p bs) u (prefix_len-le-length p bs) (λ k lt. prefix_len_passes p bs k 0 lt)

-- a blank is ASCII
pub blank_is_ascii : IsOfAscii is_blank
blank_is_ascii byte h = search rules

-- behind the blanks at the front
pub blanks_boundary : (bs : List ℕ) → IsUtf8 bs → IsCharBoundary bs (prefix_len is_blank bs)
blanks_boundary bs u = prefix_boundary is_blank blank_is_ascii bs u

-- white space is ASCII
pub white_is_ascii : IsOfAscii is_white
white_is_ascii byte h = search rules

-- behind the white space at the front
pub whites_boundary : (bs : List ℕ) → IsUtf8 bs → IsCharBoundary bs (prefix_len is_white bs)
whites_boundary bs u = prefix_boundary is_white white_is_ascii bs u

-- letters, digits and `_` are ASCII
pub letter_is_ascii : IsOfAscii is_letter_or_digit
letter_is_ascii byte h = search rules

-- behind the word at the front
pub word_boundary : (bs : List ℕ) → IsUtf8 bs → IsCharBoundary bs (word_len bs)
word_boundary [] u = IsCharBoundary-start [] u
word_boundary (byte ∷ bytes) u =
    elim (is_between 48 57 byte) as (λ b. IsCharBoundary (byte ∷ bytes) (cond b 0 (prefix_len is_letter_or_digit (byte ∷ bytes)))) [
      | true ↦ IsCharBoundary-start (byte ∷ bytes) u
      | false ↦ prefix_boundary is_letter_or_digit letter_is_ascii (byte ∷ bytes) u
    ]

-- a text cut at its first colon
pub split_at_colon : (bs : List ℕ) (r : Option (Bor (List ℕ) × Bor (List ℕ))) → IsSplitOnceResult 58 bs r → MatchOption r (position_or_len is_colon bs ≡ length bs) (λ x. (position_or_len is_colon bs < length bs) × (x.0.now ≡ before_first is_colon bs) × (x.1.now ≡ after_first is_colon bs))
split_at_colon bs r h = split_once_first 58 bs r h (omega arith)
