-- Names stay names in lower case.
use Rattle.std.proofs.Common.{◌≡◌, ℕ, suc, ◌+◌, ◌≤◌, Bool, true, false, ◌&&◌, nat_le, List, [], ◌∷◌, length, refl, ap, sym, subst, ◌∙◌, arith, le-leb, inl, inr}
use Rattle.std.specs.List.{list_all}
use Rattle.std.specs.Char.{to_ascii_lowercase}
use Rattle.std.proofs.lemmas.Bool.{cases_lt, and_parts, and_from, or_right}
use Rattle.std.proofs.lemmas.Str.Ascii.{lowercase_is, lowercase-lowercase}
use Rattle.rls_value.specs.Names.{folded, is_letter, is_letter_or_digit, is_name_text, reserved, IsName}

-- a property of characters that small letters have, and that capitals lose to them
kept : (has : ℕ → Bool) → ((c : ℕ) → 97 ≤ c → c ≤ 122 → has c ≡ true) → (c : ℕ) → has c ≡ true → has (to_ascii_lowercase c) ≡ true
kept has small c h = elim (cases_lt c 65) [
  | inl below ↦ subst (λ z. has z ≡ true) (sym ((lowercase_is c).1 below)) h
  | inr from ↦ elim (cases_lt 90 c) [
    | inl above ↦ subst (λ z. has z ≡ true) (sym ((lowercase_is c).2 above)) h
    | inr to ↦ subst (λ z. has z ≡ true) (sym ((lowercase_is c).0 (from, to))) (small (c + 32) (omega arith) (omega arith))
  ]
]

between : (low high c : ℕ) → low ≤ c → c ≤ high → (nat_le low c && nat_le c high) ≡ true
between low high c l h = and_from (nat_le low c) (nat_le c high) (le-leb low c l) (le-leb c high h)

small_letter : (c : ℕ) → 97 ≤ c → c ≤ 122 → is_letter c ≡ true
small_letter c l h = or_right _ _ (between 97 122 c l h)

letter_folded : (c : ℕ) → is_letter c ≡ true → is_letter (to_ascii_lowercase c) ≡ true
letter_folded = kept is_letter small_letter

character_folded : (c : ℕ) → is_letter_or_digit c ≡ true → is_letter_or_digit (to_ascii_lowercase c) ≡ true
character_folded = kept is_letter_or_digit (λ c l h. or_right _ _ (small_letter c l h))

all_folded : (cs : List ℕ) → list_all is_letter_or_digit cs ≡ true → list_all is_letter_or_digit (folded cs) ≡ true
all_folded [] h = refl
all_folded (c ∷ cs) h =
    let x = and_parts (is_letter_or_digit c) (list_all is_letter_or_digit cs) h in
    and_from _ _ (character_folded c x.0) (all_folded cs x.1)

text_folded : (cs : List ℕ) → is_name_text cs ≡ true → is_name_text (folded cs) ≡ true
text_folded [] h = h
text_folded (c ∷ cs) h =
    let x = and_parts (is_letter c) (list_all is_letter_or_digit (c ∷ cs)) h in
    and_from _ _ (letter_folded c x.0) (all_folded (c ∷ cs) x.1)

folded_twice : (cs : List ℕ) → folded (folded cs) ≡ folded cs
folded_twice [] = refl
folded_twice (c ∷ cs) = ap (λ z. z ∷ folded (folded cs)) (lowercase-lowercase c) ∙ ap (λ z. to_ascii_lowercase c ∷ z) (folded_twice cs)

folded_length : (cs : List ℕ) → length (folded cs) ≡ length cs
folded_length [] = refl
folded_length (c ∷ cs) = ap suc (folded_length cs)

-- a text that is a name once it is folded, folded
pub name_of_text : (text : List ℕ) → is_name_text text ≡ true → length text ≤ 63 → reserved (folded text) ≡ false → IsName (folded text)
name_of_text text h short free = record {
  lower = folded_twice text;
  word = and_from _ _ (text_folded text h) (le-leb _ 63 (subst (λ n. n ≤ 63) (sym (folded_length text)) short));
  free = free;
}
