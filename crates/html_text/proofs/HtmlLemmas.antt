-- Texts in HTML: what they hold, and that they are read back.
use Rattle.std.proofs.Common.{◌≡◌, refl, ℕ, Bool, true, false, ◌||◌, List, [], ◌∷◌, ◌++◌, inl, inr, sym, ap, subst, ◌∙◌, nat_eq, if◌then◌else◌}
use Rattle.std.specs.Prelude.{codes}
use Rattle.std.proofs.lemmas.Bool.{eqb-false, eqb-true, true≢false}
use Rattle.std.proofs.lemmas.List.Elements.{filter-append}
use Rattle.html_text.specs.Html.{AreReferences, behind, html_byte, html_read, is_mark, marked_text, marks_of, read_behind, referred}

-- what holds of both holds of the one that is taken
by_test : {A : Type 0} (P : A → Type 0) (test : Bool) (one other : A) → (test ≡ true → P one) → (test ≡ false → P other) → P (if test then one else other)
by_test P true one other holds isnt = holds refl
by_test P false one other holds isnt = isnt refl

-- what holds of each of the six holds of a byte
of_byte : (P : ℕ → List ℕ → Type 0) (byte : ℕ)
    → P 38 (codes "&amp;") → P 60 (codes "&lt;") → P 62 (codes "&gt;") → P 34 (codes "&quot;") → P 39 (codes "&#39;")
    → (nat_eq byte 38 ≡ false → nat_eq byte 60 ≡ false → nat_eq byte 62 ≡ false → nat_eq byte 34 ≡ false → nat_eq byte 39 ≡ false → P byte (byte ∷ []))
    → P byte (html_byte byte)
of_byte P byte amp lt gt quot apos other =
    by_test (P byte) (nat_eq byte 38) _ _ (λ is. subst (λ b. P b (codes "&amp;")) (sym (eqb-true byte 38 is)) amp) λ no38.
    by_test (P byte) (nat_eq byte 60) _ _ (λ is. subst (λ b. P b (codes "&lt;")) (sym (eqb-true byte 60 is)) lt) λ no60.
    by_test (P byte) (nat_eq byte 62) _ _ (λ is. subst (λ b. P b (codes "&gt;")) (sym (eqb-true byte 62 is)) gt) λ no62.
    by_test (P byte) (nat_eq byte 34) _ _ (λ is. subst (λ b. P b (codes "&quot;")) (sym (eqb-true byte 34 is)) quot) λ no34.
    by_test (P byte) (nat_eq byte 39) _ _ (λ is. subst (λ b. P b (codes "&#39;")) (sym (eqb-true byte 39 is)) apos) λ no39.
    other no38 no60 no62 no34 no39

-- ---- no marks

false_or : (a b : Bool) → a ≡ false → b ≡ false → (a || b) ≡ false
false_or a b isnt other = ap (λ it. it || b) isnt ∙ other

pub no_mark : (byte : ℕ) → nat_eq byte 60 ≡ false → nat_eq byte 62 ≡ false → nat_eq byte 34 ≡ false → nat_eq byte 39 ≡ false → is_mark byte ≡ false
no_mark byte no60 no62 no34 no39 = false_or _ _ no60 (false_or _ _ no62 (false_or _ _ no34 no39))

pub left_out : (byte : ℕ) → is_mark byte ≡ false → marks_of (byte ∷ []) ≡ []
left_out byte isnt = ap (λ test. if test then byte ∷ [] else []) isnt

byte_marks : (byte : ℕ) → marks_of (html_byte byte) ≡ []
byte_marks byte = of_byte (λ byte bytes. marks_of bytes ≡ []) byte refl refl refl refl refl λ no38 no60 no62 no34 no39. left_out byte (no_mark byte no60 no62 no34 no39)

pub no_marks : (bytes : List ℕ) → marks_of (marked_text bytes) ≡ []
no_marks [] = refl
no_marks (byte ∷ more) = filter-append is_mark (html_byte byte) (marked_text more) ∙ (λ i. byte_marks byte i ++ no_marks more i)

-- ---- references

-- one byte that isn't `&`
plain : (byte : ℕ) (more : List ℕ) → nat_eq byte 38 ≡ false → AreReferences more → AreReferences (byte ∷ more)
plain byte more isnt are = ((λ is. absurd (eqb-false byte 38 isnt is)), are)

byte_references : (byte : ℕ) (more : List ℕ) → AreReferences more → AreReferences (html_byte byte ++ more)
byte_references byte more are =
    of_byte (λ byte bytes. AreReferences (bytes ++ more)) byte
    ((λ is. inl (more, refl)), plain 97 _ refl (plain 109 _ refl (plain 112 _ refl (plain 59 _ refl are))))
    ((λ is. inr (inl (more, refl))), plain 108 _ refl (plain 116 _ refl (plain 59 _ refl are)))
    ((λ is. inr (inr (inl (more, refl)))), plain 103 _ refl (plain 116 _ refl (plain 59 _ refl are)))
    ((λ is. inr (inr (inr (inl (more, refl))))), plain 113 _ refl (plain 117 _ refl (plain 111 _ refl (plain 116 _ refl (plain 59 _ refl are)))))
    ((λ is. inr (inr (inr (inr (more, refl))))), plain 35 _ refl (plain 51 _ refl (plain 57 _ refl (plain 59 _ refl are))))
    λ no38 no60 no62 no34 no39. plain byte more no38 are

pub references : (bytes : List ℕ) → AreReferences (marked_text bytes)
references [] = tt
references (byte ∷ more) = byte_references byte (marked_text more) (references more)

-- ---- read back

plain_read : (test : Bool) (byte : ℕ) (more : List ℕ) → test ≡ false → (if test then referred more ∷ read_behind (behind more) more else byte ∷ read_behind 0 more) ≡ byte ∷ read_behind 0 more
plain_read true byte more isnt = absurd (true≢false isnt)
plain_read false byte more isnt = refl

byte_read : (byte : ℕ) (more : List ℕ) → read_behind 0 (html_byte byte ++ more) ≡ byte ∷ read_behind 0 more
byte_read byte more =
    of_byte (λ byte bytes. read_behind 0 (bytes ++ more) ≡ byte ∷ read_behind 0 more) byte refl refl refl refl refl
    λ no38 no60 no62 no34 no39. plain_read (nat_eq byte 38) byte more no38

pub read_back : (bytes : List ℕ) → html_read (marked_text bytes) ≡ bytes
read_back [] = refl
read_back (byte ∷ more) = byte_read byte (marked_text more) ∙ ap (λ it. byte ∷ it) (read_back more)
