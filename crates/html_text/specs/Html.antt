-- Texts in HTML (the HTML standard, 13.2.5, "Tokenization"): no byte of a text opens a tag, ends an attribute or begins a reference of its
-- own.
use Rattle.std.specs.Prelude.{◌≡◌, ◌⊎◌, ℕ, zero, suc, Bool, List, [], ◌∷◌, ◌++◌, ◌||◌, nat_eq, filter, codes, if◌then◌else◌}
use Rattle.std.specs.List.{flat_map}

-- a byte as a text in HTML has it: `&`, `<`, `>`, `"` and `'` are references
abbrev pub html_byte : ℕ → List ℕ
html_byte byte =
    if nat_eq byte 38 then codes "&amp;"
    else if nat_eq byte 60 then codes "&lt;"
    else if nat_eq byte 62 then codes "&gt;"
    else if nat_eq byte 34 then codes "&quot;"
    else if nat_eq byte 39 then codes "&#39;"
    else byte ∷ []

-- a text
abbrev pub marked_text : List ℕ → List ℕ
marked_text bytes = flat_map html_byte bytes

-- ---- what the laws say

-- `<`, `>`, `"` and `'`: what opens or ends a tag or an attribute
abbrev pub is_mark : ℕ → Bool
is_mark byte = nat_eq byte 60 || (nat_eq byte 62 || (nat_eq byte 34 || nat_eq byte 39))

-- those of a page, in their order
abbrev pub marks_of : List ℕ → List ℕ
marks_of bytes = filter is_mark bytes

-- the bytes begin with these
abbrev pub BeginWith : List ℕ → List ℕ → Type 0
BeginWith first bytes = (rest : List ℕ) × (bytes ≡ first ++ rest)

-- what stands behind `&` is one of the five references
abbrev pub IsReference : List ℕ → Type 0
IsReference bytes = BeginWith (codes "amp;") bytes ⊎ (BeginWith (codes "lt;") bytes ⊎ (BeginWith (codes "gt;") bytes ⊎ (BeginWith (codes "quot;") bytes ⊎ BeginWith (codes "#39;") bytes)))

-- so it is behind each
abbrev pub AreReferences : List ℕ → Type 0
AreReferences [] = Unit {0}
AreReferences (byte ∷ more) = (byte ≡ 38 → IsReference more) × AreReferences more

-- ---- read back

-- which byte the reference is, and how many bytes of it stand behind `&`
abbrev pub referred : List ℕ → ℕ
referred [] = 38
referred (first ∷ more) = if nat_eq first 97 then 38 else if nat_eq first 108 then 60 else if nat_eq first 103 then 62 else if nat_eq first 113 then 34 else 39

abbrev pub behind : List ℕ → ℕ
behind [] = 0
behind (first ∷ more) = if nat_eq first 97 then 4 else if nat_eq first 108 then 3 else if nat_eq first 103 then 3 else if nat_eq first 113 then 5 else 4

-- a text in HTML, read again behind so many bytes
abbrev pub read_behind : ℕ → List ℕ → List ℕ
read_behind skipped [] = []
read_behind (suc skipped) (byte ∷ more) = read_behind skipped more
read_behind zero (byte ∷ more) = if nat_eq byte 38 then referred more ∷ read_behind (behind more) more else byte ∷ read_behind 0 more

abbrev pub html_read : List ℕ → List ℕ
html_read bytes = read_behind 0 bytes
