-- The labels of a script in which all commands stand under one: that one, and `?` where a line has no label.
use Rattle.std.proofs.Common.{◌≡◌, ◌⊎◌, inl, inr, ℕ, Bool, true, false, not, cond, nat_eq, nat_lt, ◌&&◌, ◌+◌, List, [], ◌∷◌, ◌++◌, length, codes, All, refl, sym, ap, ◌∙◌, subst}
use Rattle.std.specs.Str.{bytes_eq}
use Rattle.std.proofs.lemmas.Bool.{cases_Bool}
use Rattle.std.proofs.lemmas.List.Elements.{All-head, All-tail}
use Rattle.std.proofs.lemmas.Slice.Eq.{bytes_eq-Decides}
use Rattle.std.specs.List.{before_first, position_or_len}
use Rattle.rls_script.specs.Lines.{IsRead, is_colon, is_label}
use Rattle.rls_script.specs.declared.line.Line.{Line}
use Rattle.rls_script.specs.declared.line.Line.TheVariants as l
use Rattle.rls_script.specs.Plans.{Plan, ReadsLines, next_phase, none, next, with_line, with_name}
use Rattle.rls_session.specs.Alone.{IsUnder, StandsUnder}

-- the name isn't `?`
pub record IsOther (name : List ℕ) : Type 0 where
  pub there : bytes_eq name (codes "?") ≡ false
  pub back : bytes_eq (codes "?") name ≡ false

-- the labels that have come
pub data AreNames (name : List ℕ) : List (List ℕ) → Type 0 where
  nobody : AreNames name []
  unlabelled : AreNames name (codes "?" ∷ [])
  alone : IsOther name → AreNames name (name ∷ [])
  before : IsOther name → AreNames name (name ∷ codes "?" ∷ [])
  behind : IsOther name → AreNames name (codes "?" ∷ name ∷ [])

-- a label more, where one has come, or two
one_if : (x n : List ℕ) (b : Bool) → cond (nat_lt (cond (not b) (1 + 0) 0) 1) (x ∷ []) (x ∷ n ∷ []) ≡ cond b (x ∷ []) (x ∷ n ∷ [])
one_if x n true = refl
one_if x n false = refl

with_one : (x n : List ℕ) (b : Bool) → bytes_eq x n ≡ b → with_name (x ∷ []) n ≡ cond b (x ∷ []) (x ∷ n ∷ [])
with_one x n b is = ap (λ (c : Bool). cond (nat_lt (cond (not c) (1 + 0) 0) 1) (x ∷ []) (x ∷ n ∷ [])) is ∙ one_if x n b

two_if : (x y n : List ℕ) (b c : Bool) → cond (nat_lt (cond (not b) (1 + cond (not c) (1 + 0) 0) 0) 2) (x ∷ y ∷ []) (x ∷ y ∷ n ∷ []) ≡ cond b (x ∷ y ∷ []) (cond c (x ∷ y ∷ []) (x ∷ y ∷ n ∷ []))
two_if x y n true c = refl
two_if x y n false true = refl
two_if x y n false false = refl

with_two : (x y n : List ℕ) (b c : Bool) → bytes_eq x n ≡ b → bytes_eq y n ≡ c → with_name (x ∷ y ∷ []) n ≡ cond b (x ∷ y ∷ []) (cond c (x ∷ y ∷ []) (x ∷ y ∷ n ∷ []))
with_two x y n b c is too =
    ap (λ (d : Bool). cond (nat_lt (cond (not d) (1 + cond (not (bytes_eq y n)) (1 + 0) 0) 0) 2) (x ∷ y ∷ []) (x ∷ y ∷ n ∷ [])) is
    ∙ (ap (λ (d : Bool). cond (nat_lt (cond (not b) (1 + cond (not d) (1 + 0) 0) 0) 2) (x ∷ y ∷ []) (x ∷ y ∷ n ∷ [])) too ∙ two_if x y n b c)

itself : (name : List ℕ) → bytes_eq name name ≡ true
itself name = (bytes_eq-Decides name name).1 refl

-- a command
with_command : (name : List ℕ) (names : List (List ℕ)) → IsOther name → AreNames name names → AreNames name (with_name names name)
with_command name names other nobody = alone other
with_command name names other unlabelled = subst (AreNames name) (sym (with_one (codes "?") name false other.back)) (behind other)
with_command name names other (alone o) = subst (AreNames name) (sym (with_one name name true (itself name))) (alone o)
with_command name names other (before o) = subst (AreNames name) (sym (with_two name (codes "?") name true false (itself name) other.back)) (before o)
with_command name names other (behind o) = subst (AreNames name) (sym (with_two (codes "?") name name false true other.back (itself name))) (behind o)

-- a line without a label
with_unlabelled : (name : List ℕ) (names : List (List ℕ)) → AreNames name names → AreNames name (with_name names (codes "?"))
with_unlabelled name names nobody = unlabelled
with_unlabelled name names unlabelled = subst (AreNames name) (sym (with_one (codes "?") (codes "?") true (itself (codes "?")))) unlabelled
with_unlabelled name names (alone o) = subst (AreNames name) (sym (with_one name (codes "?") false o.there)) (before o)
with_unlabelled name names (before o) = subst (AreNames name) (sym (with_two name (codes "?") (codes "?") false true o.there (itself (codes "?")))) (before o)
with_unlabelled name names (behind o) = subst (AreNames name) (sym (with_two (codes "?") name (codes "?") true false (itself (codes "?")) o.there)) (behind o)

-- the next phase has the same labels
phase_names : (b : Bool) (plan further : Plan) → further.names ≡ plan.names → (cond b plan further).names ≡ plan.names
phase_names true plan further same = refl
phase_names false plan further same = same

right_of : (b c : Bool) → (b && c) ≡ true → c ≡ true
right_of true c is = is
right_of false c is = absurd cc

-- what stands before a colon isn't `?`
no_mark : (text : List ℕ) → text ≡ codes "?" → is_label text ≡ true → ⊥
no_mark text same is = let no : is_label (codes "?") ≡ true = subst (λ (t : List ℕ). is_label t ≡ true) same is in let clash : false ≡ true = no in absurd cc

other_of : (name : List ℕ) → is_label name ≡ true → IsOther name
other_of name is = record {
  there = elim (cases_Bool (bytes_eq name (codes "?"))) [ inl same ↦ absurd (no_mark name ((bytes_eq-Decides name (codes "?")).0 same) is) | inr apart ↦ apart ];
  back = elim (cases_Bool (bytes_eq (codes "?") name)) [ inl same ↦ absurd (no_mark name (sym ((bytes_eq-Decides (codes "?") name).0 same)) is) | inr apart ↦ apart ];
}

-- a line
read_names : (name line : List ℕ) (read : Line) (plan : Plan) → IsRead line read → StandsUnder name read → AreNames name plan.names → AreNames name (with_line read plan).names
read_names name line l.Skipped plan is under are = are
read_names name line l.Phase plan is under are = subst (AreNames name) (sym (phase_names (nat_eq (length plan.now) 0) plan (record { names = plan.names; before = plan.before ++ plan.now ∷ []; now = [] }) refl)) are
read_names name line (l.Command label command) plan is under are =
    let text : is_label label.now ≡ true = subst (λ (t : List ℕ). is_label t ≡ true) (sym is.4) (right_of (nat_lt (position_or_len is_colon line) (length line)) (is_label (before_first is_colon line)) is.2) in
    let other : IsOther name = other_of name (subst (λ (t : List ℕ). is_label t ≡ true) under text) in
    subst (λ (n : List ℕ). AreNames name (with_name plan.names n)) (sym under) (with_command name plan.names other are)
read_names name line l.Unlabelled plan is under are = with_unlabelled name plan.names are

-- all lines
pub names_of : (name : List ℕ) (lines : List (List ℕ)) (plan after : Plan) → All (IsUnder name) lines → ReadsLines lines plan after → AreNames name plan.names → AreNames name after.names
names_of name lines plan after under none are = are
names_of name lines plan after under (next {line = line} {lines = more} {plan = p} {after = z} read is rest) are =
    names_of name more (with_line read p) z (All-tail (IsUnder name) line more under) rest
    (read_names name line read p is (All-head (IsUnder name) line more under read is) are)
