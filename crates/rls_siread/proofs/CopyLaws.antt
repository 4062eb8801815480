-- Copies of holders and of notes.
use Rattle.std.specs.Prelude.{◌≡◌, refl, ℕ, List, [], ◌∷◌, ◌++◌, Bool, true, false, ◌||◌, nat_eq, cond, if◌then◌else◌, Option, Some, None}
use Rattle.std.specs.BTreeMap.{is_at}
use Rattle.std.specs.List.{IsDistinct, list_any}
use Rattle.std.specs.Map.{keys_of}
use Rattle.std.specs.Option.{is_some}
use Rattle.std.specs.Ordering.{nat_cmp}
use Rattle.std.proofs.Common.{ap, sym, ◌∙◌, append-nil, append_assoc}
use Rattle.std.proofs.lemmas.Bool.{true≢false, or_left, or_right}
use Rattle.std.proofs.lemmas.List.Folds.{list_any-append}
use Rattle.std.proofs.lemmas.Map.Made.{is_some-lookup}
use Rattle.rls_value.specs.declared.object.Object.{Object}
use Rattle.rls_source.specs.Footprints.{is_object, is_among}
use Rattle.rls_source.specs.FootprintLaws.{is_object_same}
use Rattle.rls_siread.specs.Locks.{Notes, is_number_in, all_arrived, notes_at}
use Rattle.rls_siread.specs.Index.{HolderList, held_at}
use Rattle.rls_siread.proofs.IndexLaws.{entry_at}
use Rattle.rls_siread.proofs.LocksLaws.{same_number, number_itself, number_at, number_turned, apart_none}

-- ---- holders

other_case : (same : Bool) (x y : ℕ) (more : List ℕ) → nat_eq y x ≡ same → is_number_in more x ≡ false → is_number_in more y ≡ true → same ≡ false
other_case true x y more e none there = absurd (true≢false (sym there ∙ ap (is_number_in more) (same_number y x e) ∙ none))
other_case false x y more e none there = refl

-- numbers that differ arrive each
pub all_arrived_distinct : (done more : List ℕ) → ((y : ℕ) → is_number_in more y ≡ true → is_number_in done y ≡ false) → IsDistinct nat_eq more → all_arrived done more ≡ done ++ more
unfolding IsDistinct
all_arrived_distinct done [] apart distinct = sym (append-nil done)
all_arrived_distinct done (x ∷ more) apart distinct =
    ap (λ b. all_arrived (if b then done else done ++ x ∷ []) more) (apart x (or_left (nat_eq x x) (is_number_in more x) (number_itself x)))
    ∙ all_arrived_distinct (done ++ x ∷ []) more (λ y there.
    list_any-append (nat_eq y) done (x ∷ [])
    ∙ (λ i. apart y (or_right (nat_eq y x) (is_number_in more y) there) i || (other_case (nat_eq y x) x y more refl (apart_none x more distinct.0) there i || false))) distinct.1
    ∙ append_assoc done (x ∷ []) more

-- ---- entries

none_if : {X : Type 0} (found : Option X) → is_some found ≡ false → found ≡ None
none_if None is = refl
none_if (Some x) is = absurd (true≢false is)

-- whose key isn't there has no entry
pub no_entry : (es : List (Object × HolderList)) (object : Object) → is_among (keys_of es) object ≡ false → entry_at es object ≡ None
no_entry es object none = none_if (entry_at es object) (is_some-lookup (is_object object) es ∙ none)

no_number_case : (keys : List ℕ) (t : ℕ) → list_any (is_at (nat_cmp t)) keys ≡ is_number_in keys t
no_number_case [] t = refl
no_number_case (k ∷ keys) t = λ i. number_at t k i || no_number_case keys t i

-- whose number isn't there has no notes
pub no_notes : (notes : List (ℕ × Notes)) (t : ℕ) → is_number_in (keys_of notes) t ≡ false → notes_at notes t ≡ None
no_notes notes t none = none_if (notes_at notes t) (is_some-lookup (is_at (nat_cmp t)) notes ∙ no_number_case (keys_of notes) t ∙ none)

-- who has notes
pub has_number : (notes : List (ℕ × Notes)) (t : ℕ) → is_some (notes_at notes t) ≡ is_number_in (keys_of notes) t
has_number notes t = is_some-lookup (is_at (nat_cmp t)) notes ∙ no_number_case (keys_of notes) t

keep_case : {X : Type 0} (same : Bool) (now put was orig : X) → now ≡ (if same then put else was) → (same ≡ true → put ≡ orig) → (same ≡ false → was ≡ orig) → now ≡ orig
keep_case true now put was orig is here else_where = is ∙ here refl
keep_case false now put was orig is here else_where = is ∙ else_where refl

-- one object more is copied
pub copied_object : (old new self : List (Object × HolderList)) (x : Object) (rest : List Object) (held : List ℕ) → held ≡ held_at self x
    → ((other : Object) → held_at new other ≡ (if is_object other x then held else held_at old other))
    → ((object : Object) → is_among (x ∷ rest) object ≡ false → held_at old object ≡ held_at self object)
    → (object : Object) → is_among rest object ≡ false → held_at new object ≡ held_at self object
copied_object old new self x rest held is puts so_far object none =
    keep_case (is_object object x) (held_at new object) held (held_at old object) (held_at self object) (puts object)
    (λ same. is ∙ ap (held_at self) (sym ((is_object_same object x).0 same)))
    (λ other. so_far object ((λ i. other i || is_among rest object) ∙ none))

-- one transaction more is copied
pub copied_notes : (old new notes : List (ℕ × Notes)) (x : ℕ) (rest : List ℕ) (put : Notes) → Some put ≡ notes_at notes x
    → ((t : ℕ) → notes_at new t ≡ cond (is_at (nat_cmp x) t) (Some put) (notes_at old t))
    → ((t : ℕ) → is_number_in (x ∷ rest) t ≡ false → notes_at old t ≡ notes_at notes t)
    → (t : ℕ) → is_number_in rest t ≡ false → notes_at new t ≡ notes_at notes t
copied_notes old new notes x rest put is puts so_far t none =
    keep_case (nat_eq t x) (notes_at new t) (Some put) (notes_at old t) (notes_at notes t)
    (puts t ∙ ap (λ b. cond b (Some put) (notes_at old t)) (number_at x t ∙ number_turned x t))
    (λ same. is ∙ ap (notes_at notes) (sym (same_number t x same)))
    (λ other. so_far t ((λ i. other i || is_number_in rest t) ∙ none))
