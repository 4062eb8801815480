-- What is seen of the index of holders, and what its calls leave.
use Rattle.std.specs.Prelude.{◌≡◌, refl, ℕ, List, [], ◌∷◌, ◌++◌, Bool, true, false, ◌||◌, ◌<◌, ◌≤◌, nat_lt, cond, if◌then◌else◌, Option, Some, None}
use Rattle.std.specs.BTreeMap.{is_at, insert_entry}
use Rattle.std.specs.List.{AllByRecursion}
use Rattle.std.specs.List.Sorted.{IsStrictlySortedBy}
use Rattle.std.specs.Map.{lookup, keys_of, set_value, update_all}
use Rattle.std.specs.Option.{is_some}
use Rattle.std.specs.Ordering.{eq_by_cmp, is_eq, match_ordering}
use Rattle.std.specs.declared.cmp.Ordering.{Ordering}
use Rattle.std.specs.declared.cmp.Ordering.TheVariants.{Less, Equal, Greater}
use Rattle.std.proofs.Common.{ap, sym, ◌∙◌, inl, inr, arith}
use Rattle.std.proofs.lemmas.Bool.{true≢false, or_cases, or_left, or_right}
use Rattle.std.proofs.lemmas.Map.{update_all_push}
use Rattle.rls_value.specs.declared.object.Object.{Object}
use Rattle.rls_value.specs.Objects.{object_order}
use Rattle.rls_source.specs.Footprints.{is_object, is_among}
use Rattle.rls_source.specs.FootprintLaws.{is_object_same}
use Rattle.rls_siread.specs.Locks.{numbers_in, is_number_in, arrived}
use Rattle.rls_siread.specs.Index.{HolderList, shown_before, shown, held_at, is_ready_in, is_ready, KeepsReady}
use Rattle.rls_siread.proofs.CoveringLaws.{object_turned}
use Rattle.rls_siread.proofs.LocksLaws.{number_arrived, number_itself}

-- ---- what is seen is what stands under the object

absent_above : (p : Object) (es : List (Object × HolderList)) → AllByRecursion (λ y. object_order p y ≡ Less) (keys_of es) → lookup (is_at (object_order p)) es ≡ None
absent_above p [] all = refl
absent_above p (e ∷ es) all = ap (λ order. cond (is_eq order) (Some e.1) (lookup (is_at (object_order p)) es)) all.0 ∙ absent_above p es all.1

-- the transactions, if there is a place
abbrev pub txns_in : Option HolderList → List ℕ
txns_in (Some held) = held.txns
txns_in None = []

-- the entry under the object
abbrev pub entry_at : List (Object × HolderList) → Object → Option HolderList
entry_at es object = lookup (is_at (object_order object)) es

seen_case : (p o : Object) (held : HolderList) (txns : List ℕ) (es : List (Object × HolderList)) (test : Bool) → held.txns ≡ txns → is_object o p ≡ test → (test ≡ true → txns_in (entry_at es o) ≡ [])
    → held_at es o ≡ txns_in (entry_at es o) → numbers_in (lookup (is_at (object_order o)) (shown_before p txns (shown es))) ≡ txns_in (cond test (Some held) (entry_at es o))
seen_case p o held [] es true is found absent further = further ∙ absent refl ∙ sym is
seen_case p o held [] es false is found absent further = further
seen_case p o held (t ∷ ts) es true is found absent further = ap (λ b. numbers_in (cond b (Some (t ∷ ts)) (lookup (is_at (object_order o)) (shown es)))) found ∙ sym is
seen_case p o held (t ∷ ts) es false is found absent further = ap (λ b. numbers_in (cond b (Some (t ∷ ts)) (lookup (is_at (object_order o)) (shown es)))) found ∙ further

-- in a map in order, who is seen to hold an object are those under it
pub seen : (es : List (Object × HolderList)) (o : Object) → IsStrictlySortedBy object_order (keys_of es) → held_at es o ≡ txns_in (entry_at es o)
unfolding IsStrictlySortedBy
seen [] o ordered = refl
seen (e ∷ es) o ordered =
    seen_case e.0 o e.1 e.1.txns es (is_object o e.0) refl refl
    (λ same. ap txns_in (ap (entry_at es) ((is_object_same o e.0).0 same) ∙ absent_above e.0 es ordered.0))
    (seen es o ordered.1)

-- ---- a place where nobody is, and room, aren't seen

insert_case : (order : Ordering) (object : Object) (held : HolderList) (e : Object × HolderList) (es : List (Object × HolderList)) → object_order object e.0 ≡ order → held.txns ≡ []
    → cond (is_eq order) (Some e.1) (entry_at es object) ≡ None → (entry_at es object ≡ None → shown (insert_entry object_order es object held) ≡ shown es)
    → shown (match_ordering order ((object, held) ∷ e ∷ es) ((e.0, held) ∷ es) (e ∷ insert_entry object_order es object held)) ≡ shown (e ∷ es)
insert_case Less object held e es is nobody none further = ap (λ txns. shown_before object txns (shown (e ∷ es))) nobody
insert_case Equal object held e es is nobody none further = absurd (true≢false (ap is_some none))
insert_case Greater object held e es is nobody none further = ap (shown_before e.0 e.1.txns) (further none)

-- a place for nobody
pub shown_insert : (es : List (Object × HolderList)) (object : Object) (held : HolderList) → held.txns ≡ [] → entry_at es object ≡ None → shown (insert_entry object_order es object held) ≡ shown es
shown_insert [] object held nobody none = ap (λ txns. shown_before object txns []) nobody
shown_insert (e ∷ es) object held nobody none =
    insert_case (object_order object e.0) object held e es refl nobody none (shown_insert es object held nobody)

set_case : (test : Bool) (object : Object) (held wider : HolderList) (e : Object × HolderList) (es : List (Object × HolderList)) → wider.txns ≡ held.txns → cond test (Some e.1) (entry_at es object) ≡ Some held
    → (entry_at es object ≡ Some held → shown (set_value (is_at (object_order object)) es wider) ≡ shown es)
    → shown (cond test ((e.0, wider) ∷ es) (e ∷ set_value (is_at (object_order object)) es wider)) ≡ shown (e ∷ es)
set_case true object held wider e es same found further = ap (λ txns. shown_before e.0 txns (shown es)) (same ∙ sym (ap txns_in found))
set_case false object held wider e es same found further = ap (shown_before e.0 e.1.txns) (further found)

-- more room in a place
pub shown_set : (es : List (Object × HolderList)) (object : Object) (held wider : HolderList) → wider.txns ≡ held.txns → entry_at es object ≡ Some held → shown (set_value (is_at (object_order object)) es wider) ≡ shown es
shown_set [] object held wider same found = refl
shown_set (e ∷ es) object held wider same found = set_case (is_object object e.0) object held wider e es same found (shown_set es object held wider same)

-- ---- what a change under one object leaves

-- the one map is the other with this under the object
abbrev pub PutsAt : List (Object × HolderList) → List (Object × HolderList) → Object → Option HolderList → Type 0
PutsAt old new object held = (q : Object) → entry_at new q ≡ cond (is_at (object_order object) q) held (entry_at old q)

change_case : (f : List ℕ → List ℕ) (turned : Bool) (object other : Object) (old : List (Object × HolderList)) (found made : Option HolderList) → is_object other object ≡ turned
    → entry_at old object ≡ found → txns_in made ≡ f (txns_in found)
    → txns_in (cond turned made (entry_at old other)) ≡ (if turned then f (txns_in (entry_at old other)) else txns_in (entry_at old other))
change_case f true object other old found made same was is = is ∙ ap (λ entry. f (txns_in entry)) (sym was ∙ ap (entry_at old) (sym ((is_object_same other object).0 same)))
change_case f false object other old found made same was is = refl

-- who holds the object is changed, nobody else
pub changed_at : (f : List ℕ → List ℕ) (old new : List (Object × HolderList)) (object : Object) (found made : Option HolderList)
    → IsStrictlySortedBy object_order (keys_of old) → IsStrictlySortedBy object_order (keys_of new) → entry_at old object ≡ found → txns_in made ≡ f (txns_in found) → PutsAt old new object made
    → (other : Object) → held_at new other ≡ (if is_object other object then f (held_at old other) else held_at old other)
changed_at f old new object found made in_order still was is puts other =
    seen new other still
    ∙ ap txns_in (puts other)
    ∙ ap (λ b. txns_in (cond b made (entry_at old other))) (object_turned object other)
    ∙ change_case f (is_object other object) object other old found made refl was is
    ∙ ap (λ held. if is_object other object then f held else held) (sym (seen old other in_order))

same_case : (f : List ℕ → List ℕ) (test : Bool) (object other : Object) (es : List (Object × HolderList)) → is_object other object ≡ test → f (held_at es object) ≡ held_at es object
    → held_at es other ≡ (if test then f (held_at es other) else held_at es other)
same_case f true object other es same is = ap (held_at es) ((is_object_same other object).0 same) ∙ sym is ∙ ap (λ x. f (held_at es x)) (sym ((is_object_same other object).0 same))
same_case f false object other es same is = refl

-- a change that leaves who holds the object is none
pub same_at : (f : List ℕ → List ℕ) (es : List (Object × HolderList)) (object : Object) → f (held_at es object) ≡ held_at es object
    → (other : Object) → held_at es other ≡ (if is_object other object then f (held_at es other) else held_at es other)
same_at f es object is other = same_case f (is_object other object) object other es refl is

-- who stands under the object is the one who was put there
pub held_here : (old new : List (Object × HolderList)) (object : Object) (held : HolderList) → IsStrictlySortedBy object_order (keys_of new) → PutsAt old new object (Some held) → held_at new object ≡ held.txns
held_here old new object held in_order puts =
    seen new object in_order
    ∙ ap txns_in (puts object ∙ ap (λ b. cond b (Some held) (entry_at old object)) ((is_object_same object object).1 refl))

-- a place where nobody is can go
pub gone_at : (old new : List (Object × HolderList)) (object : Object) → IsStrictlySortedBy object_order (keys_of old) → IsStrictlySortedBy object_order (keys_of new) → PutsAt old new object None
    → held_at old object ≡ [] → (other : Object) → held_at new other ≡ held_at old other
gone_at old new object in_order still puts nobody other =
    changed_at (λ txns. []) old new object (entry_at old object) None in_order still refl refl puts other
    ∙ sym (same_at (λ txns. []) old object (sym nobody) other)

-- under no place nobody is
pub nobody_at : (es : List (Object × HolderList)) (object : Object) → IsStrictlySortedBy object_order (keys_of es) → entry_at es object ≡ None → held_at es object ≡ []
nobody_at es object in_order none = seen es object in_order ∙ ap txns_in none

-- ---- who can hold without memory

pub room_is_ready : (held : HolderList) (txn : ℕ) → 0 < held.room → is_ready_in (Some held) txn ≡ true
room_is_ready held txn room = or_right (is_number_in held.txns txn) (nat_lt 0 held.room) (grind arith)

-- who holds is ready
pub holder_ready : (held : HolderList) (txns : List ℕ) (txn : ℕ) → held.txns ≡ arrived txns txn → is_ready_in (Some held) txn ≡ true
holder_ready held txns txn is =
    or_left (is_number_in held.txns txn) (nat_lt 0 held.room)
    (ap (λ list. is_number_in list txn) is ∙ number_arrived txns txn txn ∙ ap (λ b. b || is_number_in txns txn) (number_itself txn))

-- more room leaves who is ready
pub wider_ready : (held wider : HolderList) (txn : ℕ) → wider.txns ≡ held.txns → held.room ≤ wider.room → is_ready_in (Some held) txn ≡ true → is_ready_in (Some wider) txn ≡ true
wider_ready held wider txn same more ready =
    elim (or_cases (is_number_in held.txns txn) (nat_lt 0 held.room) ready) [
      | inl there ↦ or_left (is_number_in wider.txns txn) (nat_lt 0 wider.room) (ap (λ list. is_number_in list txn) same ∙ there)
      | inr room ↦ or_right (is_number_in wider.txns txn) (nat_lt 0 wider.room) (grind arith)
    ]

ready_case : (turned : Bool) (object other : Object) (old : List (Object × HolderList)) (found made : Option HolderList) (txn : ℕ) → is_object other object ≡ turned → entry_at old object ≡ found
    → (is_ready_in found txn ≡ true → is_ready_in made txn ≡ true) → is_ready_in (entry_at old other) txn ≡ true → is_ready_in (cond turned made (entry_at old other)) txn ≡ true
ready_case true object other old found made txn same was grows ready = grows (ap (λ entry. is_ready_in entry txn) (sym was ∙ ap (entry_at old) (sym ((is_object_same other object).0 same))) ∙ ready)
ready_case false object other old found made txn same was grows ready = ready

-- a place that stays ready leaves all that are ready
pub keeps_ready : (old new : List (Object × HolderList)) (object : Object) (found made : Option HolderList) (txn : ℕ) → entry_at old object ≡ found → (is_ready_in found txn ≡ true → is_ready_in made txn ≡ true)
    → PutsAt old new object made → (other : Object) → KeepsReady old new txn other
keeps_ready old new object found made txn was grows puts other = λ ready.
    ap (λ entry. is_ready_in entry txn) (puts other)
    ∙ ap (λ b. is_ready_in (cond b made (entry_at old other)) txn) (object_turned object other)
    ∙ ready_case (is_object other object) object other old found made txn refl was grows ready

-- the object itself
pub ready_at : (old new : List (Object × HolderList)) (object : Object) (held : HolderList) (txn : ℕ) → is_ready_in (Some held) txn ≡ true → PutsAt old new object (Some held) → is_ready new txn object ≡ true
ready_at old new object held txn ready puts =
    ap (λ entry. is_ready_in entry txn) (puts object)
    ∙ ap (λ b. is_ready_in (cond b (Some held) (entry_at old object)) txn) ((is_object_same object object).1 refl)
    ∙ ready

-- one object more has room
pub ready_next : (old new : List (Object × HolderList)) (txn : ℕ) (x : Object) (rest : List Object) → ((other : Object) → KeepsReady old new txn other) → is_ready new txn x ≡ true
    → (object : Object) → (is_ready old txn object || is_among (x ∷ rest) object) ≡ true → (is_ready new txn object || is_among rest object) ≡ true
ready_next old new txn x rest kept ready object before =
    elim (or_cases (is_ready old txn object) (is_among (x ∷ rest) object) before) [
      | inl was ↦ or_left (is_ready new txn object) (is_among rest object) (kept object was)
      | inr among ↦ elim (or_cases (is_object object x) (is_among rest object) among) [
        | inl same ↦ or_left (is_ready new txn object) (is_among rest object) (ap (is_ready new txn) ((is_object_same object x).0 same) ∙ ready)
        | inr more ↦ or_right (is_ready new txn object) (is_among rest object) more
      ]
    ]

-- ---- one object of several

each_case : (f : List ℕ → List ℕ) (first rest : Bool) (held : List ℕ) → ((txns : List ℕ) → f (f txns) ≡ f txns)
    → (if rest then f (if first then f held else held) else (if first then f held else held)) ≡ (if first || rest then f held else held)
each_case f true true held twice = twice held
each_case f true false held twice = refl
each_case f false true held twice = refl
each_case f false false held twice = refl

-- a change under an object, and then under those that are left, is that under all of them
pub each_next : (f : List ℕ → List ℕ) (old new : List (Object × HolderList)) (x : Object) (rest : List Object) → ((txns : List ℕ) → f (f txns) ≡ f txns)
    → ((other : Object) → held_at new other ≡ (if is_object other x then f (held_at old other) else held_at old other))
    → (object : Object) → (if is_among rest object then f (held_at new object) else held_at new object) ≡ (if is_among (x ∷ rest) object then f (held_at old object) else held_at old object)
each_next f old new x rest twice changes object =
    ap (λ held. if is_among rest object then f held else held) (changes object)
    ∙ each_case f (is_object object x) (is_among rest object) (held_at old object) twice

-- ---- places that are put one after another

-- what the last place under the object has, if there is one
abbrev pub found_in : List (Object × HolderList) → Object → Option HolderList
found_in places object = update_all (eq_by_cmp object_order) (λ _. None) places object

next_case : (first rest : Bool) (place : HolderList) (found : Option HolderList) (txn : ℕ) → place.txns ≡ txn ∷ []
    → (if rest then txn ∷ [] else txns_in (cond first (Some place) found)) ≡ (if first || rest then txn ∷ [] else txns_in found)
next_case true true place found txn is = refl
next_case true false place found txn is = is
next_case false true place found txn is = refl
next_case false false place found txn is = refl

-- one place more of one who holds alone
pub alone_next : (places : List (Object × HolderList)) (place : Object × HolderList) (x : Object) (rest : List Object) (txn : ℕ) → place.0 ≡ x → place.1.txns ≡ txn ∷ []
    → (object : Object) → (if is_among rest object then txn ∷ [] else txns_in (found_in (places ++ place ∷ []) object)) ≡ (if is_among (x ∷ rest) object then txn ∷ [] else txns_in (found_in places object))
alone_next places place x rest txn same held object =
    ap (λ (found : Option HolderList). if is_among rest object then txn ∷ [] else txns_in found)
    (sym (update_all_push (eq_by_cmp object_order) (λ _. None) (found_in places) places place object refl))
    ∙ next_case (eq_by_cmp object_order place.0 object) (is_among rest object) place.1 (found_in places object) txn held
    ∙ ap (λ b. if b || is_among rest object then txn ∷ [] else txns_in (found_in places object)) (object_turned place.0 object ∙ ap (is_object object) same)

-- a map of such places shows them
pub alone_found : (places es : List (Object × HolderList)) → IsStrictlySortedBy object_order (keys_of es) → ((object : Object) → entry_at es object ≡ found_in places object)
    → (object : Object) → held_at es object ≡ txns_in (found_in places object)
alone_found places es in_order found object = seen es object in_order ∙ ap txns_in (found object)
