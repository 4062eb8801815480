-- The catalogue's own words mean what the theory's do: which changes cover an object, and where states agree.
use Rattle.std.specs.Prelude.{◌≡◌, refl, ℕ, List, [], ◌∷◌, Option, Some, None, Bool, true, false, cond, ◌&&◌, ◌||◌, filter, map, ◌↔◌}
use Rattle.std.specs.Str.{bytes_eq}
use Rattle.std.proofs.Common.{ap, sym, subst, ◌∙◌, inl, inr}
use Rattle.std.proofs.lemmas.Bool.{cases_Bool, and_parts}
use Rattle.std.proofs.lemmas.Slice.Eq.{bytes_eq-Decides}
use Rattle.std.specs.Prelude.{nat_eq}
use Rattle.std.proofs.Common.{eqb-true}
use Rattle.rls_value.specs.{declared.row.RowId.RowId, declared.value.Value.Value, declared.object.Object.Object}
use Rattle.rls_value.specs.declared.object.Object.TheVariants as o
use Rattle.rls_catalog.specs.{declared.stored.Keyed.Keyed, declared.stored.Stored.Stored, declared.change.Change.Change, InOrder.Ascend}
use Rattle.rls_catalog.specs.declared.change.Change.TheVariants as c
use Rattle.rls_catalog.specs.State.{State, stored_of, is_same_id, is_same_row, entries_of, AgreesAt}
use Rattle.rls_catalog.specs.Bases.{Base, base_of, covers, has_key, is_number, row_at}
use Rattle.rls_catalog.specs.Contents.{Content, look, shows_content, was_of, now_of}
use Rattle.rls_conflict.proofs.RowLemmas.{own_number, found}
use Rattle.rls_conflict.specs.States.{InOrder}
use Rattle.rls_conflict.proofs.AgreementLemmas.{ShowSame, passing, pass, found_passing, stored_passing, agrees_from_shown}

-- an object shows what stood, or what stands now
pub covers_same : (object : Object) (change : Change) → (shows_content object (base_of change) (was_of change) || shows_content object (base_of change) (now_of change)) ≡ covers object change
covers_same object (c.Role name def) = refl
covers_same object (c.Members name def) = refl
covers_same object (c.Table name def) = refl
covers_same object (c.Grants name def) = refl
covers_same object (c.Policies name def) = refl
covers_same object (c.Row row) = refl

-- ---- from agreement

shown_if : (t : Bool) (a b : Content) → (t ≡ true → a ≡ b) → cond t (Some a) None ≡ cond t (Some b) None
shown_if true a b same = ap Some (same refl)
shown_if false a b same = refl

named : (name other : List ℕ) → bytes_eq name other ≡ true → name ≡ other
named name other is = (bytes_eq-Decides name other).0 is

stored_back : Stored → RowId × Keyed
stored_back stored = (stored.id, record { key = stored.key; row = stored.row })

entries_back : List Stored → List (RowId × Keyed)
entries_back [] = []
entries_back (stored ∷ rows) = stored_back stored ∷ entries_back rows

entries_are : (es : List (RowId × Keyed)) → entries_back (map stored_of es) ≡ es
unfolding stored_back entries_back
entries_are [] = refl
entries_are (e ∷ es) = ap (λ r. e ∷ r) (entries_are es)

stored_same : (es fs : List (RowId × Keyed)) → map stored_of es ≡ map stored_of fs → es ≡ fs
stored_same es fs same = sym (entries_are es) ∙ ap entries_back same ∙ entries_are fs

passing_same : (test : Stored → Bool) (es fs : List (RowId × Keyed)) → Ascend es → Ascend fs → filter test (map stored_of es) ≡ filter test (map stored_of fs)
    → (id : RowId) → pass (λ keyed. test (stored_of (id, keyed))) (found id es) ≡ pass (λ keyed. test (stored_of (id, keyed))) (found id fs)
passing_same test es fs a b same id =
    let p : RowId → Keyed → Bool = λ id keyed. test (stored_of (id, keyed)) in
    sym (found_passing p id es a)
    ∙ ap (found id) (stored_same (passing p es) (passing p fs) (stored_passing test es ∙ same ∙ sym (stored_passing test fs)))
    ∙ found_passing p id fs b

key_back : (t : Bool) (key : List Value) (c d : Option Keyed) → (t ≡ true → pass (λ keyed. is_same_row keyed.key key) c ≡ pass (λ keyed. is_same_row keyed.key key) d)
    → cond (t && has_key c key) (Some (Content.Row c)) None ≡ cond (t && has_key d key) (Some (Content.Row d)) None
key_back false key c d same = refl
key_back true key None None same = refl
key_back true key None (Some d) same = elim (cases_Bool (is_same_row d.key key)) [
  | inl yes' ↦ (let x = rw yes' at (same refl) in absurd cc)
  | inr no' ↦ rw no' refl
]
key_back true key (Some c) None same = elim (cases_Bool (is_same_row c.key key)) [
  | inl yes' ↦ (let x = rw yes' at (same refl) in absurd cc)
  | inr no' ↦ rw no' refl
]
key_back true key (Some c) (Some d) same = elim (cases_Bool (is_same_row c.key key)) [
  | inl yes' ↦
      (let x = rw yes' at (same refl) in
      elim (cases_Bool (is_same_row d.key key)) [
        | inl both ↦ (let y = rw both at x in rw yes' (rw both (ap (λ k. Some (Content.Row k)) y)))
        | inr one ↦ (let y = rw one at x in absurd cc)
      ])
  | inr no' ↦
      (let x = rw no' at (same refl) in
      elim (cases_Bool (is_same_row d.key key)) [
        | inl one ↦ (let y = rw one at x in absurd cc)
        | inr both ↦ rw no' (rw both refl)
      ])
]

pass_all : (c : Option Keyed) → pass (λ keyed. true) c ≡ c
pass_all None = refl
pass_all (Some keyed) = refl

number_back : (number id : RowId) → is_number number id ≡ true → is_same_id number id ≡ true
number_back number id is =
    let parts = and_parts (nat_eq number.txn id.txn) (nat_eq number.n id.n) is in
    let txn : number.txn ≡ id.txn = eqb-true number.txn id.txn parts.0 in
    let n : number.n ≡ id.n = eqb-true number.n id.n parts.1 in
    subst (λ other. is_same_id number other ≡ true) (λ i. record { txn = txn i; n = n i }) (own_number number)

pub shown_from_agrees : (s other : State) → InOrder s → InOrder other → (object : Object) → AgreesAt s other object → ShowSame object s other
shown_from_agrees s other a b (o.Role name) same (Base.Role q) = shown_if (bytes_eq name q) _ _ (λ here. subst (λ n. look s (Base.Role n) ≡ look other (Base.Role n)) (named name q here) (ap Content.Role same))
shown_from_agrees s other a b (o.Members name) same (Base.Members q) = shown_if (bytes_eq name q) _ _ (λ here. subst (λ n. look s (Base.Members n) ≡ look other (Base.Members n)) (named name q here) (ap Content.Members same))
shown_from_agrees s other a b (o.Table name) same (Base.Table q) = shown_if (bytes_eq name q) _ _ (λ here. subst (λ n. look s (Base.Table n) ≡ look other (Base.Table n)) (named name q here) (ap Content.Table same))
shown_from_agrees s other a b (o.Grants name) same (Base.Grants q) = shown_if (bytes_eq name q) _ _ (λ here. subst (λ n. look s (Base.Grants n) ≡ look other (Base.Grants n)) (named name q here) (ap Content.Grants same))
shown_from_agrees s other a b (o.Policies name) same (Base.Policies q) = shown_if (bytes_eq name q) _ _ (λ here. subst (λ n. look s (Base.Policies n) ≡ look other (Base.Policies n)) (named name q here) (ap Content.Policies same))
shown_from_agrees s other a b (o.Rows table) same (Base.Row q id) = shown_if (bytes_eq table q) _ _ (λ here.
    subst (λ n. look s (Base.Row n id) ≡ look other (Base.Row n id)) (named table q here)
    (ap (λ es. Content.Row (found id es)) (stored_same (entries_of s table) (entries_of other table) same)))
shown_from_agrees s other a b (o.Key table key) same (Base.Row q id) = key_back (bytes_eq table q) key (row_at s q id) (row_at other q id) (λ here.
    subst (λ n. pass (λ keyed. is_same_row keyed.key key) (row_at s n id) ≡ pass (λ keyed. is_same_row keyed.key key) (row_at other n id)) (named table q here)
    (passing_same (λ stored. is_same_row stored.key key) (entries_of s table) (entries_of other table) (a table) (b table) same id))
shown_from_agrees s other a b (o.RowOf table number) same (Base.Row q id) = shown_if (bytes_eq table q && is_number number id) _ _ (λ both.
    let parts = and_parts (bytes_eq table q) (is_number number id) both in
    let there : is_same_id number id ≡ true = number_back number id parts.1 in
    let passed : pass (λ keyed. is_same_id number id) (row_at s table id) ≡ pass (λ keyed. is_same_id number id) (row_at other table id) =
    passing_same (λ stored. is_same_id number stored.id) (entries_of s table) (entries_of other table) (a table) (b table) same id in
    subst (λ n. look s (Base.Row n id) ≡ look other (Base.Row n id)) (named table q parts.0)
    (ap Content.Row (sym (pass_all (row_at s table id)) ∙ ap (λ b. pass (λ keyed. b) (row_at s table id)) (sym there) ∙ passed ∙ ap (λ b. pass (λ keyed. b) (row_at other table id)) there ∙ pass_all (row_at other table id))))
shown_from_agrees s other a b _ same _ = refl

-- states have the same content at an object exactly where the same is shown of it, place by place
pub agrees_is_shown : (s other : State) → InOrder s → InOrder other → (object : Object) → AgreesAt s other object ↔ ShowSame object s other
agrees_is_shown s other a b object = (shown_from_agrees s other a b object, agrees_from_shown s other a b object)
