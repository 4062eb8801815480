-- States that show the same of an object, place by place, have the same content there, where rows stand in order.
use Rattle.std.specs.Prelude.{◌≡◌, refl, ℕ, List, [], ◌∷◌, Option, Some, None, Bool, true, false, cond, ◌&&◌, filter, map}
use Rattle.std.specs.BTreeMap.{is_at}
use Rattle.std.specs.{List.AllByRecursion, List.Sorted.IsStrictlySortedBy}
use Rattle.std.specs.Map.{keys_of}
use Rattle.std.specs.Ordering.{ordering_reverse}
use Rattle.std.specs.Str.{bytes_eq}
use Rattle.std.specs.declared.cmp.Ordering.{Ordering}
use Rattle.std.specs.declared.cmp.Ordering.TheVariants.{Less, Equal, Greater}
use Rattle.std.proofs.Common.{ap, sym, subst, ◌∙◌, inl, inr}
use Rattle.std.proofs.{lemmas.Map.lookup-none, lemmas.Map.Entries.none_past_head, lemmas.Map.Entries.none_below_head, lemmas.Option.none-some, lemmas.Map.Keys.IsDistinct-from_sorted}
use Rattle.std.proofs.lemmas.Bool.{true≢false, cases_Bool}
use Rattle.std.proofs.lemmas.Cmp.{eq_by_cmp_equiv, nat_eq_equiv}
use Rattle.std.proofs.lemmas.Slice.Eq.{bytes_eq-Decides}
use Rattle.rls_value.specs.{declared.row.RowId.RowId, declared.value.Value.Value, declared.object.Object.Object}
use Rattle.rls_value.specs.declared.object.Object.TheVariants as o
use Rattle.rls_catalog.specs.{declared.stored.Keyed.Keyed, declared.stored.Stored.Stored, InOrder.Ascend}
use Rattle.rls_catalog.specs.State.{State, id_order, stored_of, is_same_id, is_same_row, entries_of, AgreesAt}
use Rattle.rls_catalog.specs.Bases.{Base, has_key, is_number, row_at}
use Rattle.rls_catalog.proofs.Places.{id_total}
use Rattle.rls_catalog.proofs.RowsChanged.{same_id}
use Rattle.rls_catalog.specs.Contents.{Content, look, shows_content}
use Rattle.rls_conflict.proofs.RowLemmas.{own_number, one_number, found}
use Rattle.rls_conflict.specs.States.{InOrder}

-- what the object shows of the content at the place
abbrev pub shown_of : Object → Base → Content → Option Content
shown_of object place content = cond (shows_content object place content) (Some content) None

-- the states show the same of the object
abbrev pub ShowSame : Object → State → State → Type 0
ShowSame object s other = (place : Base) → shown_of object place (look s place) ≡ shown_of object place (look other place)

-- ---- rows that pass a test

abbrev pub passing : (RowId → Keyed → Bool) → List (RowId × Keyed) → List (RowId × Keyed)
passing p es = filter (λ e. p e.0 e.1) es

abbrev pub pass : (Keyed → Bool) → Option Keyed → Option Keyed
pass p None = None
pass p (Some keyed) = cond (p keyed) (Some keyed) None

abbrev Above : RowId → List (RowId × Keyed) → Type 0
Above id es = AllByRecursion (λ other. id_order id other ≡ Less) (keys_of es)

above_if : (b : Bool) (id : RowId) (e : RowId × Keyed) (es : List (RowId × Keyed)) → id_order id e.0 ≡ Less → Above id es → Above id (cond b (e ∷ es) es)
above_if true id e es less above = (less, above)
above_if false id e es less above = above

above_passing : (p : RowId → Keyed → Bool) (id : RowId) (es : List (RowId × Keyed)) → Above id es → Above id (passing p es)
above_passing p id [] above = tt
above_passing p id (e ∷ es) above = above_if (p e.0 e.1) id e (passing p es) above.0 (above_passing p id es above.1)

ascend_if : (b : Bool) (e : RowId × Keyed) (es : List (RowId × Keyed)) → Above e.0 es → Ascend es → Ascend (cond b (e ∷ es) es)
unfolding IsStrictlySortedBy
ascend_if true e es above ascend = (above, ascend)
ascend_if false e es above ascend = ascend

ascend_passing : (p : RowId → Keyed → Bool) (es : List (RowId × Keyed)) → Ascend es → Ascend (passing p es)
unfolding IsStrictlySortedBy
ascend_passing p [] ascend = tt
ascend_passing p (e ∷ es) ascend = ascend_if (p e.0 e.1) e (passing p es) (above_passing p e.0 es ascend.0) (ascend_passing p es ascend.1)

tail_ascends : (e : RowId × Keyed) (es : List (RowId × Keyed)) → Ascend (e ∷ es) → Ascend es
unfolding IsStrictlySortedBy
tail_ascends e es ascend = ascend.1

none_later : (id : RowId) (e : RowId × Keyed) (es : List (RowId × Keyed)) → Ascend (e ∷ es) → is_same_id id e.0 ≡ true → found id es ≡ None
none_later id e es ascend same = lookup-none (is_at (id_order id)) es (none_past_head (eq_by_cmp_equiv id_total) id e es (IsDistinct-from_sorted id_order (keys_of (e ∷ es)) ascend) same)

found_if : (b q : Bool) (id : RowId) (p : Keyed → Bool) (e : RowId × Keyed) (es kept : List (RowId × Keyed)) → is_same_id id e.0 ≡ b → (b ≡ true → q ≡ p e.1) → (b ≡ true → found id es ≡ None)
    → found id kept ≡ pass p (found id es) → found id (cond q (e ∷ kept) kept) ≡ pass p (cond b (Some e.1) (found id es))
found_if true true id p e es kept same is none further = ap (λ b. cond b (Some e.1) (found id kept)) same ∙ ap (λ b. cond b (Some e.1) None) (is refl)
found_if true false id p e es kept same is none further = further ∙ ap (pass p) (none refl) ∙ ap (λ b. cond b (Some e.1) None) (is refl)
found_if false true id p e es kept same is none further = ap (λ b. cond b (Some e.1) (found id kept)) same ∙ further
found_if false false id p e es kept same is none further = further

pub found_passing : (p : RowId → Keyed → Bool) (id : RowId) (es : List (RowId × Keyed)) → Ascend es → found id (passing p es) ≡ pass (p id) (found id es)
found_passing p id [] ascend = refl
found_passing p id (e ∷ es) ascend =
    found_if (is_same_id id e.0) (p e.0 e.1) id (p id) e es (passing p es) refl (λ same. ap (λ i. p i e.1) (sym (one_number id e.0 same))) (none_later id e es ascend)
    (found_passing p id es (tail_ascends e es ascend))

stored_if : (b : Bool) (test : Stored → Bool) (e : RowId × Keyed) (es : List (RowId × Keyed)) (rest : List Stored) → map stored_of es ≡ rest → map stored_of (cond b (e ∷ es) es) ≡ cond b (stored_of e ∷ rest) rest
stored_if true test e es rest same = ap (λ r. stored_of e ∷ r) same
stored_if false test e es rest same = same

pub stored_passing : (test : Stored → Bool) (es : List (RowId × Keyed)) → map stored_of (passing (λ id keyed. test (stored_of (id, keyed))) es) ≡ filter test (map stored_of es)
stored_passing test [] = refl
stored_passing test (e ∷ es) = stored_if (test (stored_of e)) test e (passing (λ id keyed. test (stored_of (id, keyed))) es) (filter test (map stored_of es)) (stored_passing test es)

-- ---- rows with equal look-ups

find_head : (e : RowId × Keyed) (es : List (RowId × Keyed)) → found e.0 (e ∷ es) ≡ Some e.1
find_head e es = ap (λ b. cond b (Some e.1) (found e.0 es)) (own_number e.0)

module _ (e f : RowId × Keyed) (es fs : List (RowId × Keyed)) (a : Ascend (e ∷ es)) (b : Ascend (f ∷ fs)) (same : (id : RowId) → found id (e ∷ es) ≡ found id (f ∷ fs)) where
  heads_if : (order : Ordering) → id_order e.0 f.0 ≡ order → e.0 ≡ f.0
  heads_if Less is = absurd (none-some e.1 (sym (lookup-none (is_at (id_order e.0)) (f ∷ fs) (none_below_head id_total e.0 f fs b is)) ∙ sym (same e.0) ∙ find_head e es))
  heads_if Equal is = same_id e.0 f.0 is
  heads_if Greater is = absurd (none-some f.1 (sym (lookup-none (is_at (id_order f.0)) (e ∷ es) (none_below_head id_total f.0 e es a (id_total.antisymm f.0 e.0 ∙ ap ordering_reverse is))) ∙ same f.0 ∙ find_head f fs))

  heads : e.0 ≡ f.0
  heads = heads_if (id_order e.0 f.0) refl

  values : e.1 ≡ f.1
  values =
      let here : Some e.1 ≡ Some f.1 = sym (find_head e es) ∙ same e.0 ∙ ap (λ id. found id (f ∷ fs)) heads ∙ find_head f fs in
      cc

  tails : (id : RowId) → found id es ≡ found id fs
  tails id = elim (cases_Bool (is_same_id id e.0)) [
    | inl here ↦ none_later id e es a here ∙ sym (none_later id f fs b (ap (is_same_id id) (sym heads) ∙ here))
    | inr there ↦
        sym (ap (λ c. cond c (Some e.1) (found id es)) there) ∙ same id ∙ ap (λ c. cond c (Some f.1) (found id fs)) (ap (is_same_id id) (sym heads) ∙ there)
  ]

pub same_entries : (es fs : List (RowId × Keyed)) → Ascend es → Ascend fs → ((id : RowId) → found id es ≡ found id fs) → es ≡ fs
same_entries [] [] a b same = refl
same_entries [] (f ∷ fs) a b same = absurd (none-some f.1 (same f.0 ∙ find_head f fs))
same_entries (e ∷ es) [] a b same = absurd (none-some e.1 (sym (same e.0) ∙ find_head e es))
same_entries (e ∷ es) (f ∷ fs) a b same =
    let rest = same_entries es fs (tail_ascends e es a) (tail_ascends f fs b) (tails e f es fs a b same) in
    λ i. (heads e f es fs a b same i, values e f es fs a b same i) ∷ rest i

same_passing : (test : Stored → Bool) (es fs : List (RowId × Keyed)) → Ascend es → Ascend fs → ((id : RowId) → pass (λ keyed. test (stored_of (id, keyed))) (found id es) ≡ pass (λ keyed. test (stored_of (id, keyed))) (found id fs))
    → filter test (map stored_of es) ≡ filter test (map stored_of fs)
same_passing test es fs a b same =
    let p : RowId → Keyed → Bool = λ id keyed. test (stored_of (id, keyed)) in
    sym (stored_passing test es)
    ∙ ap (map stored_of) (same_entries (passing p es) (passing p fs) (ascend_passing p es a) (ascend_passing p fs b) (λ id. found_passing p id es a ∙ same id ∙ sym (found_passing p id fs b)))
    ∙ stored_passing test fs

-- ---- what objects show

own_bytes : (name : List ℕ) → bytes_eq name name ≡ true
own_bytes name = (bytes_eq-Decides name name).1 refl

-- an object that shows the place shows all of it
all_shown : (b : Bool) (c d : Content) → b ≡ true → cond b (Some c) None ≡ cond b (Some d) None → c ≡ d
all_shown true c d is same = cc
all_shown false c d is same = absurd (true≢false (sym is))

row_is : (c d : Option Keyed) → Content.Row c ≡ Content.Row d → c ≡ d
row_is c d same = cc

key_if : (t : Bool) (key : List Value) (c d : Option Keyed) → t ≡ true
    → cond (t && has_key c key) (Some (Content.Row c)) None ≡ cond (t && has_key d key) (Some (Content.Row d)) None
    → pass (λ keyed. is_same_row keyed.key key) c ≡ pass (λ keyed. is_same_row keyed.key key) d
key_if false key c d is same = absurd (true≢false (sym is))
key_if true key None None is same = refl
key_if true key None (Some d) is same = elim (cases_Bool (is_same_row d.key key)) [
  | inl yes' ↦ (let x = rw yes' at same in absurd cc)
  | inr no' ↦ rw no' refl
]
key_if true key (Some c) None is same = elim (cases_Bool (is_same_row c.key key)) [
  | inl yes' ↦ (let x = rw yes' at same in absurd cc)
  | inr no' ↦ rw no' refl
]
key_if true key (Some c) (Some d) is same = elim (cases_Bool (is_same_row c.key key)) [
  | inl yes' ↦
      (let x = rw yes' at same in
      elim (cases_Bool (is_same_row d.key key)) [
        | inl both ↦ (let y = rw both at x in rw yes' (rw both cc))
        | inr one ↦ (let y = rw one at x in absurd cc)
      ])
  | inr no' ↦
      (let x = rw no' at same in
      elim (cases_Bool (is_same_row d.key key)) [
        | inl one ↦ (let y = rw one at x in absurd cc)
        | inr both ↦ rw no' (rw both refl)
      ])
]

number_is : (number id : RowId) → is_same_id number id ≡ true → is_number number id ≡ true
number_is number id same = subst (λ other. is_number number other ≡ true) (one_number number id same) (λ i. nat_eq_equiv.refl number.txn i && nat_eq_equiv.refl number.n i)

pass_none : (c : Option Keyed) → pass (λ keyed. false) c ≡ None
pass_none None = refl
pass_none (Some keyed) = refl

number_if : (b : Bool) (c d : Option Keyed) → (b ≡ true → c ≡ d) → pass (λ keyed. b) c ≡ pass (λ keyed. b) d
number_if true c d same = ap (pass (λ keyed. true)) (same refl)
number_if false c d same = pass_none c ∙ sym (pass_none d)

-- the same is shown of an object only where its content is the same
pub agrees_from_shown : (s other : State) → InOrder s → InOrder other → (object : Object) → ShowSame object s other → AgreesAt s other object
agrees_from_shown s other a b (o.Role name) same = (let e = all_shown (bytes_eq name name) _ _ (own_bytes name) (same (Base.Role name)) in cc)
agrees_from_shown s other a b (o.Members name) same = (let e = all_shown (bytes_eq name name) _ _ (own_bytes name) (same (Base.Members name)) in cc)
agrees_from_shown s other a b (o.Table name) same = (let e = all_shown (bytes_eq name name) _ _ (own_bytes name) (same (Base.Table name)) in cc)
agrees_from_shown s other a b (o.Grants name) same = (let e = all_shown (bytes_eq name name) _ _ (own_bytes name) (same (Base.Grants name)) in cc)
agrees_from_shown s other a b (o.Policies name) same = (let e = all_shown (bytes_eq name name) _ _ (own_bytes name) (same (Base.Policies name)) in cc)
agrees_from_shown s other a b (o.Rows table) same =
    ap (map stored_of) (same_entries (entries_of s table) (entries_of other table) (a table) (b table)
    (λ id. row_is (row_at s table id) (row_at other table id) (all_shown (bytes_eq table table) _ _ (own_bytes table) (same (Base.Row table id)))))
agrees_from_shown s other a b (o.Key table key) same =
    same_passing (λ stored. is_same_row stored.key key) (entries_of s table) (entries_of other table) (a table) (b table)
    (λ id. key_if (bytes_eq table table) key (row_at s table id) (row_at other table id) (own_bytes table) (same (Base.Row table id)))
agrees_from_shown s other a b (o.RowOf table number) same =
    same_passing (λ stored. is_same_id number stored.id) (entries_of s table) (entries_of other table) (a table) (b table)
    (λ id. number_if (is_same_id number id) (row_at s table id) (row_at other table id)
    (λ here. row_is (row_at s table id) (row_at other table id) (all_shown (bytes_eq table table && is_number number id) _ _ (ap (λ x. x && is_number number id) (own_bytes table) ∙ number_is number id here) (same (Base.Row table id)))))
