-- Rows written into a table: where they have keys of their own, each once and none that of a row that stays, keys that were
-- unique stay unique.
use Rattle.std.specs.Prelude.{◌≡◌, refl, ℕ, List, [], ◌∷◌, Option, Some, None, Bool, true, false, not, ◌&&◌, ◌||◌, cond, length, map}
use Rattle.std.specs.{BTreeMap.is_at, BTreeMap.insert_entry, List.AllByRecursion, List.list_any}
use Rattle.std.specs.{Ordering.is_eq, Cmp.Lexicographic.slice_cmp, Map.remove_entry, Option.option_or}
use Rattle.std.proofs.Common.{ap, sym, ◌∙◌, subst}
use Rattle.std.proofs.lemmas.Bool.{true≢false, not-false, or_left, or_right}
use Rattle.std.proofs.{lemmas.Cmp.tied_itself, lemmas.Bool.Decides.Decides-int_eq, Math.Nat.suc-ne-zero, lemmas.Option.none-some, lemmas.Option.same_Some}
use Rattle.rls_value.specs.{Listing.rows_total, declared.row.RowId.RowId, declared.value.Value.Value, Values.is_null, Values.listed, Values.value_at}
use Rattle.rls_expr.specs.declared.table.TableDef.{TableDef}
use Rattle.rls_guard.specs.rls_catalog.specs.{declared.stored.Keyed.Keyed, declared.stored.Stored.Stored, InOrder.Ascend, SoundRows.AreSound, SoundRows.CarriesKey, SoundRows.StandsAt, State.id_order, State.is_same_id, State.is_same_row, State.is_same_value, State.stored_of, State.with_key}
use Rattle.rls_guard.specs.rls_catalog.proofs.Walks.{bytes_own}
use Rattle.rls_dml.specs.{Numbers.has_number, Writing.is_among, Writing.is_whole, Writing.has_doubles, Writing.keys_of, Writing.stays_any}
use Rattle.rls_dml.proofs.PutLemmas.{found, found_gone, found_put, gone_ascends, one_number, own_number, put_ascends}

-- ---- what stands at each number

-- the row without its number
abbrev pub keyed_of : Stored → Keyed
keyed_of stored = record { key = stored.key; row = stored.row }

-- the rows by their numbers
abbrev pub entries : List Stored → List (RowId × Keyed)
entries rows = map (λ stored. (stored.id, keyed_of stored)) rows

-- rows of a table with others put in, one after another
abbrev pub with_rows : List Stored → List (RowId × Keyed) → List (RowId × Keyed)
with_rows [] role_privileges = role_privileges
with_rows (stored ∷ rows) role_privileges = with_rows rows (insert_entry id_order role_privileges stored.id (keyed_of stored))

-- they stay in order
pub with_rows_ascend : (rows : List Stored) (role_privileges : List (RowId × Keyed)) → Ascend role_privileges → Ascend (with_rows rows role_privileges)
with_rows_ascend [] role_privileges ascend = ascend
with_rows_ascend (stored ∷ rows) role_privileges ascend =
    with_rows_ascend rows (insert_entry id_order role_privileges stored.id (keyed_of stored)) (put_ascends stored.id (keyed_of stored) role_privileges ascend)

-- none of the rows has the number
abbrev pub OtherThan : RowId → List Stored → Type 0
OtherThan id rows = AllByRecursion (λ stored. is_same_id stored.id id ≡ false) rows

-- the rows have different numbers
abbrev pub Apart : List Stored → Type 0
Apart [] = Unit {0}
Apart (stored ∷ rows) = OtherThan stored.id rows × Apart rows

no_other_if : (b : Bool) (id put : RowId) (stored : Stored) (rest : Option Keyed) → is_same_id id stored.id ≡ b → id ≡ put → is_same_id stored.id put ≡ false → rest ≡ None
    → cond b (Some (keyed_of stored)) rest ≡ None
no_other_if true id put stored rest is same other none =
    absurd (true≢false (sym (own_number put) ∙ ap (λ i. is_same_id i put) (sym same ∙ one_number id stored.id is) ∙ other))
no_other_if false id put stored rest is same other none = none

no_other : (id put : RowId) (rows : List Stored) → id ≡ put → OtherThan put rows → found id (entries rows) ≡ None
no_other id put [] same other = refl
no_other id put (stored ∷ rows) same other =
    no_other_if (is_same_id id stored.id) id put stored (found id (entries rows)) refl same other.0 (no_other id put rows same other.1)

first_or : (b : Bool) (id : RowId) (stored : Stored) (rows : List Stored) (stood : Option Keyed) → is_same_id id stored.id ≡ b → OtherThan stored.id rows
    → option_or (found id (entries rows)) (cond b (Some (keyed_of stored)) stood) ≡ option_or (cond b (Some (keyed_of stored)) (found id (entries rows))) stood
first_or true id stored rows stood is other =
    ap (λ later. option_or later (Some (keyed_of stored))) (no_other id stored.id rows (one_number id stored.id is) other)
first_or false id stored rows stood is other = refl

-- one of the rows, or what stood there
pub found_with : (id : RowId) (rows : List Stored) (role_privileges : List (RowId × Keyed)) → Apart rows
    → found id (with_rows rows role_privileges) ≡ option_or (found id (entries rows)) (found id role_privileges)
found_with id [] role_privileges apart = refl
found_with id (stored ∷ rows) role_privileges apart =
    found_with id rows (insert_entry id_order role_privileges stored.id (keyed_of stored)) apart.1
    ∙ ap (option_or (found id (entries rows))) (found_put id stored.id (keyed_of stored) role_privileges)
    ∙ first_or (is_same_id id stored.id) id stored rows (found id role_privileges) refl apart.0

all_found_if : (P : Keyed → Type 0) (b : Bool) (stored : Stored) (rest : Option Keyed) (keyed : Keyed) → P (keyed_of stored) → (rest ≡ Some keyed → P keyed)
    → cond b (Some (keyed_of stored)) rest ≡ Some keyed → P keyed
all_found_if P true stored rest keyed first further is = subst P (same_Some (keyed_of stored) keyed is) first
all_found_if P false stored rest keyed first further is = further is

-- what holds of each of the rows holds of the one that is found
all_found : (P : Keyed → Type 0) (id : RowId) (rows : List Stored) (keyed : Keyed) → AllByRecursion (λ stored. P (keyed_of stored)) rows → StandsAt (entries rows) id keyed → P keyed
all_found P id [] keyed all is = absurd (none-some keyed is)
all_found P id (stored ∷ rows) keyed all is =
    all_found_if P (is_same_id id stored.id) stored (found id (entries rows)) keyed all.0 (λ there. all_found P id rows keyed all.1 there) is

none_has_if : (b more : Bool) (stored : Stored) (rest : Option Keyed) → (rest ≡ None → more ≡ false) → cond b (Some (keyed_of stored)) rest ≡ None → (b || more) ≡ false
none_has_if true more stored rest further none = absurd (none-some (keyed_of stored) (sym none))
none_has_if false more stored rest further none = further none

-- where none is found none has the number
none_has : (id : RowId) (rows : List Stored) → found id (entries rows) ≡ None → has_number rows id ≡ false
none_has id [] none = refl
none_has id (stored ∷ rows) none = none_has_if (is_same_id id stored.id) (has_number rows id) stored (found id (entries rows)) (none_has id rows) none

-- ---- among the new rows

either_false : (a b : Bool) → (a || b) ≡ false → (a ≡ false) × (b ≡ false)
either_false true b is = absurd (true≢false is)
either_false false b is = (refl, is)

-- a key is the same as itself
own_key : (key : List Value) → is_eq (slice_cmp listed key key) ≡ true
own_key key = ap is_eq (tied_itself rows_total key)

among_if : (w b : Bool) (key : List Value) (id : RowId) (stored : Stored) (rows : List Stored) (keyed : Keyed) → is_whole stored.key ≡ w → keyed.key ≡ key → is_whole keyed.key ≡ true
    → cond b (Some (keyed_of stored)) (found id (entries rows)) ≡ Some keyed → (StandsAt (entries rows) id keyed → is_among key (keys_of rows) ≡ true)
    → is_among key (cond w (stored.key ∷ keys_of rows) (keys_of rows)) ≡ true
among_if true true key id stored rows keyed whole same is stands further =
    let own : stored.key ≡ key = ap (λ k. k.key) (same_Some (keyed_of stored) keyed stands) ∙ same in
    or_left (is_eq (slice_cmp listed stored.key key)) (is_among key (keys_of rows)) (ap (λ k. is_eq (slice_cmp listed k key)) own ∙ own_key key)
among_if true false key id stored rows keyed whole same is stands further =
    or_right (is_eq (slice_cmp listed stored.key key)) (is_among key (keys_of rows)) (further stands)
among_if false true key id stored rows keyed whole same is stands further =
    absurd (true≢false (sym is ∙ ap (λ k. is_whole k.key) (sym (same_Some (keyed_of stored) keyed stands)) ∙ whole))
among_if false false key id stored rows keyed whole same is stands further = further stands

-- the key of a row that is found is among those of the rows
among_keys : (key : List Value) (id : RowId) (rows : List Stored) (keyed : Keyed) → StandsAt (entries rows) id keyed → keyed.key ≡ key → is_whole keyed.key ≡ true → is_among key (keys_of rows) ≡ true
among_keys key id [] keyed stands same is = absurd (none-some keyed stands)
among_keys key id (stored ∷ rows) keyed stands same is =
    among_if (is_whole stored.key) (is_same_id id stored.id) key id stored rows keyed refl same is stands (λ there. among_keys key id rows keyed there same is)

-- a new row, and one behind it: their keys differ
not_behind : (w : Bool) (other : RowId) (stored : Stored) (rows : List Stored) (keyed same : Keyed) → is_whole stored.key ≡ w → has_doubles (cond w (stored.key ∷ keys_of rows) (keys_of rows)) ≡ false
    → Some (keyed_of stored) ≡ Some keyed → StandsAt (entries rows) other same → keyed.key ≡ same.key → is_whole keyed.key ≡ true → ⊥
not_behind true other stored rows keyed same whole once here there key is =
    let own : stored.key ≡ keyed.key = ap (λ k. k.key) (same_Some (keyed_of stored) keyed here) in
    true≢false (sym (among_keys stored.key other rows same there (sym key ∙ sym own) (ap is_whole (sym key) ∙ is)) ∙ (either_false (is_among stored.key (keys_of rows)) (has_doubles (keys_of rows)) once).0)
not_behind false other stored rows keyed same whole once here there key is =
    true≢false (sym is ∙ ap (λ k. is_whole k.key) (sym (same_Some (keyed_of stored) keyed here)) ∙ whole)

-- there is no double behind a row either
once_behind : (w : Bool) (stored : Stored) (rows : List Stored) → has_doubles (cond w (stored.key ∷ keys_of rows) (keys_of rows)) ≡ false → has_doubles (keys_of rows) ≡ false
once_behind true stored rows once = (either_false (is_among stored.key (keys_of rows)) (has_doubles (keys_of rows)) once).1
once_behind false stored rows once = once

one_new_if : (b c : Bool) (id other : RowId) (stored : Stored) (rows : List Stored) (keyed same : Keyed) → is_same_id id stored.id ≡ b → is_same_id other stored.id ≡ c
    → has_doubles (keys_of (stored ∷ rows)) ≡ false → (StandsAt (entries rows) id keyed → StandsAt (entries rows) other same → id ≡ other)
    → cond b (Some (keyed_of stored)) (found id (entries rows)) ≡ Some keyed → cond c (Some (keyed_of stored)) (found other (entries rows)) ≡ Some same
    → keyed.key ≡ same.key → is_whole keyed.key ≡ true → id ≡ other
one_new_if true true id other stored rows keyed same first second once further here there key is = one_number id stored.id first ∙ sym (one_number other stored.id second)
one_new_if true false id other stored rows keyed same first second once further here there key is =
    absurd (not_behind (is_whole stored.key) other stored rows keyed same refl once here there key is)
one_new_if false true id other stored rows keyed same first second once further here there key is =
    absurd (not_behind (is_whole stored.key) id stored rows same keyed refl once there here (sym key) (ap is_whole (sym key) ∙ is))
one_new_if false false id other stored rows keyed same first second once further here there key is = further here there

-- new rows that have the same key are one
pub one_new : (id other : RowId) (rows : List Stored) (keyed same : Keyed) → has_doubles (keys_of rows) ≡ false → StandsAt (entries rows) id keyed → StandsAt (entries rows) other same
    → keyed.key ≡ same.key → is_whole keyed.key ≡ true → id ≡ other
one_new id other [] keyed same once here there key is = absurd (none-some keyed here)
one_new id other (stored ∷ rows) keyed same once here there key is =
    one_new_if (is_same_id id stored.id) (is_same_id other stored.id) id other stored rows keyed same refl refl once
    (λ first second. one_new id other rows keyed same (once_behind (is_whole stored.key) stored rows once) first second key is)
    here there key is

-- ---- beside the rows that stay

own_value : (value : Value) → is_same_value value value ≡ true
own_value Value.Null = refl
own_value (Value.Int n) = (Decides-int_eq n n).1 refl
own_value (Value.Text bytes) = bytes_own bytes
own_value (Value.Bool true) = refl
own_value (Value.Bool false) = refl

-- values are the same as themselves
own_row : (row : List Value) → is_same_row row row ≡ true
own_row [] = refl
own_row (value ∷ row) = λ i. own_value value i && own_row row i

replaced_if : (b c : Bool) (id : RowId) (key : List Value) (replaced : List Stored) (entry : RowId × Keyed) (role_privileges : List (RowId × Keyed)) (keyed : Keyed) → is_same_id id entry.0 ≡ b
    → is_same_row entry.1.key key ≡ c → keyed.key ≡ key → cond b (Some entry.1) (found id role_privileges) ≡ Some keyed
    → stays_any replaced (cond c (stored_of entry ∷ with_key key (map stored_of role_privileges)) (with_key key (map stored_of role_privileges))) ≡ false
    → (StandsAt role_privileges id keyed → stays_any replaced (with_key key (map stored_of role_privileges)) ≡ false → has_number replaced id ≡ true) → has_number replaced id ≡ true
replaced_if true true id key replaced entry role_privileges keyed here same is stands stays further =
    ap (has_number replaced) (one_number id entry.0 here)
    ∙ not-false (has_number replaced entry.0) (either_false (not (has_number replaced entry.0)) (stays_any replaced (with_key key (map stored_of role_privileges))) stays).0
replaced_if true false id key replaced entry role_privileges keyed here same is stands stays further =
    absurd (true≢false (sym (own_row key) ∙ ap (λ k. is_same_row k key) (sym is ∙ sym (ap (λ k. k.key) (same_Some entry.1 keyed stands))) ∙ same))
replaced_if false true id key replaced entry role_privileges keyed here same is stands stays further =
    further stands (either_false (not (has_number replaced entry.0)) (stays_any replaced (with_key key (map stored_of role_privileges))) stays).1
replaced_if false false id key replaced entry role_privileges keyed here same is stands stays further = further stands stays

-- where no row that stays has the key, a row that has it is replaced
is_replaced : (id : RowId) (key : List Value) (replaced : List Stored) (role_privileges : List (RowId × Keyed)) (keyed : Keyed) → keyed.key ≡ key → StandsAt role_privileges id keyed
    → stays_any replaced (with_key key (map stored_of role_privileges)) ≡ false → has_number replaced id ≡ true
is_replaced id key replaced [] keyed is stands stays = absurd (none-some keyed stands)
is_replaced id key replaced (entry ∷ role_privileges) keyed is stands stays =
    replaced_if (is_same_id id entry.0) (is_same_row entry.1.key key) id key replaced entry role_privileges keyed refl refl is stands stays
    (λ there none. is_replaced id key replaced role_privileges keyed is there none)

-- ---- a table

-- rows that may be written into a table, in place of others: as what they are refused for says
pub record MayStand (table : TableDef) (replaced rows : List Stored) (role_privileges : List (RowId × Keyed)) : Type 0 where
  pub apart : Apart rows
  pub carried : AllByRecursion (λ stored. CarriesKey table (keyed_of stored)) rows
  pub once : has_doubles (keys_of rows) ≡ false
  pub free : AllByRecursion (λ stored. is_whole stored.key ≡ true → stays_any replaced (with_key stored.key (map stored_of role_privileges)) ≡ false) rows
  pub replaces : (id : RowId) → has_number replaced id ≡ true → has_number rows id ≡ true

-- a key without a null is whole
whole_if : (key : List Value) → ¬ (key ≡ []) → list_any is_null key ≡ false → is_whole key ≡ true
whole_if [] keyed no_null = absurd (keyed refl)
whole_if (value ∷ key) keyed no_null = ap not no_null

no_places : {X : Type 0} (f : ℕ → X) (places : List ℕ) → map f places ≡ [] → places ≡ []
no_places f [] none = refl
no_places f (place ∷ places) none = absurd (suc-ne-zero (length (map f places)) (ap length none))

-- so is the key of each row of a table with a primary key
whole_key : (table : TableDef) (keyed : Keyed) → ¬ (table.key ≡ []) → CarriesKey table keyed → is_whole keyed.key ≡ true
whole_key table keyed has carries = whole_if keyed.key (λ none. has (no_places (value_at keyed.row) table.key (sym carries.own ∙ none))) carries.no_null

-- one of the rows was put in, or it stood, and none was put in its place
data Came (rows : List Stored) (role_privileges : List (RowId × Keyed)) (id : RowId) (keyed : Keyed) : Type 0 where
  Put : StandsAt (entries rows) id keyed → Came rows role_privileges id keyed
  Stood : StandsAt role_privileges id keyed → has_number rows id ≡ false → Came rows role_privileges id keyed

came_if : (new : Option Keyed) (rows : List Stored) (role_privileges : List (RowId × Keyed)) (id : RowId) (keyed : Keyed) → found id (entries rows) ≡ new → option_or new (found id role_privileges) ≡ Some keyed → Came rows role_privileges id keyed
came_if (Some first) rows role_privileges id keyed is stands = Put (is ∙ stands)
came_if None rows role_privileges id keyed is stands = Stood stands (none_has id rows is)

-- each row is there by one of the two
came : (rows : List Stored) (role_privileges : List (RowId × Keyed)) (id : RowId) (keyed : Keyed) → Apart rows → StandsAt (with_rows rows role_privileges) id keyed → Came rows role_privileges id keyed
came rows role_privileges id keyed apart stands = came_if (found id (entries rows)) rows role_privileges id keyed refl (sym (found_with id rows role_privileges apart) ∙ stands)

came_carries : (table : TableDef) (replaced rows : List Stored) (role_privileges : List (RowId × Keyed)) (id : RowId) (keyed : Keyed) → AreSound table role_privileges → MayStand table replaced rows role_privileges
    → Came rows role_privileges id keyed → CarriesKey table keyed
came_carries table replaced rows role_privileges id keyed sound may (Put stands) = all_found (CarriesKey table) id rows keyed may.carried stands
came_carries table replaced rows role_privileges id keyed sound may (Stood stands none) = sound.carried id keyed stands

-- a row that was put in, and one that stood: their keys differ
not_beside : (table : TableDef) (replaced rows : List Stored) (role_privileges : List (RowId × Keyed)) (id other : RowId) (keyed same : Keyed) → MayStand table replaced rows role_privileges → ¬ (table.key ≡ [])
    → StandsAt (entries rows) id keyed → StandsAt role_privileges other same → has_number rows other ≡ false → keyed.key ≡ same.key → ⊥
not_beside table replaced rows role_privileges id other keyed same may has put stood none is =
    let whole : is_whole keyed.key ≡ true = whole_key table keyed has (all_found (CarriesKey table) id rows keyed may.carried put) in
    let free : stays_any replaced (with_key keyed.key (map stored_of role_privileges)) ≡ false =
    all_found (λ k. is_whole k.key ≡ true → stays_any replaced (with_key k.key (map stored_of role_privileges)) ≡ false) id rows keyed may.free put whole in
    true≢false (sym (may.replaces other (is_replaced other keyed.key replaced role_privileges same (sym is) stood free)) ∙ none)

came_unique : (table : TableDef) (replaced rows : List Stored) (role_privileges : List (RowId × Keyed)) (id other : RowId) (keyed same : Keyed) → AreSound table role_privileges → MayStand table replaced rows role_privileges
    → ¬ (table.key ≡ []) → Came rows role_privileges id keyed → Came rows role_privileges other same → keyed.key ≡ same.key → id ≡ other
came_unique table replaced rows role_privileges id other keyed same sound may has (Put first) (Put second) is =
    one_new id other rows keyed same may.once first second is (whole_key table keyed has (all_found (CarriesKey table) id rows keyed may.carried first))
came_unique table replaced rows role_privileges id other keyed same sound may has (Put first) (Stood second none) is = absurd (not_beside table replaced rows role_privileges id other keyed same may has first second none is)
came_unique table replaced rows role_privileges id other keyed same sound may has (Stood first none) (Put second) is = absurd (not_beside table replaced rows role_privileges other id same keyed may has second first none (sym is))
came_unique table replaced rows role_privileges id other keyed same sound may has (Stood first _) (Stood second _) is = sound.unique has id other keyed same first second is

-- the rows of a table are sound with them
pub written_sound : (table : TableDef) (replaced rows : List Stored) (role_privileges : List (RowId × Keyed)) → AreSound table role_privileges → MayStand table replaced rows role_privileges → AreSound table (with_rows rows role_privileges)
written_sound table replaced rows role_privileges sound may = record {
  key = sound.key;
  ordered = with_rows_ascend rows role_privileges sound.ordered;
  carried = λ id keyed stands. came_carries table replaced rows role_privileges id keyed sound may (came rows role_privileges id keyed may.apart stands);
  unique = λ has id other keyed same first second is. came_unique table replaced rows role_privileges id other keyed same sound may has
      (came rows role_privileges id keyed may.apart first) (came rows role_privileges other same may.apart second) is;
}

-- ---- rows that go

-- rows of a table with others taken out, one after another
abbrev pub without_rows : List Stored → List (RowId × Keyed) → List (RowId × Keyed)
without_rows [] role_privileges = role_privileges
without_rows (stored ∷ rows) role_privileges = without_rows rows (remove_entry (is_at (id_order stored.id)) role_privileges)

without_ascend : (rows : List Stored) (role_privileges : List (RowId × Keyed)) → Ascend role_privileges → Ascend (without_rows rows role_privileges)
without_ascend [] role_privileges ascend = ascend
without_ascend (stored ∷ rows) role_privileges ascend = without_ascend rows (remove_entry (is_at (id_order stored.id)) role_privileges) (gone_ascends stored.id role_privileges ascend)

-- what is left stood before
left_stood : (id : RowId) (keyed : Keyed) (rows : List Stored) (role_privileges : List (RowId × Keyed)) → Ascend role_privileges → StandsAt (without_rows rows role_privileges) id keyed → StandsAt role_privileges id keyed
left_stood id keyed [] role_privileges ascend stands = stands
left_stood id keyed (stored ∷ rows) role_privileges ascend stands =
    found_gone id stored.id keyed role_privileges ascend (left_stood id keyed rows (remove_entry (is_at (id_order stored.id)) role_privileges) (gone_ascends stored.id role_privileges ascend) stands)

-- the rows of a table are sound without them
pub left_sound : (table : TableDef) (rows : List Stored) (role_privileges : List (RowId × Keyed)) → AreSound table role_privileges → AreSound table (without_rows rows role_privileges)
left_sound table rows role_privileges sound = record {
  key = sound.key;
  ordered = without_ascend rows role_privileges sound.ordered;
  carried = λ id keyed stands. sound.carried id keyed (left_stood id keyed rows role_privileges sound.ordered stands);
  unique = λ has id other keyed same first second is. sound.unique has id other keyed same (left_stood id keyed rows role_privileges sound.ordered first) (left_stood other same rows role_privileges sound.ordered second) is;
}
