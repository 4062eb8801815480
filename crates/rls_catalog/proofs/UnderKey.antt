-- What an index has from a key on begins with the numbers of the rows that have the key.
use Rattle.std.specs.Prelude.{◌≡◌, refl, ℕ, zero, suc, List, [], ◌∷◌, ◌++◌, Option, Some, None, Bool, true, false, not, ◌&&◌, cond, is_some, map}
use Rattle.std.specs.BTreeMap.{is_at}
use Rattle.std.specs.{Cmp.nat_cmp_is, Map.lookup, Map.keys_of, List.AllByRecursion, List.Sorted.IsStrictlySortedBy, declared.cmp.Ordering.Ordering}
use Rattle.std.specs.declared.cmp.Ordering.TheVariants.{Less, Equal, Greater}
use Rattle.std.specs.Ordering.{is_eq, is_le, nat_cmp, ordering_then}
use Rattle.std.proofs.Common.{ap, sym, ◌∙◌, arith, append_assoc}
use Rattle.std.proofs.lemmas.List.{append-nil}
use Rattle.std.proofs.{lemmas.Bool.true≢false, lemmas.Map.lookup-none, lemmas.Map.Entries.none_below_head, lemmas.Map.Keys.sorted_tail, lemmas.Map.Keys.sorted_head}
use Rattle.rls_expr.specs.rls_value.specs.{declared.row.RowId.RowId, declared.value.Value.Value, Listing.rows_total}
use Rattle.shared_map.specs.Entries.{entries_from, is_reached}
use Rattle.rls_catalog.specs.{declared.index_key.IndexKey.IndexKey, declared.stored.Keyed.Keyed, declared.stored.Stored.Stored, InOrder.Ascend, State.id_order, State.is_same_row, State.stored_of, State.with_key}
use Rattle.rls_catalog.specs.KeyIndex.{Indexes, has_key, ids_under, index_order, is_among, is_empty_key, is_indexed, key_order, picked, with_key_at}
use Rattle.rls_catalog.proofs.{IndexLemmas.index_total, KeyIndexLemmas.own_key, Picking.picked_all, SameRows.same_row}

no : {A : Type 0} → false ≡ true → A
no is = absurd (true≢false (sym is))

-- ---- they ascend

less_after : (o p : Ordering) → ordering_then o p ≡ Less → o ≡ Equal → p ≡ Less
less_after Less p less tie = absurd (true≢false (sym (ap is_eq tie)))
less_after Equal p less tie = less
less_after Greater p less tie = absurd (true≢false (sym (ap is_eq tie)))

is_tie : (o : Ordering) → is_eq o ≡ true → o ≡ Equal
is_tie Less is = no is
is_tie Equal is = refl
is_tie Greater is = no is

-- the entry has the key
abbrev Has : List Value → IndexKey → Bool
Has key entry = is_at (key_order key) entry.key

tied_keys : (key : List Value) (e f : IndexKey) → Has key e ≡ true → Has key f ≡ true → key_order e.key f.key ≡ Equal
tied_keys key e f here there = sym (rows_total.congr key e.key f.key (is_tie (key_order key e.key) here)) ∙ is_tie (key_order key f.key) there

above_if : (b : Bool) (id other : RowId) (ids : List (RowId × Unit {0})) → (b ≡ true → id_order id other ≡ Less) → AllByRecursion (λ i. id_order id i ≡ Less) (keys_of ids)
    → AllByRecursion (λ i. id_order id i ≡ Less) (keys_of (cond b ((other, tt) ∷ ids) []))
above_if true id other ids less all = (less refl, all)
above_if false id other ids less all = tt

above : (key : List Value) (e : IndexKey) (es : List (IndexKey × Unit {0})) → Has key e ≡ true → AllByRecursion (λ f. index_order e f ≡ Less) (keys_of es)
    → AllByRecursion (λ i. id_order e.id i ≡ Less) (keys_of (ids_under key es))
above key e [] has all = tt
above key e (f ∷ es) has all =
    above_if (Has key f.0) e.id f.0.id (ids_under key es) (λ there. less_after (key_order e.key f.0.key) (id_order e.id f.0.id) all.0 (tied_keys key e f.0 has there)) (above key e es has all.1)

ascend_if : (b : Bool) (id : RowId) (ids : List (RowId × Unit {0})) → (b ≡ true → AllByRecursion (λ i. id_order id i ≡ Less) (keys_of ids)) → IsStrictlySortedBy id_order (keys_of ids)
    → IsStrictlySortedBy id_order (keys_of (cond b ((id, tt) ∷ ids) []))
unfolding IsStrictlySortedBy
ascend_if true id ids all sorted = (all refl, sorted)
ascend_if false id ids all sorted = tt

none_ascend : IsStrictlySortedBy id_order []
unfolding IsStrictlySortedBy
none_ascend = tt

ids_ascend : (key : List Value) (es : List (IndexKey × Unit {0})) → IsStrictlySortedBy index_order (keys_of es) → IsStrictlySortedBy id_order (keys_of (ids_under key es))
ids_ascend key [] sorted = none_ascend
ids_ascend key (e ∷ es) sorted =
    ascend_if (Has key e.0) e.0.id (ids_under key es) (λ has. above key e.0 es has (sorted_head index_order e.0 (keys_of es) sorted))
    (ids_ascend key es (sorted_tail index_order e.0 (keys_of es) sorted))

-- ---- none of the key's is left out

-- the first entry isn't one before the key
abbrev Begins : List Value → List (IndexKey × Unit {0}) → Type 0
Begins key [] = Unit {0}
Begins key (e ∷ es) = key_order key e.0.key ≡ Greater → ⊥

not_greater : (o p : Ordering) → ordering_then o p ≡ Less → o ≡ Greater → ⊥
not_greater Less p less greater = true≢false (sym (ap is_le (sym greater)) ∙ refl)
not_greater Equal p less greater = true≢false (sym (ap is_le (sym greater)) ∙ refl)
not_greater Greater p less greater = true≢false (ap is_le (sym less))

begins_next : (key : List Value) (e : IndexKey) (es : List (IndexKey × Unit {0})) → key_order key e.key ≡ Equal → AllByRecursion (λ f. index_order e f ≡ Less) (keys_of es) → Begins key es
begins_next key e [] tie all = tt
begins_next key e (f ∷ es) tie all = λ greater. not_greater (key_order e.key f.0.key) (id_order e.id f.0.id) all.0 (sym (rows_total.congr key e.key f.0.key tie) ∙ greater)

found_if : (b : Bool) (u : Unit {0}) (rest more : Option (Unit {0})) → (is_some rest ≡ true → is_some more ≡ true) → is_some (cond b (Some u) rest) ≡ true → is_some (cond b (Some tt) more) ≡ true
found_if true u rest more next is = refl
found_if false u rest more next is = next is

covered_if : (o : Ordering) (key : List Value) (id : RowId) (e : IndexKey × Unit {0}) (es : List (IndexKey × Unit {0})) → key_order key e.0.key ≡ o → IsStrictlySortedBy index_order (keys_of (e ∷ es)) → Begins key (e ∷ es)
    → is_indexed (e ∷ es) key id ≡ true → (Begins key es → is_indexed es key id ≡ true → is_among (ids_under key es) id ≡ true) → is_among (ids_under key (e ∷ es)) id ≡ true
covered_if Less key id e es tie sorted begins is next =
    let less : index_order (record { key = key; id = id }) e.0 ≡ Less = ap (λ o. ordering_then o (id_order id e.0.id)) tie in
    no (sym (ap is_some (lookup-none (is_at (index_order (record { key = key; id = id }))) (e ∷ es) (none_below_head index_total (record { key = key; id = id }) e es sorted less))) ∙ is)
covered_if Equal key id e es tie sorted begins is next =
    ap (λ o. is_among (cond (is_eq o) ((e.0.id, tt) ∷ ids_under key es) []) id) tie
    ∙ found_if (is_at (id_order id) e.0.id) e.1 (lookup (is_at (index_order (record { key = key; id = id }))) es) (lookup (is_at (id_order id)) (ids_under key es))
    (next (begins_next key e.0 es tie (sorted_head index_order e.0 (keys_of es) sorted)))
    (sym (ap (λ o. is_some (cond (is_eq (ordering_then o (id_order id e.0.id))) (Some e.1) (lookup (is_at (index_order (record { key = key; id = id }))) es))) tie) ∙ is)
covered_if Greater key id e es tie sorted begins is next = absurd (begins tie)

covered : (key : List Value) (id : RowId) (es : List (IndexKey × Unit {0})) → IsStrictlySortedBy index_order (keys_of es) → Begins key es → is_indexed es key id ≡ true → is_among (ids_under key es) id ≡ true
covered key id [] sorted begins is = no is
covered key id (e ∷ es) sorted begins is = covered_if (key_order key e.0.key) key id e es refl sorted begins is (covered key id es (sorted_tail index_order e.0 (keys_of es) sorted))

-- ---- from the key on

-- the first number
abbrev pub first_id : RowId
first_id = record { txn = 0; n = 0 }

-- what the entries of a key begin at
abbrev pub first_of : List Value → IndexKey
first_of key = record { key = key; id = first_id }

-- the entries from the key on
abbrev pub behind : List Value → List (IndexKey × Unit {0}) → List (IndexKey × Unit {0})
behind key es = entries_from (is_reached (index_order (first_of key)) false) es

zero_first : (n : ℕ) → is_le (nat_cmp 0 n) ≡ true
zero_first zero = ap is_le (sym (nat_cmp_is 0 0 Equal refl))
zero_first (suc n) = ap is_le (sym (nat_cmp_is 0 (suc n) Less (omega arith)))

then_le : (o p : Ordering) → is_le o ≡ true → is_le p ≡ true → is_le (ordering_then o p) ≡ true
then_le Less p first second = refl
then_le Equal p first second = second
then_le Greater p first second = first

first_is_first : (id : RowId) → is_le (id_order first_id id) ≡ true
first_is_first id = then_le (nat_cmp 0 id.txn) (nat_cmp 0 id.n) (zero_first id.txn) (zero_first id.n)

passed : (o p r : Ordering) → is_le (ordering_then o p) ≡ false → is_le p ≡ true → is_eq (ordering_then o r) ≡ false
passed Less p r is first = absurd (true≢false is)
passed Equal p r is first = absurd (true≢false (sym first ∙ is))
passed Greater p r is first = refl

further : (b : Bool) (u : Unit {0}) (rest : Option (Unit {0})) → b ≡ false → is_some (cond b (Some u) rest) ≡ true → is_some rest ≡ true
further true u rest past is = absurd (true≢false past)
further false u rest past is = is

behind_if : (b : Bool) (key : List Value) (id : RowId) (e : IndexKey × Unit {0}) (es : List (IndexKey × Unit {0})) → is_le (index_order (first_of key) e.0) ≡ b → IsStrictlySortedBy index_order (keys_of (e ∷ es))
    → is_indexed (e ∷ es) key id ≡ true → (is_indexed es key id ≡ true → is_among (ids_under key (behind key es)) id ≡ true) → is_among (ids_under key (cond b (e ∷ es) (behind key es))) id ≡ true
behind_if true key id e es reached sorted is next =
    covered key id (e ∷ es) sorted (λ greater. true≢false (sym reached ∙ ap (λ o. is_le (ordering_then o (id_order first_id e.0.id))) greater)) is
behind_if false key id e es reached sorted is next =
    next (further (is_at (index_order (record { key = key; id = id })) e.0) e.1 (lookup (is_at (index_order (record { key = key; id = id }))) es)
    (passed (key_order key e.0.key) (id_order first_id e.0.id) (id_order id e.0.id) reached (first_is_first e.0.id)) is)

covered_behind : (key : List Value) (id : RowId) (es : List (IndexKey × Unit {0})) → IsStrictlySortedBy index_order (keys_of es) → is_indexed es key id ≡ true → is_among (ids_under key (behind key es)) id ≡ true
covered_behind key id [] sorted is = no is
covered_behind key id (e ∷ es) sorted is =
    behind_if (is_le (index_order (first_of key) e.0)) key id e es refl sorted is (covered_behind key id es (sorted_tail index_order e.0 (keys_of es) sorted))

none_sorted : IsStrictlySortedBy index_order []
unfolding IsStrictlySortedBy
none_sorted = tt

behind_ascend_if : (b : Bool) (es rest : List (IndexKey × Unit {0})) → IsStrictlySortedBy index_order (keys_of es) → IsStrictlySortedBy index_order (keys_of rest) → IsStrictlySortedBy index_order (keys_of (cond b es rest))
behind_ascend_if true es rest sorted sorted_rest = sorted
behind_ascend_if false es rest sorted sorted_rest = sorted_rest

behind_ascend : (key : List Value) (es : List (IndexKey × Unit {0})) → IsStrictlySortedBy index_order (keys_of es) → IsStrictlySortedBy index_order (keys_of (behind key es))
behind_ascend key [] sorted = none_sorted
behind_ascend key (e ∷ es) sorted =
    behind_ascend_if (is_le (index_order (first_of key) e.0)) (e ∷ es) (behind key es) sorted (behind_ascend key es (sorted_tail index_order e.0 (keys_of es) sorted))

-- ---- the rows with the key

both : (a b : Bool) → a ≡ false → b ≡ true → (not a && b) ≡ true
both true b none is = absurd (true≢false none)
both false b none is = is

-- the rows with a key are those of the numbers with which the index begins from the key on
pub picked_behind : (key : List Value) (rows : List (RowId × Keyed)) (index : List (IndexKey × Unit {0})) → is_empty_key key ≡ false → Ascend rows → IsStrictlySortedBy index_order (keys_of index) → Indexes index rows
    → picked key rows (ids_under key (behind key index)) ≡ with_key key (map stored_of rows)
picked_behind key rows index some ascend sorted indexes =
    picked_all key rows (ids_under key (behind key index)) ascend (ids_ascend key (behind key index) (behind_ascend key index sorted))
    (λ id keyed found same. covered_behind key id index sorted
    (indexes key id ∙ ap (has_key key) found ∙ both (is_empty_key key) (is_at (key_order key) keyed.key) some (ap (λ k. is_at (key_order key) k) (same_row keyed.key key same) ∙ own_key key)))

-- ---- one number after another

not_false : (b : Bool) → not b ≡ false → b ≡ true
not_false true is = refl
not_false false is = absurd (true≢false is)

not_true : (b : Bool) → not b ≡ true → b ≡ false
not_true true is = sym is
not_true false is = refl

-- an entry of the key has the next number
next_id : (key : List Value) (rows : List (RowId × Keyed)) (e : IndexKey × Unit {0}) (es : List (IndexKey × Unit {0})) → not (is_at (key_order key) e.0.key) ≡ false
    → picked key rows (ids_under key (e ∷ es)) ≡ with_key_at key e.0.id (lookup (is_at (id_order e.0.id)) rows) ++ picked key rows (ids_under key es)
next_id key rows e es has = ap (λ b. picked key rows (cond b ((e.0.id, tt) ∷ ids_under key es) [])) (not_false (is_at (key_order key) e.0.key) has)

-- the row of the next number is taken
pub taken : (found : List Stored) (key : List Value) (rows : List (RowId × Keyed)) (e : IndexKey × Unit {0}) (es : List (IndexKey × Unit {0})) (keyed : Keyed) (all : List Stored)
    → not (is_at (key_order key) e.0.key) ≡ false → lookup (is_at (id_order e.0.id)) rows ≡ Some keyed → is_same_row keyed.key key ≡ true → found ++ picked key rows (ids_under key (e ∷ es)) ≡ all
    → (found ++ stored_of (e.0.id, keyed) ∷ []) ++ picked key rows (ids_under key es) ≡ all
taken found key rows e es keyed all has there same whole =
    append_assoc found (stored_of (e.0.id, keyed) ∷ []) (picked key rows (ids_under key es))
    ∙ sym (ap (λ l. found ++ l) (next_id key rows e es has
    ∙ ap (λ row. with_key_at key e.0.id row ++ picked key rows (ids_under key es)) there
    ∙ ap (λ b. cond b (stored_of (e.0.id, keyed) ∷ []) [] ++ picked key rows (ids_under key es)) same))
    ∙ whole

-- one that hasn't the key is left out
pub left_out : (found : List Stored) (key : List Value) (rows : List (RowId × Keyed)) (e : IndexKey × Unit {0}) (es : List (IndexKey × Unit {0})) (keyed : Keyed) (all : List Stored)
    → not (is_at (key_order key) e.0.key) ≡ false → lookup (is_at (id_order e.0.id)) rows ≡ Some keyed → is_same_row keyed.key key ≡ false → found ++ picked key rows (ids_under key (e ∷ es)) ≡ all
    → found ++ picked key rows (ids_under key es) ≡ all
left_out found key rows e es keyed all has there other whole =
    sym (ap (λ l. found ++ l) (next_id key rows e es has
    ∙ ap (λ row. with_key_at key e.0.id row ++ picked key rows (ids_under key es)) there
    ∙ ap (λ b. cond b (stored_of (e.0.id, keyed) ∷ []) [] ++ picked key rows (ids_under key es)) other))
    ∙ whole

-- and so is one that isn't there
pub absent : (found : List Stored) (key : List Value) (rows : List (RowId × Keyed)) (e : IndexKey × Unit {0}) (es : List (IndexKey × Unit {0})) (all : List Stored)
    → not (is_at (key_order key) e.0.key) ≡ false → lookup (is_at (id_order e.0.id)) rows ≡ None → found ++ picked key rows (ids_under key (e ∷ es)) ≡ all
    → found ++ picked key rows (ids_under key es) ≡ all
absent found key rows e es all has none whole =
    sym (ap (λ l. found ++ l) (next_id key rows e es has ∙ ap (λ row. with_key_at key e.0.id row ++ picked key rows (ids_under key es)) none)) ∙ whole

-- behind the first entry with another key there is no more
pub ended : (found : List Stored) (key : List Value) (rows : List (RowId × Keyed)) (e : IndexKey × Unit {0}) (es : List (IndexKey × Unit {0})) (all : List Stored)
    → not (is_at (key_order key) e.0.key) ≡ true → found ++ picked key rows (ids_under key (e ∷ es)) ≡ all → found ≡ all
ended found key rows e es all other whole =
    sym (append-nil found)
    ∙ sym (ap (λ b. found ++ picked key rows (cond b ((e.0.id, tt) ∷ ids_under key es) [])) (not_true (is_at (key_order key) e.0.key) other))
    ∙ whole
