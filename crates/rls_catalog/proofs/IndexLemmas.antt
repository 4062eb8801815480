-- An index of the rows of a table after a change of one of them, and what it has under a key.
use Rattle.std.specs.Prelude.{◌≡◌, refl, List, [], ◌∷◌, Option, Some, None, Bool, true, false, not, ◌&&◌, cond, is_some}
use Rattle.std.specs.BTreeMap.{is_at, insert_entry}
use Rattle.std.specs.{Cmp.IsTotalOrder, Map.lookup, Map.keys_of, Map.remove_entry, List.Sorted.IsStrictlySortedBy, declared.cmp.Ordering.Ordering}
use Rattle.std.specs.declared.cmp.Ordering.TheVariants.{Less, Equal, Greater}
use Rattle.std.specs.Ordering.{is_eq, match_ordering, ordering_then}
use Rattle.std.proofs.Common.{ap, sym, ◌∙◌}
use Rattle.std.proofs.{lemmas.Bool.true≢false, lemmas.Map.lookup-remove_entry, lemmas.Map.Keys.IsDistinct-from_sorted}
use Rattle.std.proofs.lemmas.Cmp.{eq_by_cmp_equiv, on_total, then_total}
use Rattle.rls_expr.specs.rls_value.specs.{declared.row.RowId.RowId, declared.value.Value.Value, Listing.rows_total}
use Rattle.rls_catalog.specs.{declared.index_key.IndexKey.IndexKey, declared.stored.Keyed.Keyed, Changed.with_row, InOrder.Ascend, State.id_order}
use Rattle.rls_catalog.specs.KeyIndex.{InKeyOrder, Indexes, Reindexed, has_key, index_order, is_empty_key, is_indexed, key_order}
use Rattle.rls_catalog.proofs.{Places.id_total, KeyIndexLemmas.key_turned, KeyIndexLemmas.same_key, KeyIndexLemmas.same_number}

no : {A : Type 0} → false ≡ true → A
no is = absurd (true≢false (sym is))

-- ---- what is found in a map after a change

twice : {X : Type 0} (b d : Bool) (v w rest : X) → b ≡ d → cond d v rest ≡ cond b v (cond d w rest)
twice true true v w rest same = refl
twice true false v w rest same = absurd (true≢false same)
twice false true v w rest same = no same
twice false false v w rest same = refl

turned : {X : Type 0} (b d : Bool) (v w rest : X) → (b ≡ true → d ≡ true → false ≡ true) → cond d w (cond b v rest) ≡ cond b v (cond d w rest)
turned true true v w rest apart = no (apart refl refl)
turned true false v w rest apart = refl
turned false true v w rest apart = refl
turned false false v w rest apart = refl

put_if : {K X : Type 0} {order : K → K → Ordering} (total : IsTotalOrder order) (o : Ordering) (q k : K) (v : X) (e : K × X) (es more : List (K × X)) → order k e.0 ≡ o
    → lookup (is_at (order q)) more ≡ cond (is_at (order q) k) (Some v) (lookup (is_at (order q)) es)
    → lookup (is_at (order q)) (match_ordering o ((k, v) ∷ e ∷ es) ((e.0, v) ∷ es) (e ∷ more)) ≡ cond (is_at (order q) k) (Some v) (lookup (is_at (order q)) (e ∷ es))
put_if total Less q k v e es more is further = refl
put_if {order = order} total Equal q k v e es more is further =
    twice (is_at (order q) k) (is_at (order q) e.0) (Some v) (Some e.1) (lookup (is_at (order q)) es)
    ((eq_by_cmp_equiv total).symm q k ∙ (eq_by_cmp_equiv total).congr k e.0 q (ap is_eq is) ∙ (eq_by_cmp_equiv total).symm e.0 q)
put_if {order = order} total Greater q k v e es more is further =
    ap (cond (is_at (order q) e.0) (Some e.1)) further
    ∙ turned (is_at (order q) k) (is_at (order q) e.0) (Some v) (Some e.1) (lookup (is_at (order q)) es)
    (λ here there. sym (ap is_eq is) ∙ sym ((eq_by_cmp_equiv total).congr q k e.0 here) ∙ there)

put : {K X : Type 0} {order : K → K → Ordering} (total : IsTotalOrder order) (q k : K) (v : X) (es : List (K × X))
    → lookup (is_at (order q)) (insert_entry order es k v) ≡ cond (is_at (order q) k) (Some v) (lookup (is_at (order q)) es)
put total q k v [] = refl
put {order = order} total q k v (e ∷ es) = put_if total (order k e.0) q k v e es (insert_entry order es k v) refl (put total q k v es)

-- what is found where an entry was put in
pub found_put : {K X : Type 0} {order : K → K → Ordering} (total : IsTotalOrder order) (q k : K) (v : X) (es : List (K × X))
    → lookup (is_at (order q)) (insert_entry order es k v) ≡ cond (is_at (order k) q) (Some v) (lookup (is_at (order q)) es)
found_put {order = order} total q k v es = put total q k v es ∙ ap (λ b. cond b (Some v) (lookup (is_at (order q)) es)) ((eq_by_cmp_equiv total).symm q k)

-- what is found where one was taken out
pub found_removed : {K X : Type 0} {order : K → K → Ordering} (total : IsTotalOrder order) (q k : K) (es : List (K × X)) → IsStrictlySortedBy order (keys_of es)
    → lookup (is_at (order q)) (remove_entry (is_at (order k)) es) ≡ cond (is_at (order k) q) None (lookup (is_at (order q)) es)
found_removed {order = order} total q k es sorted =
    lookup-remove_entry (eq_by_cmp_equiv total) (is_at (order k)) (λ x y same. (eq_by_cmp_equiv total).congr k x y same) q es (IsDistinct-from_sorted order (keys_of es) sorted)

-- a row that is put at a number, or taken away there
rows_found : (id other : RowId) (content : Option Keyed) (rows : List (RowId × Keyed)) → Ascend rows
    → lookup (is_at (id_order other)) (with_row id content rows) ≡ cond (is_at (id_order id) other) content (lookup (is_at (id_order other)) rows)
rows_found id other (Some keyed) rows sorted = found_put id_total other id keyed rows
rows_found id other None rows sorted = found_removed id_total other id rows sorted

-- ---- an index of rows

-- an index is in a total order
pub index_total : IsTotalOrder index_order
index_total = then_total (on_total (λ e. e.key) rows_total) (on_total (λ e. e.id) id_total)

-- no rows have no index
pub none_indexes : Indexes [] []
none_indexes key id = refl

pub none_in_order : InKeyOrder []
unfolding IsStrictlySortedBy
none_in_order = tt

chosen : (b : Bool) (key : List Value) (content there : Option Keyed) → cond b (has_key key content) (has_key key there) ≡ has_key key (cond b content there)
chosen true key content there = refl
chosen false key content there = refl

-- the index after a change has just the keys of the rows after it
pub indexes_with : (id : RowId) (content : Option Keyed) (rows : List (RowId × Keyed)) (index after : List (IndexKey × Unit {0})) → Ascend rows → Indexes index rows → Reindexed id content index after
    → Indexes after (with_row id content rows)
indexes_with id content rows index after sorted indexes came key other =
    came key other
    ∙ ap (cond (is_at (id_order id) other) (has_key key content)) (indexes key other)
    ∙ chosen (is_at (id_order id) other) key content (lookup (is_at (id_order other)) rows)
    ∙ ap (has_key key) (sym (rows_found id other content rows sorted))

at_number_if : (b c d : Bool) → (b ≡ true → d ≡ c) → d ≡ cond b c d
at_number_if true c d is = is refl
at_number_if false c d is = refl

-- where the number stands under the key of the content already, nothing has to be done
pub stays : (id : RowId) (content : Option Keyed) (index : List (IndexKey × Unit {0})) → ((key : List Value) → is_indexed index key id ≡ has_key key content) → Reindexed id content index index
stays id content index stood key other =
    at_number_if (is_at (id_order id) other) (has_key key content) (is_indexed index key other)
    (λ same. ap (is_indexed index key) (sym (same_number id other same)) ∙ stood key)

-- the same key
pub like : (key : List Value) (before after : Keyed) → before.key ≡ after.key → has_key key (Some before) ≡ has_key key (Some after)
like key before after same = ap (λ k. not (is_empty_key key) && is_at (key_order key) k) same

and_none : (a b : Bool) → (b ≡ true → a ≡ false) → (a && b) ≡ false
and_none true true no = absurd (true≢false (no refl))
and_none true false no = refl
and_none false b no = refl

-- no key is that of a row without one
pub empty_has_none : (key : List Value) (keyed : Keyed) → is_empty_key keyed.key ≡ true → has_key key (Some keyed) ≡ false
empty_has_none key keyed empty =
    and_none (not (is_empty_key key)) (is_at (key_order key) keyed.key) (λ same. ap (λ k. not (is_empty_key k)) (same_key key keyed.key same) ∙ ap not empty)

then_tie : (o p : Ordering) → is_eq (ordering_then o p) ≡ (is_eq o && is_eq p)
then_tie Less p = refl
then_tie Equal p = refl
then_tie Greater p = refl

-- whether it is that number under that key
is_entry : (key : List Value) (id : RowId) (k : List Value) (other : RowId) → is_at (index_order (record { key = key; id = id })) (record { key = k; id = other }) ≡ (is_at (key_order key) k && is_at (id_order id) other)
is_entry key id k other = then_tie (key_order key k) (id_order id other)

-- ---- the number of a row that goes

none_if : (b : Bool) (rest : Option (Unit {0})) → is_some (cond b None rest) ≡ cond b false (is_some rest)
none_if true rest = refl
none_if false rest = refl

left_if : (a b c : Bool) → (b ≡ true → a ≡ false → c ≡ false) → cond (a && b) false c ≡ cond b false c
left_if true true c is = refl
left_if true false c is = refl
left_if false true c is = is refl refl
left_if false false c is = refl

and_last : (a b : Bool) → b ≡ false → (a && b) ≡ false
and_last true b is = is
and_last false b is = refl

-- a number is taken out under its key
pub left : (id : RowId) (keyed : Keyed) (index : List (IndexKey × Unit {0})) → InKeyOrder index → ((key : List Value) → is_indexed index key id ≡ has_key key (Some keyed))
    → Reindexed id None index (remove_entry (is_at (index_order (record { key = keyed.key; id = id }))) index)
left id keyed index sorted stood key other =
    ap is_some (found_removed index_total (record { key = key; id = other }) (record { key = keyed.key; id = id }) index sorted)
    ∙ none_if (is_at (index_order (record { key = keyed.key; id = id })) (record { key = key; id = other })) (lookup (is_at (index_order (record { key = key; id = other }))) index)
    ∙ ap (λ b. cond b false (is_indexed index key other)) (is_entry keyed.key id key other)
    ∙ left_if (is_at (key_order keyed.key) key) (is_at (id_order id) other) (is_indexed index key other)
    (λ same apart. ap (is_indexed index key) (sym (same_number id other same)) ∙ stood key ∙ and_last (not (is_empty_key key)) (is_at (key_order key) keyed.key) (key_turned key keyed.key ∙ apart))

-- ---- the number of a row that comes

some_if : (b : Bool) (rest : Option (Unit {0})) → is_some (cond b (Some tt) rest) ≡ cond b true (is_some rest)
some_if true rest = refl
some_if false rest = refl

came_if : (a b c h : Bool) → (b ≡ true → (c ≡ false) × (h ≡ a)) → cond (a && b) true c ≡ cond b h c
came_if true true c h is = sym (is refl).1
came_if true false c h is = refl
came_if false true c h is = (is refl).0 ∙ sym (is refl).1
came_if false false c h is = refl

not_empty_if : (a b : Bool) → (b ≡ true → a ≡ true) → (a && b) ≡ b
not_empty_if true b is = refl
not_empty_if false true is = is refl
not_empty_if false false is = refl

-- a number is put in under its key
pub came : (id : RowId) (keyed : Keyed) (index : List (IndexKey × Unit {0})) → is_empty_key keyed.key ≡ false → ((key : List Value) → is_indexed index key id ≡ false)
    → Reindexed id (Some keyed) index (insert_entry index_order index (record { key = keyed.key; id = id }) tt)
came id keyed index some gone key other =
    ap is_some (found_put index_total (record { key = key; id = other }) (record { key = keyed.key; id = id }) tt index)
    ∙ some_if (is_at (index_order (record { key = keyed.key; id = id })) (record { key = key; id = other })) (lookup (is_at (index_order (record { key = key; id = other }))) index)
    ∙ ap (λ b. cond b true (is_indexed index key other)) (is_entry keyed.key id key other)
    ∙ came_if (is_at (key_order keyed.key) key) (is_at (id_order id) other) (is_indexed index key other) (has_key key (Some keyed))
    (λ same. (
      ap (is_indexed index key) (sym (same_number id other same)) ∙ gone key,
      not_empty_if (not (is_empty_key key)) (is_at (key_order key) keyed.key) (λ tie. ap (λ k. not (is_empty_key k)) (same_key key keyed.key tie) ∙ ap not some) ∙ key_turned key keyed.key,
    ))

-- ---- one after the other

twice_at : (b h : Bool) (c : Bool) → cond b h (cond b false c) ≡ cond b h c
twice_at true h c = refl
twice_at false h c = refl

-- first the one goes, then the other comes
pub gone_and_came : (id : RowId) (content : Option Keyed) (index between after : List (IndexKey × Unit {0})) → Reindexed id None index between → Reindexed id content between after → Reindexed id content index after
gone_and_came id content index between after first second key other =
    second key other ∙ ap (cond (is_at (id_order id) other) (has_key key content)) (first key other) ∙ twice_at (is_at (id_order id) other) (has_key key content) (is_indexed index key other)

own_if : (b c d : Bool) → b ≡ true → cond b c d ≡ c
own_if true c d is = refl
own_if false c d is = no is

-- nothing stands where the one has gone
pub none_between : (id : RowId) (index between : List (IndexKey × Unit {0})) → Reindexed id None index between → is_at (id_order id) id ≡ true → (key : List Value) → is_indexed between key id ≡ false
none_between id index between first own key = first key id ∙ own_if (is_at (id_order id) id) false (is_indexed index key id) own
