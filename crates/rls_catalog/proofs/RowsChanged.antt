-- The rows of a table after a change of a row.
use Rattle.std.specs.Prelude.{◌≡◌, refl, ℕ, List, [], ◌∷◌, Option, Some, None, Bool, true, false, cond, filter, map, IsSome}
use Rattle.std.specs.BTreeMap.{is_at, insert_entry}
use Rattle.std.specs.Map.{lookup, remove_entry}
use Rattle.std.specs.Ordering.{is_eq, match_ordering, nat_cmp, ordering_then}
use Rattle.std.specs.{declared.cmp.Ordering.Ordering, FinMap.nat_cmp-IsAntisymmetric}
use Rattle.std.specs.declared.cmp.Ordering.TheVariants.{Less, Equal, Greater}
use Rattle.std.proofs.Common.{ap, sym, ◌∙◌, subst}
use Rattle.std.proofs.{lemmas.Bool.true≢false, lemmas.Map.lookup-set_value}
use Rattle.std.proofs.lemmas.Cmp.{eq_by_cmp_equiv, nat_list_cmp_total}
use Rattle.rls_expr.specs.rls_value.specs.declared.row.RowId.{RowId}
use Rattle.rls_catalog.specs.{declared.stored.Keyed.Keyed, declared.stored.Stored.Stored, declared.change.RowChange.RowChange, Bases.Fits, Changed.changed, Changed.with_row, Changed.with_row_in, State.State, State.id_order, State.name_order, State.at, State.or_none, State.stored_of, State.rows_of, State.entries_of, declared.change.Change.Change}
use Rattle.rls_catalog.proofs.ContentsLaws.{is_name, same_name, at_put}

put_in_if : (b : Bool) (id : RowId) (content : Option Keyed) (rows : List (RowId × Keyed)) (found : Option (List (RowId × Keyed))) → (b ≡ true → found ≡ Some rows)
    → or_none (cond b (Some (with_row id content rows)) found) ≡ cond b (with_row id content (or_none found)) (or_none found)
put_in_if true id content rows found same = ap (λ stood. with_row id content (or_none stood)) (sym (same refl))
put_in_if false id content rows found same = refl

put_first_if : (b : Bool) (id : RowId) (keyed : Keyed) (found : Option (List (RowId × Keyed))) → (b ≡ true → found ≡ None)
    → or_none (cond b (Some ((id, keyed) ∷ [])) found) ≡ cond b (with_row id (Some keyed) (or_none found)) (or_none found)
put_first_if true id keyed found same = ap (λ stood. with_row id (Some keyed) (or_none stood)) (sym (same refl))
put_first_if false id keyed found same = refl

put_none_if : (b : Bool) (id : RowId) (found : Option (List (RowId × Keyed))) → (b ≡ true → found ≡ None)
    → or_none found ≡ cond b (with_row id None (or_none found)) (or_none found)
put_none_if true id found same = ap or_none (same refl) ∙ ap (λ stood. with_row id None (or_none stood)) (sym (same refl))
put_none_if false id found same = refl

-- the same names are found alike
found_same : {X : Type 0} (q table : List ℕ) (tables : List (List ℕ × X)) (found : Option X) → at table tables ≡ found → is_name q table ≡ true → at q tables ≡ found
found_same q table tables found is same = ap (λ name. at name tables) (same_name q table same) ∙ is

name_turned : (name other : List ℕ) → is_name name other ≡ is_name other name
name_turned name other = (eq_by_cmp_equiv nat_list_cmp_total).symm name other

entries_if : (found : Option (List (RowId × Keyed))) (content : Option Keyed) (tables : List (List ℕ × List (RowId × Keyed))) (table : List ℕ) (id : RowId) (q : List ℕ) → at table tables ≡ found
    → or_none (at q (with_row_in table id content found tables)) ≡ cond (is_name q table) (with_row id content (or_none (at q tables))) (or_none (at q tables))
entries_if (Some rows) content tables table id q is =
    ap or_none (
    lookup-set_value (eq_by_cmp_equiv nat_list_cmp_total) (is_at (name_order table)) (λ x y same. (eq_by_cmp_equiv nat_list_cmp_total).congr table x y same) q (with_row id content rows) tables (subst IsSome (sym is) refl)
    ∙ ap (λ b. cond b (Some (with_row id content rows)) (at q tables)) (name_turned table q)
    )
    ∙ put_in_if (is_name q table) id content rows (at q tables) (found_same q table tables (Some rows) is)
entries_if None (Some keyed) tables table id q is =
    ap or_none (at_put q table ((id, keyed) ∷ []) tables) ∙ put_first_if (is_name q table) id keyed (at q tables) (found_same q table tables None is)
entries_if None None tables table id q is = put_none_if (is_name q table) id (at q tables) (found_same q table tables None is)

-- a change of a row puts the content at the number in its table, and leaves the other tables
pub entries_of_changed : (s : State) (change : RowChange) (q : List ℕ)
    → entries_of (changed s (Change.Row change)) q ≡ cond (is_name q change.table) (with_row change.id change.after (entries_of s q)) (entries_of s q)
entries_of_changed s change q = entries_if (at change.table s.rows) change.after s.rows change.table change.id q refl

-- ---- those of the rows that pass a test

-- there is such a row, and it passes the test
abbrev pub passes : (Stored → Bool) → RowId → Option Keyed → Bool
passes test id (Some keyed) = test (stored_of (id, keyed))
passes test id None = false

-- the row that the number finds in the list, and it passes
abbrev passes_at : (Stored → Bool) → RowId → List (RowId × Keyed) → Bool
passes_at test id rows = passes test id (lookup (is_at (id_order id)) rows)

abbrev passing : (Stored → Bool) → List (RowId × Keyed) → List Stored
passing test rows = filter test (map stored_of rows)

then_parts : (o p : Ordering) → ordering_then o p ≡ Equal → (o ≡ Equal) × (p ≡ Equal)
then_parts Less p is = absurd (true≢false (sym (ap is_eq is)))
then_parts Equal p is = (refl, is)
then_parts Greater p is = absurd (true≢false (sym (ap is_eq is)))

pub same_id : (id other : RowId) → id_order id other ≡ Equal → id ≡ other
same_id id other is =
    let parts = then_parts (nat_cmp id.txn other.txn) (nat_cmp id.n other.n) is in
    λ i. record { txn = nat_cmp-IsAntisymmetric id.txn other.txn parts.0 i; n = nat_cmp-IsAntisymmetric id.n other.n parts.1 i }

-- a row that doesn't pass isn't among those that do
left_out : (test : Stored → Bool) (entry : RowId × Keyed) (rows : List (RowId × Keyed)) → test (stored_of entry) ≡ false → passing test (entry ∷ rows) ≡ passing test rows
left_out test entry rows not = ap (λ b. cond b (stored_of entry ∷ passing test rows) (passing test rows)) not

found_first : (test : Stored → Bool) (id : RowId) (entry : RowId × Keyed) (rows : List (RowId × Keyed)) → is_at (id_order id) entry.0 ≡ true → id ≡ entry.0
    → passes_at test id (entry ∷ rows) ≡ false → test (stored_of entry) ≡ false
found_first test id entry rows here same not =
    ap (λ number. test (stored_of (number, entry.1))) (sym same)
    ∙ sym (ap (λ b. passes test id (cond b (Some entry.1) (lookup (is_at (id_order id)) rows))) here)
    ∙ not

found_later : (test : Stored → Bool) (id : RowId) (entry : RowId × Keyed) (rows : List (RowId × Keyed)) → is_at (id_order id) entry.0 ≡ false
    → passes_at test id (entry ∷ rows) ≡ false → passes_at test id rows ≡ false
found_later test id entry rows there not = sym (ap (λ b. passes test id (cond b (Some entry.1) (lookup (is_at (id_order id)) rows))) there) ∙ not

put_kept_if : (order : Ordering) (test : Stored → Bool) (id : RowId) (keyed : Keyed) (entry : RowId × Keyed) (rows more : List (RowId × Keyed)) → id_order id entry.0 ≡ order
    → test (stored_of (id, keyed)) ≡ false → passes_at test id (entry ∷ rows) ≡ false → (passes_at test id rows ≡ false → passing test more ≡ passing test rows)
    → passing test (match_ordering order ((id, keyed) ∷ entry ∷ rows) ((entry.0, keyed) ∷ rows) (entry ∷ more)) ≡ passing test (entry ∷ rows)
put_kept_if Less test id keyed entry rows more is new old further = left_out test (id, keyed) (entry ∷ rows) new
put_kept_if Equal test id keyed entry rows more is new old further =
    left_out test (entry.0, keyed) rows (ap (λ number. test (stored_of (number, keyed))) (sym (same_id id entry.0 is)) ∙ new)
    ∙ sym (left_out test entry rows (found_first test id entry rows (ap is_eq is) (same_id id entry.0 is) old))
put_kept_if Greater test id keyed entry rows more is new old further =
    ap (λ rest. cond (test (stored_of entry)) (stored_of entry ∷ rest) rest) (further (found_later test id entry rows (ap is_eq is) old))

put_kept : (test : Stored → Bool) (id : RowId) (keyed : Keyed) (rows : List (RowId × Keyed)) → test (stored_of (id, keyed)) ≡ false → passes_at test id rows ≡ false
    → passing test (insert_entry id_order rows id keyed) ≡ passing test rows
put_kept test id keyed [] new old = left_out test (id, keyed) [] new
put_kept test id keyed (entry ∷ rows) new old =
    put_kept_if (id_order id entry.0) test id keyed entry rows (insert_entry id_order rows id keyed) refl new old (put_kept test id keyed rows new)

pub equal_if : (order : Ordering) → is_eq order ≡ true → order ≡ Equal
equal_if Less is = absurd (true≢false (sym is))
equal_if Equal is = refl
equal_if Greater is = absurd (true≢false (sym is))

remove_kept_if : (b : Bool) (test : Stored → Bool) (id : RowId) (entry : RowId × Keyed) (rows more : List (RowId × Keyed)) → is_at (id_order id) entry.0 ≡ b
    → passes_at test id (entry ∷ rows) ≡ false → (passes_at test id rows ≡ false → passing test more ≡ passing test rows)
    → passing test (cond b rows (entry ∷ more)) ≡ passing test (entry ∷ rows)
remove_kept_if true test id entry rows more is old further =
    sym (left_out test entry rows (found_first test id entry rows is (same_id id entry.0 (equal_if (id_order id entry.0) is)) old))
remove_kept_if false test id entry rows more is old further =
    ap (λ rest. cond (test (stored_of entry)) (stored_of entry ∷ rest) rest) (further (found_later test id entry rows is old))

remove_kept : (test : Stored → Bool) (id : RowId) (rows : List (RowId × Keyed)) → passes_at test id rows ≡ false → passing test (remove_entry (is_at (id_order id)) rows) ≡ passing test rows
remove_kept test id [] old = refl
remove_kept test id (entry ∷ rows) old =
    remove_kept_if (is_at (id_order id) entry.0) test id entry rows (remove_entry (is_at (id_order id)) rows) refl old (remove_kept test id rows)

-- where neither the old nor the new content passes, the same rows pass
with_row_kept : (test : Stored → Bool) (id : RowId) (content : Option Keyed) (rows : List (RowId × Keyed)) → passes test id content ≡ false → passes_at test id rows ≡ false
    → passing test (with_row id content rows) ≡ passing test rows
with_row_kept test id (Some keyed) rows new old = put_kept test id keyed rows new old
with_row_kept test id None rows new old = remove_kept test id rows old

rows_kept_if : (b : Bool) (s : State) (change : RowChange) (q : List ℕ) (test : Stored → Bool) → is_name q change.table ≡ b → Fits s (Change.Row change)
    → (b ≡ true → (passes test change.id change.before ≡ false) × (passes test change.id change.after ≡ false))
    → passing test (cond b (with_row change.id change.after (entries_of s q)) (entries_of s q)) ≡ passing test (entries_of s q)
rows_kept_if true s change q test named fits neither =
    with_row_kept test change.id change.after (entries_of s q) (neither refl).1
    (ap (λ table. passes_at test change.id (entries_of s table)) (same_name q change.table named) ∙ ap (passes test change.id) fits ∙ (neither refl).0)
rows_kept_if false s change q test named fits neither = refl

-- a change of a row leaves those rows of a table that pass a test, where it is a change in another table, or neither
-- its old nor its new content passes
pub rows_kept : (s : State) (change : RowChange) (q : List ℕ) (test : Stored → Bool) → Fits s (Change.Row change)
    → (is_name q change.table ≡ true → (passes test change.id change.before ≡ false) × (passes test change.id change.after ≡ false))
    → filter test (rows_of s q) ≡ filter test (rows_of (changed s (Change.Row change)) q)
rows_kept s change q test fits neither =
    sym (ap (passing test) (entries_of_changed s change q) ∙ rows_kept_if (is_name q change.table) s change q test refl fits neither)
