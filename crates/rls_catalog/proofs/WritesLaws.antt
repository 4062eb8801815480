-- An object is covered by a change exactly where the change writes it, or where it is the rows of the table whose row changes.
use Rattle.std.specs.Prelude.{◌≡◌, refl, ℕ, List, ◌++◌, Option, Some, None, Bool, true, false, ◌&&◌, ◌||◌, nat_eq}
use Rattle.std.specs.{BTreeMap.is_at, Cmp.unsigned_Decides, Cmp.Lexicographic.slice_cmp, List.list_any, Str.bytes_eq, declared.cmp.Ordering.Ordering, FinMap.nat_cmp-IsAntisymmetric}
use Rattle.std.specs.Ordering.{is_eq, nat_cmp, ordering_then}
use Rattle.std.specs.declared.cmp.Ordering.TheVariants.{Less, Equal, Greater}
use Rattle.std.proofs.Common.{ap, sym, ◌∙◌, subst}
use Rattle.std.proofs.{lemmas.Bool.true≢false, lemmas.Map.Text.is_eq-slice_cmp}
use Rattle.std.proofs.lemmas.Cmp.{nat_cmp_total, nat_eq_equiv, tied_itself}
use Rattle.rls_expr.specs.rls_value.specs.{declared.row.RowId.RowId, declared.value.Value.Value, declared.object.Object.Object, Listing.rows_total, Objects.object_order, Values.listed}
use Rattle.rls_expr.specs.rls_value.proofs.ListingLaws.{rows_same}
use Rattle.rls_catalog.specs.{declared.stored.Keyed.Keyed, declared.change.Change.Change, State.is_same_row, Bases.covers, Bases.has_key, Bases.is_number, Writes.key_of_row, Writes.is_written, Writes.is_rows_of}
use Rattle.rls_catalog.proofs.SameRows.{same_row, own_row}

-- ---- orders that tie

then_eq : (a b : Ordering) → is_eq (ordering_then a b) ≡ (is_eq a && is_eq b)
then_eq Less b = refl
then_eq Equal b = refl
then_eq Greater b = refl

-- two tests that pass together are the same
same_test : (a b : Bool) → (a ≡ true → b ≡ true) → (b ≡ true → a ≡ true) → a ≡ b
same_test true true there back = refl
same_test true false there back = sym (there refl)
same_test false true there back = back refl
same_test false false there back = refl

is_tie : (order : Ordering) → is_eq order ≡ true → order ≡ Equal
is_tie Less is = absurd (true≢false (sym is))
is_tie Equal is = refl
is_tie Greater is = absurd (true≢false (sym is))

keys_tie : (one other : List Value) → is_eq (slice_cmp listed one other) ≡ is_same_row other one
keys_tie one other =
    same_test (is_eq (slice_cmp listed one other)) (is_same_row other one)
    (λ is. ap (λ row. is_same_row row one) (sym (rows_same one other (is_tie (slice_cmp listed one other) is))) ∙ own_row one)
    (λ is. ap (λ row. is_eq (slice_cmp listed one row)) (same_row other one is) ∙ ap is_eq (tied_itself rows_total one))

nat_same : (a b : ℕ) → nat_eq a b ≡ true → a ≡ b
nat_same a b is = (unsigned_Decides a b).0 is

numbers_tie : (a b : ℕ) → is_eq (nat_cmp a b) ≡ nat_eq a b
numbers_tie a b =
    same_test (is_eq (nat_cmp a b)) (nat_eq a b)
    (λ is. subst (λ n. nat_eq a n ≡ true) (nat_cmp-IsAntisymmetric a b (is_tie (nat_cmp a b) is)) (nat_eq_equiv.refl a))
    (λ is. subst (λ n. is_eq (nat_cmp a n) ≡ true) (nat_same a b is) (ap is_eq (tied_itself nat_cmp_total a)))

-- ---- the tests of objects

and_true : (b : Bool) → (b && true) ≡ b
and_true true = refl
and_true false = refl

names_tie : (one other : Object) (name another : List ℕ) → object_order one other ≡ ordering_then (slice_cmp nat_cmp name another) Equal
    → is_at (object_order one) other ≡ bytes_eq name another
names_tie one other name another is = ap is_eq is ∙ then_eq (slice_cmp nat_cmp name another) Equal ∙ and_true (is_eq (slice_cmp nat_cmp name another)) ∙ is_eq-slice_cmp name another

keys_same : (table another : List ℕ) (key other : List Value) → is_at (object_order (Object.Key table key)) (Object.Key another other) ≡ (bytes_eq table another && is_same_row other key)
keys_same table another key other =
    then_eq (slice_cmp nat_cmp table another) (slice_cmp listed key other)
    ∙ (λ i. is_eq-slice_cmp table another i && keys_tie key other i)

rows_are_same : (table another : List ℕ) (number id : RowId) → is_at (object_order (Object.RowOf table number)) (Object.RowOf another id) ≡ (bytes_eq table another && is_number number id)
rows_are_same table another number id =
    then_eq (slice_cmp nat_cmp table another) (ordering_then (nat_cmp number.txn id.txn) (nat_cmp number.n id.n))
    ∙ (λ i. is_eq-slice_cmp table another i && (then_eq (nat_cmp number.txn id.txn) (nat_cmp number.n id.n) ∙ (λ j. numbers_tie number.txn id.txn j && numbers_tie number.n id.n j)) i)

-- ---- the law

once : (b : Bool) → (b || b) ≡ ((b || false) || false)
once true = refl
once false = refl

catalogue : (one other : Object) (name another : List ℕ) → object_order one other ≡ ordering_then (slice_cmp nat_cmp name another) Equal
    → (bytes_eq name another || bytes_eq name another) ≡ ((is_at (object_order one) other || false) || false)
catalogue one other name another is =
    once (bytes_eq name another) ∙ ap (λ b. (b || false) || false) (sym (names_tie one other name another is))

-- an object that is no row and no key isn't among a row's keys
no_key : (object : Object) (table : List ℕ) (before after : Option Keyed) → ((key : List Value) → is_at (object_order object) (Object.Key table key) ≡ false)
    → list_any (is_at (object_order object)) (key_of_row table before ++ key_of_row table after) ≡ false
no_key object table (Some one) (Some other) not = (λ i. not one.key i || (not other.key i || false))
no_key object table (Some one) None not = (λ i. not one.key i || false)
no_key object table None (Some other) not = (λ i. not other.key i || false)
no_key object table None None not = refl

shape : (a b : Bool) → (a || b) ≡ ((a || (b || false)) || false)
shape true b = refl
shape false true = refl
shape false false = refl

shape_first : (a b : Bool) → ((a && b) || (a && false)) ≡ (((a && b) || false) || false)
shape_first true true = refl
shape_first true false = refl
shape_first false b = refl

shape_second : (a b : Bool) → ((a && false) || (a && b)) ≡ (((a && b) || false) || false)
shape_second true true = refl
shape_second true false = refl
shape_second false b = refl

shape_none : (a : Bool) → ((a && false) || (a && false)) ≡ (false || false)
shape_none true = refl
shape_none false = refl

key_among : (table another : List ℕ) (key : List Value) (before after : Option Keyed)
    → ((bytes_eq table another && has_key before key) || (bytes_eq table another && has_key after key))
    ≡ (list_any (is_at (object_order (Object.Key table key))) (key_of_row another before ++ key_of_row another after) || false)
key_among table another key (Some one) (Some other) =
    shape (bytes_eq table another && is_same_row one.key key) (bytes_eq table another && is_same_row other.key key)
    ∙ (λ i. (sym (keys_same table another key one.key) i || (sym (keys_same table another key other.key) i || false)) || false)
key_among table another key (Some one) None =
    shape_first (bytes_eq table another) (is_same_row one.key key)
    ∙ (λ i. (sym (keys_same table another key one.key) i || false) || false)
key_among table another key None (Some other) =
    shape_second (bytes_eq table another) (is_same_row other.key key)
    ∙ (λ i. (sym (keys_same table another key other.key) i || false) || false)
key_among table another key None None = shape_none (bytes_eq table another)

row_shape : (b c rest : Bool) → c ≡ b → rest ≡ false → (b || b) ≡ ((c || rest) || false)
row_shape true true rest same none = refl
row_shape true false rest same none = absurd (true≢false (sym same))
row_shape false true rest same none = absurd (true≢false same)
row_shape false false rest same none = sym (ap (λ r. r || false) none)

rows_shape : (b rest : Bool) → rest ≡ false → (b || b) ≡ (rest || b)
rows_shape true true none = refl
rows_shape true false none = refl
rows_shape false rest none = sym (ap (λ r. r || false) none)

none_shape : (rest : Bool) → rest ≡ false → (false || false) ≡ ((false || rest) || false)
none_shape rest none = sym (ap (λ r. r || false) none)

-- an object is covered by a change exactly where the change writes it, or it is the rows of the change's table
pub covered_writes : (object : Object) (change : Change) → covers object change ≡ (is_written object change || is_rows_of object change)
covered_writes (Object.Role name) (Change.Role other content) = catalogue (Object.Role name) (Object.Role other) name other refl
covered_writes (Object.Members name) (Change.Role other content) = refl
covered_writes (Object.Table name) (Change.Role other content) = refl
covered_writes (Object.Grants name) (Change.Role other content) = refl
covered_writes (Object.Policies name) (Change.Role other content) = refl
covered_writes (Object.Rows name) (Change.Role other content) = refl
covered_writes (Object.Key name key) (Change.Role other content) = refl
covered_writes (Object.RowOf name id) (Change.Role other content) = refl
covered_writes (Object.Role name) (Change.Members other content) = refl
covered_writes (Object.Members name) (Change.Members other content) = catalogue (Object.Members name) (Object.Members other) name other refl
covered_writes (Object.Table name) (Change.Members other content) = refl
covered_writes (Object.Grants name) (Change.Members other content) = refl
covered_writes (Object.Policies name) (Change.Members other content) = refl
covered_writes (Object.Rows name) (Change.Members other content) = refl
covered_writes (Object.Key name key) (Change.Members other content) = refl
covered_writes (Object.RowOf name id) (Change.Members other content) = refl
covered_writes (Object.Role name) (Change.Table other content) = refl
covered_writes (Object.Members name) (Change.Table other content) = refl
covered_writes (Object.Table name) (Change.Table other content) = catalogue (Object.Table name) (Object.Table other) name other refl
covered_writes (Object.Grants name) (Change.Table other content) = refl
covered_writes (Object.Policies name) (Change.Table other content) = refl
covered_writes (Object.Rows name) (Change.Table other content) = refl
covered_writes (Object.Key name key) (Change.Table other content) = refl
covered_writes (Object.RowOf name id) (Change.Table other content) = refl
covered_writes (Object.Role name) (Change.Grants other content) = refl
covered_writes (Object.Members name) (Change.Grants other content) = refl
covered_writes (Object.Table name) (Change.Grants other content) = refl
covered_writes (Object.Grants name) (Change.Grants other content) = catalogue (Object.Grants name) (Object.Grants other) name other refl
covered_writes (Object.Policies name) (Change.Grants other content) = refl
covered_writes (Object.Rows name) (Change.Grants other content) = refl
covered_writes (Object.Key name key) (Change.Grants other content) = refl
covered_writes (Object.RowOf name id) (Change.Grants other content) = refl
covered_writes (Object.Role name) (Change.Policies other content) = refl
covered_writes (Object.Members name) (Change.Policies other content) = refl
covered_writes (Object.Table name) (Change.Policies other content) = refl
covered_writes (Object.Grants name) (Change.Policies other content) = refl
covered_writes (Object.Policies name) (Change.Policies other content) = catalogue (Object.Policies name) (Object.Policies other) name other refl
covered_writes (Object.Rows name) (Change.Policies other content) = refl
covered_writes (Object.Key name key) (Change.Policies other content) = refl
covered_writes (Object.RowOf name id) (Change.Policies other content) = refl
covered_writes (Object.Role name) (Change.Row row) = none_shape (list_any (is_at (object_order (Object.Role name))) (key_of_row row.table row.before ++ key_of_row row.table row.after)) (no_key (Object.Role name) row.table row.before row.after (λ key. refl))
covered_writes (Object.Members name) (Change.Row row) = none_shape (list_any (is_at (object_order (Object.Members name))) (key_of_row row.table row.before ++ key_of_row row.table row.after)) (no_key (Object.Members name) row.table row.before row.after (λ key. refl))
covered_writes (Object.Table name) (Change.Row row) = none_shape (list_any (is_at (object_order (Object.Table name))) (key_of_row row.table row.before ++ key_of_row row.table row.after)) (no_key (Object.Table name) row.table row.before row.after (λ key. refl))
covered_writes (Object.Grants name) (Change.Row row) = none_shape (list_any (is_at (object_order (Object.Grants name))) (key_of_row row.table row.before ++ key_of_row row.table row.after)) (no_key (Object.Grants name) row.table row.before row.after (λ key. refl))
covered_writes (Object.Policies name) (Change.Row row) = none_shape (list_any (is_at (object_order (Object.Policies name))) (key_of_row row.table row.before ++ key_of_row row.table row.after)) (no_key (Object.Policies name) row.table row.before row.after (λ key. refl))
covered_writes (Object.Rows name) (Change.Row row) = rows_shape (bytes_eq name row.table) (list_any (is_at (object_order (Object.Rows name))) (key_of_row row.table row.before ++ key_of_row row.table row.after)) (no_key (Object.Rows name) row.table row.before row.after (λ key. refl))
covered_writes (Object.Key name key) (Change.Row row) = key_among name row.table key row.before row.after
covered_writes (Object.RowOf name id) (Change.Row row) = row_shape (bytes_eq name row.table && is_number id row.id) (is_at (object_order (Object.RowOf name id)) (Object.RowOf row.table row.id)) (list_any (is_at (object_order (Object.RowOf name id))) (key_of_row row.table row.before ++ key_of_row row.table row.after)) (rows_are_same name row.table id row.id) (no_key (Object.RowOf name id) row.table row.before row.after (λ key. refl))
