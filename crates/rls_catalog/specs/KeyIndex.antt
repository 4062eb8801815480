-- An index of the rows of a table by their keys.
use Rattle.std.specs.Prelude.{◌≡◌, List, [], ◌∷◌, ◌++◌, Option, Some, None, Bool, true, false, not, ◌&&◌, cond, is_some, filter}
use Rattle.std.specs.BTreeMap.{is_at}
use Rattle.std.specs.Cmp.Lexicographic.{slice_cmp}
use Rattle.std.specs.List.Sorted.{IsStrictlySortedBy}
use Rattle.std.specs.Map.{lookup, keys_of}
use Rattle.std.specs.Ordering.{ordering_then}
use Rattle.std.specs.declared.cmp.Ordering.{Ordering}
use Rattle.rls_expr.specs.rls_value.specs.declared.row.RowId.{RowId}
use Rattle.rls_expr.specs.rls_value.specs.declared.value.Value.{Value}
use Rattle.rls_expr.specs.rls_value.specs.Values.{listed}
use Rattle.rls_catalog.specs.declared.index_key.IndexKey.{IndexKey}
use Rattle.rls_catalog.specs.declared.stored.Keyed.{Keyed}
use Rattle.rls_catalog.specs.declared.stored.Stored.{Stored}
use Rattle.rls_catalog.specs.State.{id_order, is_same_row, stored_of}

-- keys are ordered as rows are listed
abbrev pub key_order : List Value → List Value → Ordering
key_order = slice_cmp listed

-- an index is ordered by keys, and under the same key by numbers
abbrev pub index_order : IndexKey → IndexKey → Ordering
index_order a b = ordering_then (key_order a.key b.key) (id_order a.id b.id)

-- the key of a table without a primary key
abbrev pub is_empty_key : List Value → Bool
is_empty_key [] = true
is_empty_key (value ∷ values) = false

-- whether there is a row that has the key, and the key isn't empty
abbrev pub has_key : List Value → Option Keyed → Bool
has_key key (Some keyed) = not (is_empty_key key) && is_at (key_order key) keyed.key
has_key key None = false

-- an index is in its order, each number under a key once
abbrev pub InKeyOrder : List (IndexKey × Unit {0}) → Type 0
InKeyOrder index = IsStrictlySortedBy index_order (keys_of index)

-- whether an index has the number under the key
abbrev pub is_indexed : List (IndexKey × Unit {0}) → List Value → RowId → Bool
is_indexed index key id = is_some (lookup (is_at (index_order (record { key = key; id = id }))) index)

-- an index has the number of each row under the row's key, and nothing else; the empty key isn't indexed
abbrev pub Indexes : List (IndexKey × Unit {0}) → List (RowId × Keyed) → Type 0
Indexes index rows = (key : List Value) (id : RowId) → is_indexed index key id ≡ has_key key (lookup (is_at (id_order id)) rows)

-- the index has the key of the content at the number, and elsewhere what another has
abbrev pub Reindexed : RowId → Option Keyed → List (IndexKey × Unit {0}) → List (IndexKey × Unit {0}) → Type 0
Reindexed id content index after = (key : List Value) (other : RowId) → is_indexed after key other ≡ cond (is_at (id_order id) other) (has_key key content) (is_indexed index key other)

-- the numbers of the first entries, as far as these have the key
abbrev pub ids_under : List Value → List (IndexKey × Unit {0}) → List (RowId × Unit {0})
ids_under key [] = []
ids_under key (e ∷ es) = cond (is_at (key_order key) e.0.key) ((e.0.id, tt) ∷ ids_under key es) []

-- whether a number is among them
abbrev pub is_among : List (RowId × Unit {0}) → RowId → Bool
is_among ids id = is_some (lookup (is_at (id_order id)) ids)

-- the row if it is there and has the key, as a list of at most one
abbrev pub with_key_at : List Value → RowId → Option Keyed → List Stored
with_key_at key id (Some keyed) = filter (λ stored. is_same_row stored.key key) (stored_of (id, keyed) ∷ [])
with_key_at key id None = []

-- the rows with the key among those of the numbers
abbrev pub picked : List Value → List (RowId × Keyed) → List (RowId × Unit {0}) → List Stored
picked key rows [] = []
picked key rows (e ∷ ids) = with_key_at key e.0 (lookup (is_at (id_order e.0)) rows) ++ picked key rows ids
