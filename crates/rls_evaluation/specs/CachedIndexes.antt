-- What is kept of the rows that a table shows, by the values of columns.
use Rattle.std.specs.Prelude.{◌≡◌, ◌<◌, ℕ, List, [], false, None, Ok, IfSome, drop, get_or, length, unwrap_or}
use Rattle.std.specs.{BTreeMap.is_at, Cmp.Lexicographic.slice_cmp, List.All, List.list_any, Map.lookup}
use Rattle.rls_value.specs.{declared.value.Value.Value, Values.is_null, Values.listed}
use Rattle.rls_verdict.specs.rls_catalog.specs.State.{State}
use Rattle.rls_source.specs.Askings.{Asking}
use Rattle.rls_evaluation.specs.{declared.relation.SecuredRelation.SecuredRelation, declared.cached_index.CachedIndex.CachedIndex, Matching.matching, Showing.shows}

-- the rows that stand under the values
abbrev pub rows_under : List (List Value × List (List Value)) → List Value → List (List Value)
rows_under entries values = unwrap_or (lookup (is_at (slice_cmp listed values)) entries) []

-- under values without a null stand the rows that have them
abbrev pub IsIndexOf : List ℕ → List (List Value) → List (List Value × List (List Value)) → Type 0
IsIndexOf columns all entries = (values : List Value) → list_any is_null values ≡ false → rows_under entries values ≡ matching columns values all

-- it is the index of that table, over the relations from one on, by these columns
pub record IsIndexFor (index : CachedIndex) (from : ℕ) (name : List ℕ) (places : List ℕ) : Type 0 where
  pub at : index.from ≡ from
  pub table : index.table ≡ name
  pub columns : index.columns.items ≡ places

-- it stands at the place
pub record FoundIndex (indexes : List CachedIndex) (place from : ℕ) (table : List ℕ) (columns : List ℕ) : Type 0 where
  pub below : place < length indexes
  pub is : (index : CachedIndex) → index ≡ get_or indexes place index → IsIndexFor index from table columns

-- if it is made, it is made of all these rows
abbrev pub IsMadeOf : CachedIndex → List (List Value) → Type 0
IsMadeOf index all = IfSome index.by_values (λ by_values. IsIndexOf index.columns.items all by_values.entries)

-- it is made of what is asked
pub record IsOfShown (asking : Asking (List (List Value))) (s : State) (index : CachedIndex) : Type 0 where
  pub all : List (List Value)
  pub given : (asking.in_state s).gives ≡ Ok all
  pub made : IsMadeOf index all

-- if it is made, it is made of what its table shows
abbrev pub IsIndexed : List SecuredRelation → List ℕ → State → CachedIndex → Type 0
IsIndexed relations user s index = IfSome index.by_values (λ _. IsOfShown (shows (drop index.from relations) user index.table None) s index)

-- all of them are so
abbrev pub AreIndexed : List SecuredRelation → List ℕ → State → List CachedIndex → Type 0
AreIndexed relations user s indexes = All (IsIndexed relations user s) indexes
