-- An index of one row more, and rows that are left out.
use Rattle.std.specs.Prelude.{◌≡◌, refl, ℕ, ◌<◌, ◌+◌, List, [], ◌∷◌, ◌++◌, Bool, true, false, Option, Some, length, get_or, cond, filter, take, unwrap_or}
use Rattle.std.specs.{BTreeMap.is_at, Cmp.Lexicographic.slice_cmp, List.list_any}
use Rattle.std.specs.Ordering.{is_eq, ordering_reverse}
use Rattle.std.specs.declared.cmp.Ordering.{Ordering}
use Rattle.std.specs.declared.cmp.Ordering.TheVariants.{Less, Equal, Greater}
use Rattle.std.proofs.Common.{ap, sym, ◌∙◌, append-nil}
use Rattle.std.proofs.lemmas.Bool.{true≢false}
use Rattle.std.proofs.lemmas.List.Elements.{filter_more}
use Rattle.rls_value.specs.{declared.value.Value.Value, Listing.rows_total, Values.is_null, Values.listed}
use Rattle.rls_value.proofs.ListingLaws.{rows_same}
use Rattle.rls_evaluation.specs.Matching.{LeavesOut, has_values, values_in}
use Rattle.rls_evaluation.specs.CachedIndexes.{IsIndexOf, rows_under}
use Rattle.rls_evaluation.proofs.MatchingLemmas.{all_pass, key_matches, none_pass, null_has_none}

abbrev Entries : Type 0
Entries = List (List Value × List (List Value))

-- ---- one row more

tie : (o : Ordering) → is_eq o ≡ true → o ≡ Equal
tie Less is = absurd (true≢false (sym is))
tie Equal is = refl
tie Greater is = absurd (true≢false (sym is))

eq_back : (o : Ordering) → is_eq (ordering_reverse o) ≡ is_eq o
eq_back Less = refl
eq_back Equal = refl
eq_back Greater = refl

keys_back : (a b : List Value) → is_at (slice_cmp listed a) b ≡ is_at (slice_cmp listed b) a
keys_back a b = ap is_eq (rows_total.antisymm a b) ∙ eq_back (slice_cmp listed b a)

-- what is put there
pub some_if : (b : Bool) (rows : List (List Value)) (there : Option (List (List Value))) → unwrap_or (cond b (Some rows) there) [] ≡ cond b rows (unwrap_or there [])
some_if true rows there = refl
some_if false rows there = refl

put_if : (b : Bool) (row : List Value) (here there left : List (List Value)) → (b ≡ true → here ≡ there) → left ≡ cond b [] there → cond b (here ++ row ∷ []) left ≡ there ++ cond b (row ∷ []) []
put_if true row here there left same taken = ap (λ rows. rows ++ row ∷ []) (same refl)
put_if false row here there left same taken = taken ∙ sym (append-nil there)

-- a row behind those that have its values
pub row_put : (key : List Value) (row : List Value) (old left new : Entries) (rows : List (List Value)) → rows ≡ rows_under old key ++ row ∷ []
    → ((other : List Value) → rows_under left other ≡ cond (is_at (slice_cmp listed key) other) [] (rows_under old other))
    → ((other : List Value) → rows_under new other ≡ cond (is_at (slice_cmp listed key) other) rows (rows_under left other))
    → (values : List Value) → rows_under new values ≡ rows_under old values ++ cond (is_at (slice_cmp listed values) key) (row ∷ []) []
row_put key row old left new rows are taken put values =
    put values
    ∙ ap (λ rows. cond (is_at (slice_cmp listed key) values) rows (rows_under left values)) are
    ∙ put_if (is_at (slice_cmp listed key) values) row (rows_under old key) (rows_under old values) (rows_under left values)
    (λ tied. ap (rows_under old) (rows_same key values (tie (slice_cmp listed key values) tied))) (taken values)
    ∙ ap (λ b. rows_under old values ++ cond b (row ∷ []) []) (keys_back key values)

-- the index of one row more
pub index_more : (columns : List ℕ) (rows : List (List Value)) (i : ℕ) (row : List Value) (old new : Entries) → i < length rows → row ≡ get_or rows i row
    → ((values : List Value) → rows_under new values ≡ rows_under old values ++ cond (is_at (slice_cmp listed values) (values_in columns row)) (row ∷ []) [])
    → IsIndexOf columns (take i rows) old → IsIndexOf columns (take (i + 1) rows) new
index_more columns rows i row old new below is grown was values full =
    grown values
    ∙ (λ j. was values full j ++ cond (key_matches columns values row full j) (row ∷ []) [])
    ∙ ap (λ r. filter (has_values columns values) (take i rows) ++ cond (has_values columns values r) (r ∷ []) []) is
    ∙ sym (filter_more (has_values columns values) rows i row below)

-- ---- rows that are left out

-- nothing is left out
pub all_left : (IsOut : List Value → Type 0) (all rows : List (List Value)) → rows ≡ all → LeavesOut IsOut all rows
all_left IsOut all rows same = record { test = λ _. true; left = same ∙ sym (all_pass all); others = λ row is. absurd (true≢false is) }

-- nothing is equal to a null, and all are left out
pub null_left : (columns : List ℕ) (values : List Value) (all rows : List (List Value)) → rows ≡ [] → list_any is_null values ≡ true → LeavesOut (λ row. has_values columns values row ≡ false) all rows
null_left columns values all rows none null = record { test = λ _. false; left = none ∙ sym (none_pass all); others = λ row is. null_has_none columns values row null }

-- what is left out is so in further words
pub left_as : (IsOut IsSo : List Value → Type 0) (all rows : List (List Value)) → ((row : List Value) → IsOut row → IsSo row) → LeavesOut IsOut all rows → LeavesOut IsSo all rows
left_as IsOut IsSo all rows so left = record { test = left.test; left = left.left; others = λ row is. so row (left.others row is) }
