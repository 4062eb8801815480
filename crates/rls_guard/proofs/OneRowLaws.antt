-- In a state whose rows are sound a subquery that pins the key of its table ranges over one row at most.
use Rattle.std.specs.Prelude.{◌≡◌, refl, ℕ, ◌≤◌, List, [], ◌∷◌, Bool, true, false, cond, Option, Some, None, Result, Ok, Err, IfOk, is_some, length, map}
use Rattle.std.specs.{BTreeMap.is_at, Cmp.IsTotalOrder, List.Sorted.IsStrictlySortedBy, Str.bytes_eq, declared.cmp.Ordering.TheVariants.Less}
use Rattle.std.specs.{List.AllByRecursion, List.list_any, Map.lookup, Map.keys_of, Ordering.is_eq, Ordering.ordering_reverse}
use Rattle.std.proofs.{Common.ap, Common.sym, Common.subst, Common.◌∙◌, Common.arith, lemmas.Bool.true≢false, lemmas.Cmp.tied_itself, lemmas.Cmp.on_total, lemmas.Cmp.then_total, lemmas.Cmp.nat_cmp_total}
use Rattle.rls_evaluation.specs.rls_catalog.specs.rls_expr.specs.rls_value.specs.{declared.refusal.Refusal.Refusal, declared.row.RowId.RowId, declared.value.Value.Value, Giving.and_then, Values.is_null}
use Rattle.rls_evaluation.specs.rls_catalog.specs.rls_expr.specs.{declared.expr.FromItem.FromItem, declared.expr.Selects.Selects, declared.table.TableDef.TableDef, Terms.Terms, Terms.End, Terms.More, Terms.Select}
use Rattle.rls_evaluation.specs.rls_catalog.specs.{declared.stored.Keyed.Keyed, declared.stored.Stored.Stored, InOrder.Ascend, SoundRows.AreSound, SoundRows.AreSoundIn, SoundRows.KeysAreUnique, SoundRows.RowsAreSound, SoundRows.StandsAt, State.entries_of, State.State, State.id_order, State.is_same_id, State.is_same_row, State.rows_with_key, State.stored_of, State.table_of, State.with_key}
use Rattle.rls_evaluation.specs.rls_catalog.proofs.SameRows.{same_row}
use Rattle.rls_evaluation.specs.rls_source.specs.{Asked.asked_key, Asked.keyed_at, Askings.Asking, Askings.asked_if, Askings.followed_by, Askings.known}
use Rattle.rls_evaluation.specs.{declared.relation.SecuredRelation.SecuredRelation, declared.relation.SecurityQuals.SecurityQuals, Environments.Environment, Keys.key_of, Eval.Shows, Eval.ranged_over, Gathering.kept, Gathering.with_row, Showing.asked_for, Showing.is_allowed, Showing.shown, Showing.shows, Showing.values_of}
use Rattle.rls_guard.specs.Support.{pins_key}
use Rattle.rls_guard.proofs.PinnedLaws.{pinned_means}

-- false is not true
no : {A : Type 0} → false ≡ true → A
no is = absurd (true≢false (sym is))

-- one element, or none
abbrev pub OneOrNone : {X : Type 0} → List X → Type 0
OneOrNone [] = Unit {0}
OneOrNone (x ∷ xs) = xs ≡ []

within_one : {X : Type 0} (xs : List X) → OneOrNone xs → length xs ≤ 1
within_one [] one = omega arith
within_one (x ∷ xs) none = omega (arith, ap length none)

-- ---- rows at different numbers

ids_total : IsTotalOrder id_order
ids_total = then_total (on_total (λ id. id.txn) nat_cmp_total) (on_total (λ id. id.n) nat_cmp_total)

own_number : (id : RowId) → is_same_id id id ≡ true
own_number id = ap is_eq (tied_itself ids_total id)

-- a number that lies above is another one
above_other : (id other : RowId) → id_order id other ≡ Less → is_same_id other id ≡ false
above_other id other less = ap is_eq (ids_total.antisymm other id ∙ ap ordering_reverse less)

not_above_itself : (id other : RowId) → id_order id other ≡ Less → id ≡ other → ⊥
not_above_itself id other less same = true≢false (sym (ap is_eq (sym less ∙ ap (λ one. id_order one other) same ∙ tied_itself ids_total other)))

-- the numbers of the rows lie above
abbrev Above : RowId → List (RowId × Keyed) → Type 0
Above id rows = AllByRecursion (λ other. id_order id other ≡ Less) (keys_of rows)

-- each of the rows stands among all
abbrev Stand : List (RowId × Keyed) → List (RowId × Keyed) → Type 0
Stand all rows = AllByRecursion (λ row. StandsAt all row.0 row.1) rows

-- also behind one with a smaller number
stand_behind : (first : RowId × Keyed) (all rows : List (RowId × Keyed)) → Above first.0 rows → Stand all rows → Stand (first ∷ all) rows
stand_behind first all [] above stand = tt
stand_behind first all (row ∷ rows) above stand =
    (ap (λ b. cond b (Some first.1) (lookup (is_at (id_order row.0)) all)) (above_other first.0 row.0 above.0) ∙ stand.0, stand_behind first all rows above.1 stand.1)

-- rows in order stand among themselves
all_stand : (rows : List (RowId × Keyed)) → Ascend rows → Stand rows rows
unfolding IsStrictlySortedBy
all_stand [] ascend = tt
all_stand (row ∷ rows) ascend =
    (ap (λ b. cond b (Some row.1) (lookup (is_at (id_order row.0)) rows)) (own_number row.0), stand_behind row rows rows ascend.0 (all_stand rows ascend.1))

-- ---- rows with one key

none_if : (b : Bool) (stored : Stored) (rows : List Stored) → (b ≡ true → ⊥) → rows ≡ [] → cond b (stored ∷ rows) rows ≡ []
none_if true stored rows never none = absurd (never refl)
none_if false stored rows never none = none

-- no row above has the key too
none_above : (key : List Value) (all : List (RowId × Keyed)) (first : RowId × Keyed) (rows : List (RowId × Keyed)) → KeysAreUnique all → StandsAt all first.0 first.1 → is_same_row first.1.key key ≡ true
    → Above first.0 rows → Stand all rows → with_key key (map stored_of rows) ≡ []
none_above key all first [] unique stands here above stand = refl
none_above key all first (row ∷ rows) unique stands here above stand =
    none_if (is_same_row row.1.key key) (stored_of row) (with_key key (map stored_of rows))
    (λ there. not_above_itself first.0 row.0 above.0 (unique first.0 row.0 first.1 row.1 stands stand.0 (same_row first.1.key key here ∙ sym (same_row row.1.key key there))))
    (none_above key all first rows unique stands here above.1 stand.1)

one_if : (b : Bool) (stored : Stored) (rows : List Stored) → (b ≡ true → rows ≡ []) → OneOrNone rows → OneOrNone (cond b (stored ∷ rows) rows)
one_if true stored rows none one = none refl
one_if false stored rows none one = one

one_of : (key : List Value) (all rows : List (RowId × Keyed)) → KeysAreUnique all → Stand all rows → Ascend rows → OneOrNone (with_key key (map stored_of rows))
unfolding IsStrictlySortedBy
one_of key all [] unique stand ascend = tt
one_of key all (row ∷ rows) unique stand ascend =
    one_if (is_same_row row.1.key key) (stored_of row) (with_key key (map stored_of rows))
    (λ here. none_above key all row rows unique stand.0 here ascend.0 stand.1)
    (one_of key all rows unique stand.1 ascend.1)

-- one row of a table at most has the key
one_keyed : (s : State) (name : List ℕ) (table : TableDef) (key : List Value) → RowsAreSound s → table_of s name ≡ Some table → ¬ (table.key ≡ []) → OneOrNone (rows_with_key s name key)
one_keyed s name table key sound there keyed =
    let rows : AreSound table (entries_of s name) = subst (λ def. AreSoundIn def (entries_of s name)) there (sound name) in
    one_of key (entries_of s name) (entries_of s name) (rows.unique keyed) (all_stand (entries_of s name) rows.ordered) rows.ordered

-- ---- what a table shows

-- what is given is one row, or none
abbrev GivesOne : Result (List (List Value)) Refusal → Type 0
GivesOne given = IfOk given OneOrNone

one_valued : (rows : List Stored) → OneOrNone rows → OneOrNone (values_of rows)
one_valued [] one = tt
one_valued (stored ∷ rows) none = ap values_of none

one_then : (given : Result (List (List Value)) Refusal) (next : List (List Value) → Result (List (List Value)) Refusal) → GivesOne given → ((rows : List (List Value)) → OneOrNone rows → GivesOne (next rows)) → GivesOne (and_then given next)
one_then (Ok rows) next one each = each rows one
one_then (Err refusal) next one each = tt

asked_one : (s : State) (name : List ℕ) (key : List Value) (nulls : Bool) → OneOrNone (rows_with_key s name key)
    → GivesOne ((asked_if nulls (known (Ok [])) (followed_by (asked_key name key) (λ rows. known (Ok (values_of rows))))).in_state s).gives
unfolding keyed_at
asked_one s name key true one = tt
asked_one s name key false one = one_valued (rows_with_key s name key) one

kept_or_not : (row : List Value) (given : Result Bool Refusal) → GivesOne (and_then given (λ is. Ok (with_row row is [])))
kept_or_not row (Ok true) = refl
kept_or_not row (Ok false) = tt
kept_or_not row (Err refusal) = tt

-- of one row at most one is kept
kept_one : (s : State) (ask : List Value → Asking Bool) (rows : List (List Value)) → OneOrNone rows → GivesOne ((kept ask rows).in_state s).gives
kept_one s ask [] one = tt
kept_one s ask (row ∷ rows) none = subst (λ more. GivesOne ((kept ask (row ∷ more)).in_state s).gives) (sym none) (kept_or_not row ((ask row).in_state s).gives)

shown_one : (s : State) (quals : SecurityQuals) (sees : Shows) (user name : List ℕ) (key : List Value) → OneOrNone (rows_with_key s name key) → GivesOne ((shown quals sees user name (Some key)).in_state s).gives
shown_one s quals sees user name key one =
    one_then ((asked_for name (Some key)).in_state s).gives (λ rows. ((kept (is_allowed quals sees user) rows).in_state s).gives)
    (asked_one s name key (list_any is_null key) one) (kept_one s (is_allowed quals sees user))

either_one : (s : State) (b : Bool) (here there : Asking (List (List Value))) → GivesOne (here.in_state s).gives → GivesOne (there.in_state s).gives → GivesOne ((asked_if b here there).in_state s).gives
either_one s true here there one other = one
either_one s false here there one other = other

shows_one : (s : State) (relations : List SecuredRelation) (user name : List ℕ) (key : List Value) → OneOrNone (rows_with_key s name key) → GivesOne ((shows relations user name (Some key)).in_state s).gives
shows_one s [] user name key one = tt
shows_one s (relation ∷ relations) user name key one =
    either_one s (bytes_eq relation.table name) (shown relation.quals (shows relations user) user name (Some key)) (shows relations user name (Some key))
    (shown_one s relation.quals (shows relations user) user name key one) (shows_one s relations user name key one)

-- ---- a subquery

-- there is an element
abbrev is_longer : List ℕ → Bool
is_longer [] = false
is_longer (x ∷ xs) = true

-- a key that is pinned has a column
has_column : (columns : List ℕ) (condition : Terms) → pins_key columns condition ≡ true → ¬ (columns ≡ [])
has_column columns End is = no is
has_column [] (More t ts) is = no is
has_column (column ∷ columns) (More t ts) is = λ none. no (ap is_longer (sym none))

ranged_one : (s : State) (relations : List SecuredRelation) (user name : List ℕ) (key : Option (List Value)) → is_some key ≡ true → ((values : List Value) → OneOrNone (rows_with_key s name values))
    → GivesOne ((shows relations user name key).in_state s).gives
ranged_one s relations user name (Some key) is one = shows_one s relations user name key (one key)
ranged_one s relations user name None is one = no is

at_most_one : (given : Result (List (List Value)) Refusal) → GivesOne given → IfOk given (λ rows. length rows ≤ 1)
at_most_one (Ok rows) one = within_one rows one
at_most_one (Err refusal) one = tt

-- a subquery that pins the key of its table ranges over one row, or none
pub one_row : (s : State) (relations : List SecuredRelation) (user : List ℕ) (env : Environment) (from : FromItem) (table : TableDef) (selects : Selects) (items condition : Terms)
    → RowsAreSound s → table_of s from.table ≡ Some table → pins_key table.key condition ≡ true
    → IfOk ((ranged_over (Select from table.key selects items condition) (shows relations user) env).in_state s).gives (λ rows. length rows ≤ 1)
one_row s relations user env from table selects items condition sound there pins =
    at_most_one ((shows relations user from.table (key_of table.key condition env)).in_state s).gives
    (ranged_one s relations user from.table (key_of table.key condition env) (pinned_means table.key condition env ∙ pins)
    (λ values. one_keyed s from.table table values sound there (has_column table.key condition pins)))
