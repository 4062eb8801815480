-- The changes of INSERT, UPDATE and DELETE name as before what the earlier ones leave at their places, and they are at
-- the numbers of the qualifying rows, or at new ones.
use lib.ListN.{length-map}
use Rattle.std.{specs.Prelude.◌≡◌, specs.Prelude.refl, specs.Prelude.ℕ, specs.Prelude.zero, specs.Prelude.suc, specs.Prelude.◌≤◌, specs.Prelude.◌<◌, specs.Prelude.List, specs.Prelude.[], specs.Prelude.◌∷◌, specs.Prelude.◌++◌, specs.Prelude.Option, specs.Prelude.Some, specs.Prelude.None, specs.Prelude.Bool, specs.Prelude.true, specs.Prelude.false, specs.Prelude.cond, specs.Prelude.Result, specs.Prelude.Ok, specs.Prelude.Err, specs.Prelude.IfOk, specs.Prelude.if◌then◌else◌, specs.Prelude.length, specs.Prelude.map, specs.Prelude.take, specs.Prelude.drop, specs.Prelude.filter, specs.BTreeMap.is_at, specs.BTreeMap.insert_entry, specs.List.AllByRecursion, specs.List.list_any, specs.List.Sorted.IsStrictlySortedBy, specs.declared.cmp.Ordering.Ordering, specs.Cmp.IsTotalOrder, specs.Map.lookup, specs.Map.remove_entry, specs.Map.keys_of, specs.Ordering.is_eq, specs.Ordering.match_ordering, specs.Ordering.ordering_reverse, specs.declared.cmp.Ordering.TheVariants.Less, specs.declared.cmp.Ordering.TheVariants.Equal, specs.declared.cmp.Ordering.TheVariants.Greater, proofs.Common.ap, proofs.Common.sym, proofs.Common.◌∙◌, proofs.Common.subst, proofs.lemmas.Cmp.tied_itself, proofs.lemmas.Cmp.on_total, proofs.lemmas.Cmp.then_total, proofs.lemmas.Cmp.nat_cmp_total, proofs.Math.Nat.suc-ne-zero, proofs.Math.Nat.suc_inj, proofs.Math.Nat.le-suc, proofs.Math.Nat.le_of_suc-le, proofs.Math.Nat.not-suc-le_self, proofs.Math.Nat.le_trans, proofs.Math.Nat.le_refl}
use Rattle.rls_value.specs.{declared.refusal.Refusal.Refusal, declared.row.RowId.RowId, declared.value.Value.Value, Giving.and_then, Values.is_null, declared.verb.Privilege.Privilege, declared.verb.Kind.Kind}
use Rattle.rls_expr.specs.{declared.table.TableDef.TableDef, Terms.Term, Terms.maybe_term}
use Rattle.rls_guard.specs.rls_catalog.{specs.declared.change.Change.Change, specs.declared.change.RowChange.RowChange, specs.declared.stored.Keyed.Keyed, specs.declared.stored.Stored.Stored, specs.Bases.Row, specs.Bases.FitsAll, specs.Bases.row_at, specs.Changed.changed, specs.Changed.with_row, specs.InOrder.Ascend, specs.InOrder.RowsInOrder, specs.State.State, specs.State.id_order, specs.State.is_same_id, specs.State.is_same_row, specs.State.stored_of, specs.State.rows_of, specs.State.entries_of, proofs.ContentsLaws.is_name, proofs.RowsChanged.entries_of_changed, proofs.RowsChanged.same_id, proofs.RowsChanged.equal_if}
use Rattle.rls_statement.specs.{declared.statement.Insert.Insert, declared.statement.Selected.Selected, declared.changing.Update.Update, declared.changing.Delete.Delete}
use Rattle.rls_guard.specs.{declared.context.Ctx.Ctx, declared.role_privileges.RolePrivileges.RolePrivileges, declared.quals.RowCheck.RowCheck, declared.reply.Decision.Decision, declared.effect.Effect.Effect, RolePrivileges.role_privileges_of}
use Rattle.rls_evaluation.specs.{declared.relation.SecuredRelation.SecuredRelation, Gathering.gathered, Showing.shows}
use Rattle.rls_expansion.specs.{declared.expansion.PolicyExpansion.PolicyExpansion, Expanding.expansion_of, Expanding.permission_checks, Used.tables_if}
use Rattle.rls_guard.specs.rls_source.specs.{Asked.rows_at, Asked.keyed_at, Asked.asked_key, Askings.Asking, Askings.known, Askings.followed_by, Named.table_or_undefined}
use Rattle.rls_dml.specs.{declared.analysed_insert.AnalysedInsert.AnalysedInsert, declared.analysed_update.AnalysedUpdate.AnalysedUpdate, declared.deleting.AnalysedDelete.AnalysedDelete, Checking.names_over_none, Checking.has_some, Checking.where_selected, Fitting.IfDone, Fitting.NumbersFree, Fitting.numbers_from, Fitting.Overwrite, Writing.checks_of, Writing.permissions_or_denied, Writing.order_of, Writing.rows_or_refused, Writing.each_with, Writing.each_taking, Writing.first_of, Writing.behind_first, Inserting.places_of, Inserting.tuple_resolved, Inserting.analysed_insert_named, Inserting.analysed_insert_resolved, Inserting.analysed_insert_in, Inserting.analysed_insert_or_refused, Inserting.analysed_insert_for, Inserting.row_of_tuple, Inserting.numbered, Inserting.new_rows, Inserting.inserted_row, Inserting.inserted, Inserting.insert_judged, Inserting.insert_rows, Inserting.insert_made, Inserting.insert_values, Inserting.tuples_tables, Inserting.insert_columns, Inserting.tuples_selected, Inserting.insert_columns_read, Inserting.insert_with_quals, Inserting.insert_as, Inserting.insert_into, Inserting.insert, Updating.analysed_update_for, Updating.update_columns, Updating.update_selected, Updating.update_columns_read, Updating.places_set, Updating.updated_row, Updating.updated_rows, Updating.changed_rows, Updating.updated, Updating.update_judged, Updating.update_rows, Updating.update_made, Updating.update_values, Updating.update_qualifying_rows, Updating.analysed_update_tables, Updating.update_with_quals, Updating.update_as, Updating.update_in, Updating.update, Deleting.analysed_delete_for, Deleting.delete_columns, Deleting.deleted_row, Deleting.deleted, Deleting.delete_qualifying_rows, Deleting.delete_with_quals, Deleting.delete_as, Deleting.delete_from, Deleting.delete}
use Rattle.rls_judging.specs.{Judging.row_if_qualifying, Judging.qualifying_rows_of, Judging.judged_all, Judging.judged_old, Judging.with_judged, Judging.decisions_of, Valuing.assignments_of, Valuing.tuples_of, ScannedRows.pinned_key, ScannedRows.scanned_rows_with, ScannedRows.scanned_rows}

-- ---- numbers

-- numbers are in a total order
ids_total : IsTotalOrder id_order
ids_total = then_total (on_total (λ id. id.txn) nat_cmp_total) (on_total (λ id. id.n) nat_cmp_total)

-- a number is itself
pub own_number : (id : RowId) → is_same_id id id ≡ true
own_number id = ap is_eq (tied_itself ids_total id)

-- ---- a change leaves what stands at another number

put_other_if : (order : Ordering) (id put : RowId) (keyed : Keyed) (entry : RowId × Keyed) (rows more : List (RowId × Keyed)) → id_order put entry.0 ≡ order
    → is_same_id id put ≡ false → lookup (is_at (id_order id)) more ≡ lookup (is_at (id_order id)) rows
    → lookup (is_at (id_order id)) (match_ordering order ((put, keyed) ∷ entry ∷ rows) ((entry.0, keyed) ∷ rows) (entry ∷ more)) ≡ lookup (is_at (id_order id)) (entry ∷ rows)
put_other_if Less id put keyed entry rows more is other further = ap (λ b. cond b (Some keyed) (lookup (is_at (id_order id)) (entry ∷ rows))) other
put_other_if Equal id put keyed entry rows more is other further =
    let not : is_same_id id entry.0 ≡ false = ap (is_same_id id) (sym (same_id put entry.0 is)) ∙ other in
    ap (λ b. cond b (Some keyed) (lookup (is_at (id_order id)) rows)) not ∙ sym (ap (λ b. cond b (Some entry.1) (lookup (is_at (id_order id)) rows)) not)
put_other_if Greater id put keyed entry rows more is other further = ap (cond (is_same_id id entry.0) (Some entry.1)) further

put_other : (id put : RowId) (keyed : Keyed) (rows : List (RowId × Keyed)) → is_same_id id put ≡ false
    → lookup (is_at (id_order id)) (insert_entry id_order rows put keyed) ≡ lookup (is_at (id_order id)) rows
put_other id put keyed [] other = ap (λ b. cond b (Some keyed) None) other
put_other id put keyed (entry ∷ rows) other = put_other_if (id_order put entry.0) id put keyed entry rows (insert_entry id_order rows put keyed) refl other (put_other id put keyed rows other)

gone_other_if : (b : Bool) (id gone : RowId) (entry : RowId × Keyed) (rows more : List (RowId × Keyed)) → is_same_id gone entry.0 ≡ b
    → is_same_id id gone ≡ false → lookup (is_at (id_order id)) more ≡ lookup (is_at (id_order id)) rows
    → lookup (is_at (id_order id)) (cond b rows (entry ∷ more)) ≡ lookup (is_at (id_order id)) (entry ∷ rows)
gone_other_if true id gone entry rows more is other further =
    sym (ap (λ b. cond b (Some entry.1) (lookup (is_at (id_order id)) rows)) (ap (is_same_id id) (sym (same_id gone entry.0 (equal_if (id_order gone entry.0) is))) ∙ other))
gone_other_if false id gone entry rows more is other further = ap (cond (is_same_id id entry.0) (Some entry.1)) further

gone_other : (id gone : RowId) (rows : List (RowId × Keyed)) → is_same_id id gone ≡ false → lookup (is_at (id_order id)) (remove_entry (is_at (id_order gone)) rows) ≡ lookup (is_at (id_order id)) rows
gone_other id gone [] other = refl
gone_other id gone (entry ∷ rows) other =
    gone_other_if (is_same_id gone entry.0) id gone entry rows (remove_entry (is_at (id_order gone)) rows) refl other (gone_other id gone rows other)

with_other : (id changed : RowId) (content : Option Keyed) (rows : List (RowId × Keyed)) → is_same_id id changed ≡ false
    → lookup (is_at (id_order id)) (with_row changed content rows) ≡ lookup (is_at (id_order id)) rows
with_other id changed (Some keyed) rows other = put_other id changed keyed rows other
with_other id changed None rows other = gone_other id changed rows other

other_if : (b : Bool) (id changed : RowId) (content : Option Keyed) (rows : List (RowId × Keyed)) → is_same_id id changed ≡ false
    → lookup (is_at (id_order id)) (cond b (with_row changed content rows) rows) ≡ lookup (is_at (id_order id)) rows
other_if true id changed content rows other = with_other id changed content rows other
other_if false id changed content rows other = refl

-- a change of a row leaves what stands at another number
pub row_at_other : (s : State) (change : RowChange) (table : List ℕ) (id : RowId) → is_same_id id change.id ≡ false → row_at (changed s (Change.Row change)) table id ≡ row_at s table id
row_at_other s change table id other =
    ap (lookup (is_at (id_order id))) (entries_of_changed s change table) ∙ other_if (is_name table change.table) id change.id change.after (entries_of s table) other

-- ---- rows at different numbers

-- the content that the row has
abbrev pub content_of : Stored → Option Keyed
content_of stored = Some (record { key = stored.key; row = stored.row })

-- no content
abbrev pub no_content : Stored → Option Keyed
no_content stored = None

-- at the number of each of the rows stands that content
abbrev pub HaveAt : State → List ℕ → (Stored → Option Keyed) → List Stored → Type 0
HaveAt s table content rows = AllByRecursion (λ stored. row_at s table stored.id ≡ content stored) rows

-- none of the rows has the number
abbrev pub OtherThan : RowId → List Stored → Type 0
OtherThan id rows = AllByRecursion (λ stored. is_same_id stored.id id ≡ false) rows

-- the rows have different numbers
abbrev pub Apart : List Stored → Type 0
Apart [] = Unit {0}
Apart (stored ∷ rows) = OtherThan stored.id rows × Apart rows

-- what stands at other numbers stays
have_after : (s : State) (change : RowChange) (table : List ℕ) (content : Stored → Option Keyed) (rows : List Stored) → OtherThan change.id rows → HaveAt s table content rows
    → HaveAt (changed s (Change.Row change)) table content rows
have_after s change table content [] other have = tt
have_after s change table content (stored ∷ rows) other have =
    (row_at_other s change table stored.id other.0 ∙ have.0, have_after s change table content rows other.1 have.1)

-- ---- changes at different numbers

deleted_fit : (s : State) (table : List ℕ) (rows : List Stored) → Apart rows → HaveAt s table content_of rows → FitsAll s (map (deleted_row table) rows)
deleted_fit s table [] apart have = tt
deleted_fit s table (stored ∷ rows) apart have =
    let change : RowChange = record { table = table; id = stored.id; before = content_of stored; after = None } in
    (have.0, deleted_fit (changed s (Change.Row change)) table rows apart.1 (have_after s change table content_of rows apart.0 have.1))

changed_fit : (s : State) (table : List ℕ) (old new : List Stored) → Apart old → HaveAt s table content_of old → FitsAll s (changed_rows table old new)
changed_fit s table old [] apart have = tt
changed_fit s table [] (new ∷ news) apart have = tt
changed_fit s table (old ∷ olds) (new ∷ news) apart have =
    let change : RowChange = record { table = table; id = old.id; before = content_of old; after = content_of new } in
    (have.0, changed_fit (changed s (Change.Row change)) table olds news apart.1 (have_after s change table content_of olds apart.0 have.1))

inserted_fit : (s : State) (table : List ℕ) (rows : List Stored) → Apart rows → HaveAt s table no_content rows → FitsAll s (map (inserted_row table) rows)
inserted_fit s table [] apart have = tt
inserted_fit s table (stored ∷ rows) apart have =
    let change : RowChange = record { table = table; id = stored.id; before = None; after = content_of stored } in
    (have.0, inserted_fit (changed s (Change.Row change)) table rows apart.1 (have_after s change table no_content rows apart.0 have.1))

-- ---- the rows of a table in order

-- rows of the table, each once
pub record StandIn (s : State) (table : List ℕ) (rows : List Stored) : Type 0 where
  pub apart : Apart rows
  pub have : HaveAt s table content_of rows

above_other : (id other : RowId) → id_order id other ≡ Less → is_same_id other id ≡ false
above_other id other less = ap is_eq (ids_total.antisymm other id ∙ ap ordering_reverse less)

above_others : (id : RowId) (entries : List (RowId × Keyed)) → AllByRecursion (λ other. id_order id other ≡ Less) (keys_of entries) → OtherThan id (map stored_of entries)
above_others id [] above = tt
above_others id (entry ∷ entries) above = (above_other id entry.0 above.0, above_others id entries above.1)

entries_apart : (entries : List (RowId × Keyed)) → Ascend entries → Apart (map stored_of entries)
unfolding IsStrictlySortedBy
entries_apart [] ascend = tt
entries_apart (entry ∷ entries) ascend = (above_others entry.0 entries ascend.0, entries_apart entries ascend.1)

-- the entries find the content of the rows
abbrev Find : List (RowId × Keyed) → List Stored → Type 0
Find entries rows = AllByRecursion (λ stored. lookup (is_at (id_order stored.id)) entries ≡ content_of stored) rows

find_behind : (first : RowId × Keyed) (entries : List (RowId × Keyed)) (rows : List Stored) → OtherThan first.0 rows → Find entries rows → Find (first ∷ entries) rows
find_behind first entries [] other find = tt
find_behind first entries (stored ∷ rows) other find =
    (ap (λ b. cond b (Some first.1) (lookup (is_at (id_order stored.id)) entries)) other.0 ∙ find.0, find_behind first entries rows other.1 find.1)

entries_find : (entries : List (RowId × Keyed)) → Apart (map stored_of entries) → Find entries (map stored_of entries)
entries_find [] apart = tt
entries_find (entry ∷ entries) apart = (
  ap (λ b. cond b (Some entry.1) (lookup (is_at (id_order entry.0)) entries)) (own_number entry.0),
  find_behind entry entries (map stored_of entries) apart.0 (entries_find entries apart.1),
)

-- the rows of a table stand in it
pub rows_stand : (s : State) (table : List ℕ) → RowsInOrder s table → StandIn s table (rows_of s table)
rows_stand s table ordered =
    let apart : Apart (rows_of s table) = entries_apart (entries_of s table) ordered in
    record { apart = apart; have = entries_find (entries_of s table) apart }

all_if : (P : Stored → Type 0) (b : Bool) (stored : Stored) (rows : List Stored) → P stored → AllByRecursion P rows → AllByRecursion P (cond b (stored ∷ rows) rows)
all_if P true stored rows first all = (first, all)
all_if P false stored rows first all = all

all_filter : (P : Stored → Type 0) (test : Stored → Bool) (rows : List Stored) → AllByRecursion P rows → AllByRecursion P (filter test rows)
all_filter P test [] all = tt
all_filter P test (stored ∷ rows) all = all_if P (test stored) stored (filter test rows) all.0 (all_filter P test rows all.1)

apart_if : (b : Bool) (stored : Stored) (rows : List Stored) → OtherThan stored.id rows → Apart rows → Apart (cond b (stored ∷ rows) rows)
apart_if true stored rows other apart = (other, apart)
apart_if false stored rows other apart = apart

apart_filter : (test : Stored → Bool) (rows : List Stored) → Apart rows → Apart (filter test rows)
apart_filter test [] apart = tt
apart_filter test (stored ∷ rows) apart =
    apart_if (test stored) stored (filter test rows) (all_filter (λ other. is_same_id other.id stored.id ≡ false) test rows apart.0) (apart_filter test rows apart.1)

-- some of the rows stand in it too
pub filter_stand : (s : State) (table : List ℕ) (test : Stored → Bool) (rows : List Stored) → StandIn s table rows → StandIn s table (filter test rows)
filter_stand s table test rows stand = record {
  apart = apart_filter test rows stand.apart;
  have = all_filter (λ stored. row_at s table stored.id ≡ content_of stored) test rows stand.have;
}

-- ---- the scanned rows

all_stand : (s : State) (name : List ℕ) → RowsInOrder s name → StandIn s name (rows_at s name)
unfolding rows_at
all_stand s name ordered = rows_stand s name ordered

keyed_stand : (s : State) (name : List ℕ) (key : List Value) → RowsInOrder s name → StandIn s name (keyed_at s name key)
unfolding keyed_at
keyed_stand s name key ordered = filter_stand s name (λ stored. is_same_row stored.key key) (rows_of s name) (rows_stand s name ordered)

key_stand : (b : Bool) (s : State) (name : List ℕ) (key : List Value) → RowsInOrder s name
    → IfOk (if b then (known (Ok [])).in_state s else (asked_key name key).in_state s).gives (StandIn s name)
key_stand true s name key ordered = record { apart = tt; have = tt }
key_stand false s name key ordered = keyed_stand s name key ordered

with_stand : (s : State) (name : List ℕ) (pinned : Option (List Value)) → RowsInOrder s name → IfOk ((scanned_rows_with name pinned).in_state s).gives (StandIn s name)
with_stand s name None ordered = all_stand s name ordered
with_stand s name (Some key) ordered = key_stand (list_any is_null key) s name key ordered

-- the scanned rows stand in the table
pub scanned_rows_stand : (s : State) (user name : List ℕ) (table : TableDef) (condition : Option Term) → RowsInOrder s name
    → IfOk ((scanned_rows user name table condition).in_state s).gives (StandIn s name)
scanned_rows_stand s user name table condition ordered = with_stand s name (pinned_key user table.key condition) ordered

-- ---- one step after another

-- it holds behind a step, whatever the step gives
pub done_then : {A : Type 0} (fact : List Change → Type 0) (given : Result A Refusal) (next : A → Result Effect Refusal) → ((a : A) → IfDone (next a) fact) → IfDone (and_then given next) fact
done_then fact (Ok a) next all = all a
done_then fact (Err refusal) next all = tt

-- it holds behind a step, where it does behind what the step may give
pub done_after : {A : Type 0} (P : A → Type 0) (fact : List Change → Type 0) (given : Result A Refusal) (next : A → Result Effect Refusal) → IfOk given P → ((a : A) → P a → IfDone (next a) fact)
    → IfDone (and_then given next) fact
done_after P fact (Ok a) next may all = all a may
done_after P fact (Err refusal) next may all = tt

-- the same of a step that gives another value
pub given_then : {A B : Type 0} (Q : B → Type 0) (given : Result A Refusal) (next : A → Result B Refusal) → ((a : A) → IfOk (next a) Q) → IfOk (and_then given next) Q
given_then Q (Ok a) next all = all a
given_then Q (Err refusal) next all = tt

pub given_after : {A B : Type 0} (P : A → Type 0) (Q : B → Type 0) (given : Result A Refusal) (next : A → Result B Refusal) → IfOk given P → ((a : A) → P a → IfOk (next a) Q) → IfOk (and_then given next) Q
given_after P Q (Ok a) next may all = all a may
given_after P Q (Err refusal) next may all = tt

-- what follows of what is given
if_ok_all : {A : Type 0} (given : Result A Refusal) (P Q : A → Type 0) → IfOk given P → ((a : A) → P a → Q a) → IfOk given Q
if_ok_all (Ok a) P Q is all = all a is
if_ok_all (Err refusal) P Q is all = tt

-- as many are given as are gone through
each_with_length : {A B : Type 0} (give : A → List Value → Result B Refusal) (xs : List A) (values : List (List Value)) → IfOk (each_with give xs values) (λ ys. length ys ≡ length xs)
each_with_length give [] values = refl
each_with_length {B = B} give (x ∷ xs) values =
    given_then (λ ys. length ys ≡ suc (length xs)) (give x (first_of values)) (λ y. and_then (each_with give xs (behind_first values)) (λ ys. Ok (y ∷ ys))) (λ y.
    given_after (λ ys. length ys ≡ length xs) (λ ys. length ys ≡ suc (length xs)) (each_with give xs (behind_first values)) (λ ys. Ok (y ∷ ys)) (each_with_length give xs (behind_first values)) (λ ys same. ap suc same))

each_taking_length : {A B : Type 0} (many : ℕ) (give : A → List Value → Result B Refusal) (xs : List A) (values : List Value) → IfOk (each_taking many give xs values) (λ ys. length ys ≡ length xs)
each_taking_length many give [] values = refl
each_taking_length {B = B} many give (x ∷ xs) values =
    given_then (λ ys. length ys ≡ suc (length xs)) (give x (take many values)) (λ y. and_then (each_taking many give xs (drop many values)) (λ ys. Ok (y ∷ ys))) (λ y.
    given_after (λ ys. length ys ≡ length xs) (λ ys. length ys ≡ suc (length xs)) (each_taking many give xs (drop many values)) (λ ys. Ok (y ∷ ys)) (each_taking_length many give xs (drop many values)) (λ ys same. ap suc same))

-- ---- the qualifying rows

-- it holds of what is gathered, whatever is told on the way
gathered_all : {A B R : Type 0} (P : List A → R → Type 0) (s : State) (put : A → B → R → R) (none : R) (ask : A → Asking B) → P [] none → ((x : A) (xs : List A) (y : B) (rest : R) → P xs rest → P (x ∷ xs) (put x y rest))
    → (xs : List A) → IfOk ((gathered put none ask xs).in_state s).gives (P xs)
gathered_all P s put none ask base step [] = base
gathered_all P s put none ask base step (x ∷ xs) =
    given_then (P (x ∷ xs)) ((ask x).in_state s).gives (λ y. ((followed_by (gathered put none ask xs) (λ rest. known (Ok (put x y rest)))).in_state s).gives) (λ y.
    given_after (P xs) (P (x ∷ xs)) ((gathered put none ask xs).in_state s).gives (λ rest. Ok (put x y rest)) (gathered_all P s put none ask base step xs) (λ rest holds. step x xs y rest holds))

-- rows that were picked out of others
record Picked (s : State) (name : List ℕ) (rows picked : List Stored) : Type 0 where
  others : (id : RowId) → OtherThan id rows → OtherThan id picked
  apart : Apart rows → Apart picked
  have : AllByRecursion (λ stored. row_at s name stored.id ≡ content_of stored) rows → AllByRecursion (λ stored. row_at s name stored.id ≡ content_of stored) picked

picked_more : (s : State) (name : List ℕ) (is : Bool) (stored : Stored) (rows picked : List Stored) → Picked s name rows picked → Picked s name (stored ∷ rows) (row_if_qualifying is stored ++ picked)
picked_more s name true stored rows picked so = record {
  others = λ id other. (other.0, so.others id other.1);
  apart = λ apart. (so.others stored.id apart.0, so.apart apart.1);
  have = λ have. (have.0, so.have have.1);
}
picked_more s name false stored rows picked so = record { others = λ id other. so.others id other.1; apart = λ apart. so.apart apart.1; have = λ have. so.have have.1 }

-- the qualifying rows stand in the table, where those that are looked at do
pub qualifying_rows_stand : (s : State) (name : List ℕ) (row_checks : List RowCheck) (relations : List SecuredRelation) (user : List ℕ) (condition : Option Term) (rows : List Stored) → StandIn s name rows
    → IfOk ((qualifying_rows_of row_checks relations user condition rows).in_state s).gives (λ judged. StandIn s name judged.1)
qualifying_rows_stand s name row_checks relations user condition rows stand =
    if_ok_all ((judged_all row_checks relations user condition rows).in_state s).gives (λ judged. Picked s name rows judged.1) (λ judged. StandIn s name judged.1)
    (gathered_all (λ rows judged. Picked s name rows judged.1) s with_judged ([], []) (judged_old row_checks (maybe_term condition) (shows relations user) user)
    (record { others = λ id other. tt; apart = λ apart. tt; have = λ have. tt }) (λ stored rows judged rest so. picked_more s name judged.1 stored rows rest.1 so) rows)
    (λ judged so. record { apart = so.apart stand.apart; have = so.have stand.have })

-- ---- DELETE

deleted_at : (name : List ℕ) (rows : List Stored) → Overwrite name (map (λ stored. stored.id) rows) (map (deleted_row name) rows)
deleted_at name [] = refl
deleted_at name (stored ∷ rows) = ap (λ places. Row name stored.id ∷ places) (deleted_at name rows)

-- a DELETE overwrites the qualifying rows
pub delete_overwrites : (name : List ℕ) (analysed_delete : AnalysedDelete) (role : List ℕ) (judged : List Decision × List Stored)
    → IfDone (Ok (deleted name analysed_delete role judged)) (Overwrite name (map (λ stored. stored.id) judged.1))
delete_overwrites name analysed_delete role judged = deleted_at name judged.1

delete_qualifying_rows_fit : (s : State) (role name : List ℕ) (expansion : PolicyExpansion) (analysed_delete : AnalysedDelete) (rows : List Stored) → StandIn s name rows
    → IfDone ((delete_qualifying_rows role name expansion analysed_delete rows).in_state s).gives (FitsAll s)
unfolding delete_qualifying_rows
delete_qualifying_rows_fit s role name expansion analysed_delete rows stand =
    done_after (λ judged. StandIn s name judged.1) (FitsAll s) ((qualifying_rows_of expansion.old expansion.relations role analysed_delete.condition rows).in_state s).gives (λ judged. Ok (deleted name analysed_delete role judged))
    (qualifying_rows_stand s name expansion.old expansion.relations role analysed_delete.condition rows stand) (λ judged gone. deleted_fit s name judged.1 gone.apart gone.have)

delete_with_quals_fit : (s : State) (role_privileges : RolePrivileges) (expansion : PolicyExpansion) (analysed_delete : AnalysedDelete) (role name : List ℕ) (table : TableDef) → RowsInOrder s name
    → IfDone ((delete_with_quals role_privileges expansion analysed_delete role name table).in_state s).gives (FitsAll s)
unfolding delete_with_quals
delete_with_quals_fit s role_privileges expansion analysed_delete role name table ordered =
    done_then (FitsAll s) ((permissions_or_denied role_privileges (checks_of Privilege.Delete name [] (delete_columns table analysed_delete) (permission_checks expansion (where_selected analysed_delete.found analysed_delete.condition)))).in_state s).gives
    (λ _. ((followed_by (scanned_rows role name table analysed_delete.condition) (λ rows. delete_qualifying_rows role name expansion analysed_delete rows)).in_state s).gives) (λ _.
    done_after (StandIn s name) (FitsAll s) ((scanned_rows role name table analysed_delete.condition).in_state s).gives
    (λ rows. ((delete_qualifying_rows role name expansion analysed_delete rows).in_state s).gives)
    (scanned_rows_stand s role name table analysed_delete.condition ordered) (λ rows stand. delete_qualifying_rows_fit s role name expansion analysed_delete rows stand))

delete_as_fit : (s : State) (role_privileges : RolePrivileges) (role name : List ℕ) (table : TableDef) (analysed_delete : AnalysedDelete) → RowsInOrder s name
    → IfDone ((delete_as role_privileges role name table analysed_delete).in_state s).gives (FitsAll s)
unfolding delete_as
delete_as_fit s role_privileges role name table analysed_delete ordered =
    done_then (FitsAll s) ((expansion_of role_privileges name table Kind.Delete (has_some (delete_columns table analysed_delete)) (tables_if analysed_delete.condition)).in_state s).gives
    (λ expansion. ((delete_with_quals role_privileges expansion analysed_delete role name table).in_state s).gives) (λ expansion.
    delete_with_quals_fit s role_privileges expansion analysed_delete role name table ordered)

delete_from_fit : (s : State) (role name : List ℕ) (table : TableDef) (analysed_delete : AnalysedDelete) → RowsInOrder s name
    → IfDone ((delete_from role name table analysed_delete).in_state s).gives (FitsAll s)
unfolding delete_from
delete_from_fit s role name table analysed_delete ordered =
    done_then (FitsAll s) ((role_privileges_of role).in_state s).gives (λ role_privileges. ((delete_as role_privileges role name table analysed_delete).in_state s).gives) (λ role_privileges.
    delete_as_fit s role_privileges role name table analysed_delete ordered)

-- the changes of a DELETE fit the state
pub delete_fits : (s : State) (ctx : Ctx) (asked : Delete) → RowsInOrder s asked.table → IfDone ((delete ctx asked).in_state s).gives (FitsAll s)
delete_fits s ctx asked ordered =
    done_then (FitsAll s) ((table_or_undefined asked.table).in_state s).gives
    (λ table. ((followed_by (analysed_delete_for asked table) (λ analysed_delete. delete_from ctx.role asked.table table analysed_delete)).in_state s).gives) (λ table.
    done_then (FitsAll s) ((analysed_delete_for asked table).in_state s).gives (λ analysed_delete. ((delete_from ctx.role asked.table table analysed_delete).in_state s).gives) (λ analysed_delete.
    delete_from_fit s ctx.role asked.table table analysed_delete ordered))

-- ---- UPDATE

changed_at : (name : List ℕ) (old new : List Stored) → length new ≡ length old → Overwrite name (map (λ stored. stored.id) old) (changed_rows name old new)
changed_at name [] [] same = refl
changed_at name (stored ∷ old) [] same = absurd (suc-ne-zero (length old) (sym same))
changed_at name [] (stored ∷ new) same = absurd (suc-ne-zero (length new) same)
changed_at name (stored ∷ old) (changed ∷ new) same = ap (λ places. Row name stored.id ∷ places) (changed_at name old new (suc_inj same))

updated_done : (fact : List Change → Type 0) (name : List ℕ) (analysed_update : AnalysedUpdate) (role : List ℕ) (decisions : List Decision) (old new : List Stored) (settled : Result (Unit {0}) Refusal)
    → fact (changed_rows name old new) → IfDone (Ok (updated name analysed_update role decisions old new settled)) fact
updated_done fact name analysed_update role decisions old new (Ok _) is = is
updated_done fact name analysed_update role decisions old new (Err refusal) is = tt

update_rows_done : (fact : List Change → Type 0) (s : State) (role name : List ℕ) (table : TableDef) (expansion : PolicyExpansion) (analysed_update : AnalysedUpdate) (before : List Decision) (old new : List Stored)
    → fact (changed_rows name old new) → IfDone ((update_rows role name table expansion analysed_update before old new).in_state s).gives fact
unfolding update_rows update_judged
update_rows_done fact s role name table expansion analysed_update before old new is =
    done_then fact ((decisions_of expansion.new expansion.relations role new).in_state s).gives
    (λ after. Ok (updated name analysed_update role (before ++ after) old new ((rows_or_refused name table.columns (order_of (places_set analysed_update.assignments) table.columns) after old new).in_state s).gives)) (λ after.
    updated_done fact name analysed_update role (before ++ after) old new
    ((rows_or_refused name table.columns (order_of (places_set analysed_update.assignments) table.columns) after old new).in_state s).gives is)

update_values_done : (fact : List Change → Type 0) (s : State) (role name : List ℕ) (table : TableDef) (expansion : PolicyExpansion) (analysed_update : AnalysedUpdate) (before : List Decision) (old : List Stored)
    → ((new : List Stored) → length new ≡ length old → fact (changed_rows name old new)) → IfDone ((update_values role name table expansion analysed_update before old).in_state s).gives fact
unfolding update_values update_made
update_values_done fact s role name table expansion analysed_update before old all =
    done_then fact ((assignments_of expansion.relations role analysed_update.assignments old).in_state s).gives
    (λ values. ((followed_by (known (updated_rows table (places_set analysed_update.assignments) old values)) (λ new. update_rows role name table expansion analysed_update before old new)).in_state s).gives) (λ values.
    done_after (λ new. length new ≡ length old) fact (updated_rows table (places_set analysed_update.assignments) old values)
    (λ new. ((update_rows role name table expansion analysed_update before old new).in_state s).gives)
    (each_taking_length (length (places_set analysed_update.assignments)) (updated_row table (places_set analysed_update.assignments)) old values) (λ new same.
    update_rows_done fact s role name table expansion analysed_update before old new (all new same)))

-- an UPDATE overwrites the qualifying rows
pub update_overwrites : (s : State) (role name : List ℕ) (table : TableDef) (expansion : PolicyExpansion) (analysed_update : AnalysedUpdate) (before : List Decision) (old : List Stored)
    → IfDone ((update_values role name table expansion analysed_update before old).in_state s).gives (Overwrite name (map (λ stored. stored.id) old))
update_overwrites s role name table expansion analysed_update before old =
    update_values_done (Overwrite name (map (λ stored. stored.id) old)) s role name table expansion analysed_update before old (changed_at name old)

update_qualifying_rows_fit : (s : State) (role name : List ℕ) (table : TableDef) (expansion : PolicyExpansion) (analysed_update : AnalysedUpdate) (rows : List Stored) → StandIn s name rows
    → IfDone ((update_qualifying_rows role name table expansion analysed_update rows).in_state s).gives (FitsAll s)
unfolding update_qualifying_rows
update_qualifying_rows_fit s role name table expansion analysed_update rows stand =
    done_after (λ judged. StandIn s name judged.1) (FitsAll s) ((qualifying_rows_of expansion.old expansion.relations role analysed_update.condition rows).in_state s).gives
    (λ judged. ((update_values role name table expansion analysed_update judged.0 judged.1).in_state s).gives)
    (qualifying_rows_stand s name expansion.old expansion.relations role analysed_update.condition rows stand) (λ judged old.
    update_values_done (FitsAll s) s role name table expansion analysed_update judged.0 judged.1 (λ new _. changed_fit s name judged.1 new old.apart old.have))

update_with_quals_fit : (s : State) (role_privileges : RolePrivileges) (expansion : PolicyExpansion) (analysed_update : AnalysedUpdate) (role name : List ℕ) (table : TableDef) → RowsInOrder s name
    → IfDone ((update_with_quals role_privileges expansion analysed_update role name table).in_state s).gives (FitsAll s)
unfolding update_with_quals
update_with_quals_fit s role_privileges expansion analysed_update role name table ordered =
    done_then (FitsAll s) ((permissions_or_denied role_privileges (checks_of Privilege.Update name (update_columns table analysed_update) (update_columns_read table analysed_update) (permission_checks expansion (update_selected analysed_update)))).in_state s).gives
    (λ _. ((followed_by (scanned_rows role name table analysed_update.condition) (λ rows. update_qualifying_rows role name table expansion analysed_update rows)).in_state s).gives) (λ _.
    done_after (StandIn s name) (FitsAll s) ((scanned_rows role name table analysed_update.condition).in_state s).gives
    (λ rows. ((update_qualifying_rows role name table expansion analysed_update rows).in_state s).gives)
    (scanned_rows_stand s role name table analysed_update.condition ordered) (λ rows stand. update_qualifying_rows_fit s role name table expansion analysed_update rows stand))

update_as_fit : (s : State) (role_privileges : RolePrivileges) (role name : List ℕ) (table : TableDef) (analysed_update : AnalysedUpdate) → RowsInOrder s name
    → IfDone ((update_as role_privileges role name table analysed_update).in_state s).gives (FitsAll s)
unfolding update_as
update_as_fit s role_privileges role name table analysed_update ordered =
    done_then (FitsAll s) ((expansion_of role_privileges name table Kind.Update (has_some (update_columns_read table analysed_update)) (analysed_update_tables analysed_update)).in_state s).gives
    (λ expansion. ((update_with_quals role_privileges expansion analysed_update role name table).in_state s).gives) (λ expansion.
    update_with_quals_fit s role_privileges expansion analysed_update role name table ordered)

update_in_fit : (s : State) (role name : List ℕ) (table : TableDef) (analysed_update : AnalysedUpdate) → RowsInOrder s name
    → IfDone ((update_in role name table analysed_update).in_state s).gives (FitsAll s)
unfolding update_in
update_in_fit s role name table analysed_update ordered =
    done_then (FitsAll s) ((role_privileges_of role).in_state s).gives (λ role_privileges. ((update_as role_privileges role name table analysed_update).in_state s).gives) (λ role_privileges.
    update_as_fit s role_privileges role name table analysed_update ordered)

-- the changes of an UPDATE fit the state
pub update_fits : (s : State) (ctx : Ctx) (asked : Update) → RowsInOrder s asked.table → IfDone ((update ctx asked).in_state s).gives (FitsAll s)
update_fits s ctx asked ordered =
    done_then (FitsAll s) ((table_or_undefined asked.table).in_state s).gives
    (λ table. ((followed_by (analysed_update_for asked table) (λ analysed_update. update_in ctx.role asked.table table analysed_update)).in_state s).gives) (λ table.
    done_then (FitsAll s) ((analysed_update_for asked table).in_state s).gives (λ analysed_update. ((update_in ctx.role asked.table table analysed_update).in_state s).gives) (λ analysed_update.
    update_in_fit s ctx.role asked.table table analysed_update ordered))

-- ---- INSERT

pub not_if : (b : Bool) → (b ≡ true → ⊥) → b ≡ false
not_if true never = absurd (never refl)
not_if false never = refl

later_other : (txn n next : ℕ) → n < next → is_same_id (record { txn = txn; n = next }) (record { txn = txn; n = n }) ≡ false
later_other txn n next less =
    let later : RowId = record { txn = txn; n = next } in
    let first : RowId = record { txn = txn; n = n } in
    not_if (is_same_id later first) (λ same.
    not-suc-le_self n (subst (λ m. suc n ≤ m) (ap (λ id. id.n) (same_id later first (equal_if (id_order later first) same))) less))

later_others : (places : List ℕ) (txn n next : ℕ) (rows : List (List Value)) → n < next → OtherThan (record { txn = txn; n = n }) (numbered places txn next rows)
later_others places txn n next [] less = tt
later_others places txn n next (row ∷ rows) less = (later_other txn n next less, later_others places txn n (suc next) rows (le_trans less (le-suc next)))

pub numbered_apart : (places : List ℕ) (txn next : ℕ) (rows : List (List Value)) → Apart (numbered places txn next rows)
numbered_apart places txn next [] = tt
numbered_apart places txn next (row ∷ rows) = (later_others places txn next (suc next) rows (le_refl (suc next)), numbered_apart places txn (suc next) rows)

numbered_free : (s : State) (table places : List ℕ) (txn next : ℕ) (rows : List (List Value)) → NumbersFree s table txn next → HaveAt s table no_content (numbered places txn next rows)
numbered_free s table places txn next [] free = tt
numbered_free s table places txn next (row ∷ rows) free =
    (free next (le_refl next), numbered_free s table places txn (suc next) rows (λ n from. free n (le_of_suc-le from)))

numbered_at : (name places : List ℕ) (txn next count : ℕ) (rows : List (List Value)) → length rows ≡ count
    → Overwrite name (numbers_from txn next count) (map (inserted_row name) (numbered places txn next rows))
numbered_at name places txn next zero [] same = refl
numbered_at name places txn next zero (row ∷ rows) same = absurd (suc-ne-zero (length rows) same)
numbered_at name places txn next (suc count) [] same = absurd (suc-ne-zero count (sym same))
numbered_at name places txn next (suc count) (row ∷ rows) same = ap (λ others. Row name (record { txn = txn; n = next }) ∷ others) (numbered_at name places txn (suc next) count rows (suc_inj same))

-- it holds of the changes that put so many rows into the table, numbered on from the transaction's next
abbrev pub HoldsOf : (List Change → Type 0) → Ctx → List ℕ → ℕ → Type 0
HoldsOf fact ctx name count = (places : List ℕ) (rows : List (List Value)) → length rows ≡ count → fact (map (inserted_row name) (numbered places ctx.txn ctx.next rows))

inserted_done : (fact : List Change → Type 0) (name : List ℕ) (returning : Option Selected) (role : List ℕ) (decisions : List Decision) (rows : List Stored) (settled : Result (Unit {0}) Refusal)
    → fact (map (inserted_row name) rows) → IfDone (Ok (inserted name returning role decisions rows settled)) fact
inserted_done fact name returning role decisions rows (Ok _) is = is
inserted_done fact name returning role decisions rows (Err refusal) is = tt

insert_rows_done : (fact : List Change → Type 0) (s : State) (role name : List ℕ) (table : TableDef) (expansion : PolicyExpansion) (analysed_insert : AnalysedInsert) (rows : List Stored) → fact (map (inserted_row name) rows)
    → IfDone ((insert_rows role name table expansion analysed_insert rows).in_state s).gives fact
unfolding insert_rows insert_judged
insert_rows_done fact s role name table expansion analysed_insert rows is =
    done_then fact ((decisions_of expansion.new expansion.relations role rows).in_state s).gives
    (λ decisions. Ok (inserted name analysed_insert.returning role decisions rows ((rows_or_refused name table.columns (order_of analysed_insert.places table.columns) decisions [] rows).in_state s).gives)) (λ decisions.
    inserted_done fact name analysed_insert.returning role decisions rows
    ((rows_or_refused name table.columns (order_of analysed_insert.places table.columns) decisions [] rows).in_state s).gives is)

new_rows_hold : (fact : List Change → Type 0) (ctx : Ctx) (name : List ℕ) (table : TableDef) (analysed_insert : AnalysedInsert) (values : List (List Value)) → HoldsOf fact ctx name (length analysed_insert.tuples)
    → IfOk (new_rows ctx table analysed_insert values) (λ rows. fact (map (inserted_row name) rows))
new_rows_hold fact ctx name table analysed_insert values all =
    given_after (λ rows. length rows ≡ length analysed_insert.tuples) (λ rows. fact (map (inserted_row name) rows)) (each_with (row_of_tuple table analysed_insert.places) analysed_insert.tuples values)
    (λ rows. Ok (numbered table.key ctx.txn ctx.next rows)) (each_with_length (row_of_tuple table analysed_insert.places) analysed_insert.tuples values) (all table.key)

insert_values_done : (fact : List Change → Type 0) (s : State) (ctx : Ctx) (name : List ℕ) (table : TableDef) (expansion : PolicyExpansion) (analysed_insert : AnalysedInsert)
    → HoldsOf fact ctx name (length analysed_insert.tuples) → IfDone ((insert_values ctx name table expansion analysed_insert).in_state s).gives fact
unfolding insert_values insert_made
insert_values_done fact s ctx name table expansion analysed_insert all =
    done_then fact ((tuples_of expansion.relations ctx.role analysed_insert.tuples).in_state s).gives
    (λ values. ((followed_by (known (new_rows ctx table analysed_insert values)) (λ rows. insert_rows ctx.role name table expansion analysed_insert rows)).in_state s).gives) (λ values.
    done_after (λ rows. fact (map (inserted_row name) rows)) fact (new_rows ctx table analysed_insert values)
    (λ rows. ((insert_rows ctx.role name table expansion analysed_insert rows).in_state s).gives)
    (new_rows_hold fact ctx name table analysed_insert values all) (λ rows is.
    insert_rows_done fact s ctx.role name table expansion analysed_insert rows is))

insert_with_quals_done : (fact : List Change → Type 0) (s : State) (ctx : Ctx) (name : List ℕ) (table : TableDef) (role_privileges : RolePrivileges) (expansion : PolicyExpansion) (analysed_insert : AnalysedInsert)
    → HoldsOf fact ctx name (length analysed_insert.tuples) → IfDone ((insert_with_quals ctx name table role_privileges expansion analysed_insert).in_state s).gives fact
unfolding insert_with_quals
insert_with_quals_done fact s ctx name table role_privileges expansion analysed_insert all =
    done_then fact ((permissions_or_denied role_privileges (checks_of Privilege.Insert name (insert_columns table analysed_insert) (insert_columns_read table analysed_insert) (permission_checks expansion (tuples_selected analysed_insert.found analysed_insert.tuples)))).in_state s).gives
    (λ _. ((insert_values ctx name table expansion analysed_insert).in_state s).gives) (λ _.
    insert_values_done fact s ctx name table expansion analysed_insert all)

insert_as_done : (fact : List Change → Type 0) (s : State) (ctx : Ctx) (name : List ℕ) (table : TableDef) (role_privileges : RolePrivileges) (analysed_insert : AnalysedInsert)
    → HoldsOf fact ctx name (length analysed_insert.tuples) → IfDone ((insert_as ctx name table role_privileges analysed_insert).in_state s).gives fact
unfolding insert_as
insert_as_done fact s ctx name table role_privileges analysed_insert all =
    done_then fact ((expansion_of role_privileges name table Kind.Insert (has_some (insert_columns_read table analysed_insert)) (tuples_tables analysed_insert.tuples)).in_state s).gives
    (λ expansion. ((insert_with_quals ctx name table role_privileges expansion analysed_insert).in_state s).gives) (λ expansion.
    insert_with_quals_done fact s ctx name table role_privileges expansion analysed_insert all)

pub insert_into_done : (fact : List Change → Type 0) (s : State) (ctx : Ctx) (name : List ℕ) (table : TableDef) (analysed_insert : AnalysedInsert)
    → HoldsOf fact ctx name (length analysed_insert.tuples) → IfDone ((insert_into ctx name table analysed_insert).in_state s).gives fact
unfolding insert_into
insert_into_done fact s ctx name table analysed_insert all =
    done_then fact ((role_privileges_of ctx.role).in_state s).gives (λ role_privileges. ((insert_as ctx name table role_privileges analysed_insert).in_state s).gives) (λ role_privileges.
    insert_as_done fact s ctx name table role_privileges analysed_insert all)

-- there are as many tuples as the statement has
tuples_length : (s : State) (ctx : Ctx) (asked : Insert) (table : TableDef) → IfOk ((analysed_insert_for ctx asked table).in_state s).gives (λ analysed_insert. length analysed_insert.tuples ≡ length asked.tuples)
tuples_length s ctx asked table =
    given_then (λ analysed_insert. length analysed_insert.tuples ≡ length asked.tuples) (places_of table.columns asked.columns)
    (λ places. ((followed_by (analysed_insert_named asked (asked.table, table)) (λ found. known (analysed_insert_in ctx.next asked (asked.table, table) places found))).in_state s).gives) (λ places.
    given_then (λ analysed_insert. length analysed_insert.tuples ≡ length asked.tuples) ((analysed_insert_named asked (asked.table, table)).in_state s).gives
    (λ found. analysed_insert_in ctx.next asked (asked.table, table) places found) (λ found.
    given_then (λ analysed_insert. length analysed_insert.tuples ≡ length asked.tuples) (analysed_insert_or_refused ctx.next table.columns (analysed_insert_resolved asked (asked.table, table) places found))
    (λ _. Ok (analysed_insert_resolved asked (asked.table, table) places found)) (λ _. length-map asked.tuples (tuple_resolved (names_over_none found)))))

pub insert_done : (fact : List Change → Type 0) (s : State) (ctx : Ctx) (asked : Insert) → HoldsOf fact ctx asked.table (length asked.tuples) → IfDone ((insert ctx asked).in_state s).gives fact
insert_done fact s ctx asked all =
    done_then fact ((table_or_undefined asked.table).in_state s).gives
    (λ table. ((followed_by (analysed_insert_for ctx asked table) (λ analysed_insert. insert_into ctx asked.table table analysed_insert)).in_state s).gives) (λ table.
    done_after (λ analysed_insert. length analysed_insert.tuples ≡ length asked.tuples) fact ((analysed_insert_for ctx asked table).in_state s).gives
    (λ analysed_insert. ((insert_into ctx asked.table table analysed_insert).in_state s).gives) (tuples_length s ctx asked table) (λ analysed_insert same.
    insert_into_done fact s ctx asked.table table analysed_insert (λ places rows count. all places rows (count ∙ same))))

-- the changes of an INSERT fit the state
pub insert_fits : (s : State) (ctx : Ctx) (asked : Insert) → NumbersFree s asked.table ctx.txn ctx.next → IfDone ((insert ctx asked).in_state s).gives (FitsAll s)
insert_fits s ctx asked free = insert_done (FitsAll s) s ctx asked (λ places rows _.
    inserted_fit s asked.table (numbered places ctx.txn ctx.next rows) (numbered_apart places ctx.txn ctx.next rows) (numbered_free s asked.table places ctx.txn ctx.next rows free))

-- an INSERT writes one row for each tuple, numbered on from the transaction's next
pub insert_overwrites : (s : State) (ctx : Ctx) (asked : Insert) → IfDone ((insert ctx asked).in_state s).gives (Overwrite asked.table (numbers_from ctx.txn ctx.next (length asked.tuples)))
insert_overwrites s ctx asked = insert_done (Overwrite asked.table (numbers_from ctx.txn ctx.next (length asked.tuples))) s ctx asked (λ places rows same.
    numbered_at asked.table places ctx.txn ctx.next (length asked.tuples) rows same)
