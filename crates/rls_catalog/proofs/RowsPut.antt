-- Rows of a table that are put under its name.
use Rattle.std.specs.Prelude.{◌≡◌, refl, ℕ, List, [], ◌∷◌, Some, None, cond}
use Rattle.std.specs.BTreeMap.{is_at, insert_entry}
use Rattle.std.specs.Map.{set_value, keys_of}
use Rattle.std.specs.Ordering.{is_eq, match_ordering}
use Rattle.std.specs.List.Sorted.{IsStrictlySortedBy}
use Rattle.std.specs.declared.cmp.Ordering.{Ordering}
use Rattle.std.specs.declared.cmp.Ordering.TheVariants.{Less, Equal, Greater}
use Rattle.std.proofs.Common.{ap, sym, ◌∙◌}
use Rattle.std.proofs.lemmas.Cmp.{nat_list_cmp_total}
use Rattle.std.specs.Prelude.{is_some}
use Rattle.rls_expr.specs.rls_value.specs.declared.row.RowId.{RowId}
use Rattle.rls_catalog.specs.{declared.stored.Keyed.Keyed, declared.change.Change.Change, declared.change.RowChange.RowChange, State.State, State.at, State.name_order, Changed.changed, Changed.with_row, Changed.with_row_in, Changed.with_rows}
use Rattle.rls_catalog.proofs.{ContentsLaws.own_name, ContentsLaws.at_put, Places.exchanged_inserted}

-- a change of a row of a table that has rows
pub some_put : (s : State) (change : RowChange) (rows : List (RowId × Keyed)) → IsStrictlySortedBy name_order (keys_of s.rows) → at change.table s.rows ≡ Some rows
    → changed s (Change.Row change) ≡ with_rows change.table (with_row change.id change.after rows) s
some_put s change rows ordered found =
    ap (λ there. record s { rows = with_row_in change.table change.id change.after there s.rows }) found
    ∙ ap (λ tables. record s { rows = tables }) (exchanged_inserted nat_list_cmp_total s.rows change.table (with_row change.id change.after rows) ordered (ap is_some found))

-- one of a table that has none
pub none_put : (s : State) (change : RowChange) (keyed : Keyed) → at change.table s.rows ≡ None → change.after ≡ Some keyed
    → changed s (Change.Row change) ≡ with_rows change.table (with_row change.id change.after []) s
none_put s change keyed found after =
    ap (λ there. record s { rows = with_row_in change.table change.id change.after there s.rows }) found
    ∙ ap (λ content. record s { rows = with_row_in change.table change.id content None s.rows }) after
    ∙ ap (λ content. with_rows change.table (with_row change.id content []) s) (sym after)

-- and of one that gets none
pub none_stays : (s : State) (change : RowChange) → at change.table s.rows ≡ None → change.after ≡ None → changed s (Change.Row change) ≡ s
none_stays s change found after =
    ap (λ there. record s { rows = with_row_in change.table change.id change.after there s.rows }) found
    ∙ ap (λ content. record s { rows = with_row_in change.table change.id content None s.rows }) after

set_if : {X : Type 0} (o : Ordering) (k : List ℕ) (v w : X) (e : List ℕ × X) (es more less : List (List ℕ × X)) → name_order k e.0 ≡ o
    → set_value (is_at (name_order k)) more w ≡ less
    → set_value (is_at (name_order k)) (match_ordering o ((k, v) ∷ e ∷ es) ((e.0, v) ∷ es) (e ∷ more)) w ≡ match_ordering o ((k, w) ∷ e ∷ es) ((e.0, w) ∷ es) (e ∷ less)
set_if Less k v w e es more less is further = ap (λ b. cond b ((k, w) ∷ e ∷ es) ((k, v) ∷ set_value (is_at (name_order k)) (e ∷ es) w)) (own_name k k refl)
set_if Equal k v w e es more less is further = ap (λ o. cond (is_eq o) ((e.0, w) ∷ es) ((e.0, v) ∷ set_value (is_at (name_order k)) es w)) is
set_if Greater k v w e es more less is further = ap (λ o. cond (is_eq o) ((e.0, w) ∷ more) (e ∷ set_value (is_at (name_order k)) more w)) is ∙ ap (λ l. e ∷ l) further

-- what is set where it was put is put
set_put : {X : Type 0} (k : List ℕ) (v w : X) (es : List (List ℕ × X)) → set_value (is_at (name_order k)) (insert_entry name_order es k v) w ≡ insert_entry name_order es k w
set_put k v w [] = ap (λ b. cond b ((k, w) ∷ []) ((k, v) ∷ [])) (own_name k k refl)
set_put k v w (e ∷ es) = set_if (name_order k e.0) k v w e es (insert_entry name_order es k v) (insert_entry name_order es k w) refl (set_put k v w es)

-- a change of a row where the rows of its table were put
pub next_put : (s : State) (change : RowChange) (table : List ℕ) (rows : List (RowId × Keyed)) → change.table ≡ table
    → changed (with_rows table rows s) (Change.Row change) ≡ with_rows table (with_row change.id change.after rows) s
next_put s change table rows same =
    ap (λ t. record s { rows = with_row_in t change.id change.after (at t (insert_entry name_order s.rows table rows)) (insert_entry name_order s.rows table rows) }) same
    ∙ ap (λ there. record s { rows = with_row_in table change.id change.after there (insert_entry name_order s.rows table rows) })
    (at_put table table rows s.rows ∙ ap (λ b. cond b (Some rows) (at table s.rows)) (own_name table table refl))
    ∙ ap (λ tables. record s { rows = tables }) (set_put table rows (with_row change.id change.after rows) s.rows)
