-- Numbers that are free stay free, but for those that changes give to new rows.
use Rattle.std.specs.Prelude.{◌≡◌, refl, ℕ, suc, ◌≤◌, List, [], ◌∷◌, Option, Some, None, Bool, true, false, ◌+◌, cond, filter, length, if◌then◌else◌, is_none}
use Rattle.std.proofs.Common.{arith, ap, sym, subst, ◌∙◌}
use Rattle.std.proofs.Math.Nat.{le-suc, le_refl, le_trans, not-suc-le_self}
use Rattle.std.proofs.lemmas.Option.{none-some}
use Rattle.rls_value.specs.declared.row.RowId.{RowId}
use Rattle.rls_guard.specs.rls_catalog.specs.{declared.change.Change.Change, declared.change.RowChange.RowChange, declared.stored.Keyed.Keyed}
use Rattle.rls_guard.specs.rls_catalog.specs.declared.change.Change.TheVariants as c
use Rattle.rls_guard.specs.rls_catalog.specs.{Bases.FitsAll, Bases.row_at, Changed.changed, Changed.changed_all, State.State, State.is_same_id}
use Rattle.rls_dml.specs.NextRows.{AllFree, NumberOn, is_new_row, new_rows, next_row}
use Rattle.rls_dml.proofs.{FittingLemmas.not_if, FittingLemmas.row_at_other, PutLemmas.one_number}

-- no table has a row of that number
abbrev FreeAt : State → RowId → Type 0
FreeAt s id = (table : List ℕ) → row_at s table id ≡ None

-- ---- how far numbers go

further_if : (b : Bool) (next : ℕ) → next ≤ (if b then suc next else next)
further_if true next = le-suc next
further_if false next = le_refl next

-- the next number, counted on one change after another
abbrev counted : ℕ → List Change → ℕ
counted next [] = next
counted next (change ∷ changes) = counted (if is_new_row change then suc next else next) changes

-- it never falls
next_rises : (next : ℕ) (changes : List Change) → next ≤ counted next changes
next_rises next [] = le_refl next
next_rises next (change ∷ changes) = le_trans (further_if (is_new_row change) next) (next_rises (if is_new_row change then suc next else next) changes)

counted_if : (b : Bool) (next : ℕ) (change : Change) (changes : List Change) → counted (if b then suc next else next) changes ≡ (if b then suc next else next) + new_rows changes
    → counted (if b then suc next else next) changes ≡ next + length (cond b (change ∷ filter is_new_row changes) (filter is_new_row changes))
counted_if true next change changes further = omega (arith, further)
counted_if false next change changes further = further

counted_is : (next : ℕ) (changes : List Change) → counted next changes ≡ next_row next changes
counted_is next [] = omega arith
counted_is next (change ∷ changes) = counted_if (is_new_row change) next change changes (counted_is (if is_new_row change then suc next else next) changes)

-- ---- one change after another

stays_free : (s : State) (change : RowChange) (id : RowId) → (id ≡ change.id → ⊥) → FreeAt s id → FreeAt (changed s (c.Row change)) id
stays_free s change id other free = λ table. row_at_other s change table id (not_if (is_same_id id change.id) (λ same. other (one_number id change.id same))) ∙ free table

-- a number where no row stands isn't that of a row that stood
not_stood : (s : State) (change : RowChange) (id : RowId) (stood : Keyed) → row_at s change.table change.id ≡ Some stood → FreeAt s id → id ≡ change.id → ⊥
not_stood s change id stood fits free same = none-some stood (sym (free change.table) ∙ ap (row_at s change.table) same ∙ fits)

row_free : (before : Option Keyed) (s : State) (change : RowChange) (txn next last : ℕ) (id : RowId) → change.before ≡ before → row_at s change.table change.id ≡ change.before
    → (change.before ≡ None → change.id ≡ record { txn = txn; n = next }) → ((n : ℕ) → id ≡ record { txn = txn; n = n } → last ≤ n) → (if is_none before then suc next else next) ≤ last → FreeAt s id
    → FreeAt (changed s (c.Row change)) id
row_free (Some stood) s change txn next last id is fits new past rises free = stays_free s change id (not_stood s change id stood (fits ∙ is) free) free
row_free None s change txn next last id is fits new past rises free =
    stays_free s change id (λ same. not-suc-le_self next (le_trans rises (past next (same ∙ new is)))) free

-- a number that no new row gets stays free
free_at : (s : State) (txn next : ℕ) (changes : List Change) (id : RowId) → FitsAll s changes → NumberOn txn next changes → ((n : ℕ) → id ≡ record { txn = txn; n = n } → counted next changes ≤ n) → FreeAt s id
    → FreeAt (changed_all s changes) id
free_at s txn next [] id fits on past free = free
free_at s txn next (c.Role name def ∷ changes) id fits on past free = free_at (changed s (c.Role name def)) txn next changes id fits.1 on.1 past free
free_at s txn next (c.Members name content ∷ changes) id fits on past free = free_at (changed s (c.Members name content)) txn next changes id fits.1 on.1 past free
free_at s txn next (c.Table name def ∷ changes) id fits on past free = free_at (changed s (c.Table name def)) txn next changes id fits.1 on.1 past free
free_at s txn next (c.Grants name content ∷ changes) id fits on past free = free_at (changed s (c.Grants name content)) txn next changes id fits.1 on.1 past free
free_at s txn next (c.Policies name content ∷ changes) id fits on past free = free_at (changed s (c.Policies name content)) txn next changes id fits.1 on.1 past free
free_at s txn next (c.Row change ∷ changes) id fits on past free =
    let further : ℕ = if is_none change.before then suc next else next in
    free_at (changed s (c.Row change)) txn further changes id fits.1 on.1 past
    (row_free change.before s change txn next (counted further changes) id refl fits.0 on.0 past (next_rises further changes) free)

-- the transaction's own numbers, behind those that new rows get
pub own_stay_free : (s : State) (txn next : ℕ) (changes : List Change) → FitsAll s changes → NumberOn txn next changes → AllFree s txn next → AllFree (changed_all s changes) txn (next_row next changes)
own_stay_free s txn next changes fits on free = λ table n from.
    let past : counted next changes ≤ n = subst (λ k. k ≤ n) (sym (counted_is next changes)) from in
    free_at s txn next changes (record { txn = txn; n = n }) fits on (λ m same. subst (λ k. counted next changes ≤ k) (ap (λ id. id.n) same) past)
    (λ name. free name n (le_trans (next_rises next changes) past)) table

-- those of other transactions
pub others_stay_free : (s : State) (txn next : ℕ) (changes : List Change) (other from : ℕ) → FitsAll s changes → NumberOn txn next changes → ¬ (other ≡ txn) → AllFree s other from
    → AllFree (changed_all s changes) other from
others_stay_free s txn next changes other from fits on differ free = λ table n behind.
    free_at s txn next changes (record { txn = other; n = n }) fits on (λ m same. absurd (differ (ap (λ id. id.txn) same))) (λ name. free name n behind) table
