-- What is written of what the statements of an audit did with rows, along its order, and what is found first on the way.
use Rattle.std.specs.Prelude.{◌≡◌, ◌⊎◌, ℕ, Bool, true, false, List, [], ◌∷◌, map, filter, length, slice_get, not, Option, Some, None}
use Rattle.std.specs.List.{list_any}
use Rattle.std.specs.Prelude.{nat_eq}
use Rattle.rls_catalog.specs.Changed.{opening}
use Rattle.rls_check.specs.declared.filtering.ShownFilter.{ShownFilter}
use Rattle.rls_check.specs.declared.finding.Finding.{Finding}
use Rattle.rls_check.specs.declared.finding.Finding.TheVariants as f
use Rattle.rls_check.specs.declared.shown_texts.Ending.{Ending}
use Rattle.rls_check.specs.declared.shown_texts.Ending.TheVariants as e
use Rattle.rls_check.specs.declared.transaction.Transaction.{Transaction}
use Rattle.rls_check.specs.Checking.{Decided, IsAnswer, IsNoOrder, IsPlaced}
use Rattle.rls_check.specs.ShownTexts.{shown_text}
use Rattle.rls_check.specs.Walking.{Standing, standings_along}

-- the first of the statements that comes to another answer than the audit shows; none where each comes to its own
abbrev pub FirstDiffers : List Standing → Option Finding → Type 0
FirstDiffers [] found = found ≡ None
FirstDiffers (it ∷ more) found = Decided (IsAnswer it.shown it.effect) (FirstDiffers more found) (found ≡ Some (f.Reply it.ctx.txn it.number))

-- the first number that is asked for and that no transaction has
abbrev pub missing_txn : List Transaction → List ℕ → Option ℕ
missing_txn transactions wanted = slice_get (filter (λ txn. not (list_any (λ it. nat_eq it.txn txn) transactions)) wanted) 0

-- along the places: nothing is written where a transaction that is asked for isn't there; else what is asked for of each statement, and
-- what is found first
abbrev pub IsShownAlong : ShownFilter → List Transaction → List ℕ → Option ℕ → List ℕ → Ending → Type 0
IsShownAlong it transactions places (Some txn) written ending = (written ≡ []) × (ending ≡ e.Missing txn)
IsShownAlong it transactions places None written ending =
    (written ≡ shown_text it (standings_along transactions opening places))
    × ((found : Option Finding) × FirstDiffers (standings_along transactions opening places) found × (ending ≡ e.Walked found))

-- what is written of an audit, and how it ends; nothing where the numbers are no order
abbrev pub IsShown : ShownFilter → List Transaction → List ℕ → List ℕ → Ending → Type 0
IsShown it transactions numbers written ending =
    ((places : List ℕ) × IsPlaced transactions numbers places × IsShownAlong it transactions places (missing_txn transactions it.txns) written ending)
    ⊎ (IsNoOrder transactions numbers × (written ≡ []) × (ending ≡ e.NoOrder))
