-- What `graph` writes: which transaction of an audit comes before which, and why.
use Rattle.std.specs.Prelude.{◌≡◌, ◌⊎◌, ℕ, List, [], Option}
use Rattle.rls_check.specs.rls_meaning.specs.rls_guard.specs.rls_catalog.specs.Changed.{opening}
use Rattle.rls_check.specs.declared.finding.Finding.{Finding}
use Rattle.rls_check.specs.declared.graph_form.GraphForm.{GraphForm}
use Rattle.rls_check.specs.declared.shown_texts.Ending.{Ending}
use Rattle.rls_check.specs.declared.shown_texts.Ending.TheVariants as e
use Rattle.rls_check.specs.declared.transaction.Transaction.{Transaction}
use Rattle.rls_check.specs.Checking.{IsNoOrder, IsPlaced}
use Rattle.rls_check.specs.GraphTexts.{graph_text}
use Rattle.rls_check.specs.ShownAudits.{FirstDiffers}
use Rattle.rls_check.specs.Walking.{Standing, standings_along}

-- the graph of the transactions at the places, and what is found first
abbrev pub IsGraphedAlong : GraphForm → List Transaction → List ℕ → List Standing → List ℕ → Ending → Type 0
IsGraphedAlong form transactions places standings written ending =
    (written ≡ graph_text form transactions places standings) × ((found : Option Finding) × FirstDiffers standings found × (ending ≡ e.Walked found))

-- what is written of an audit, and how it ends; nothing where the numbers are no order
abbrev pub IsGraphed : GraphForm → List Transaction → List ℕ → List ℕ → Ending → Type 0
IsGraphed form transactions numbers written ending =
    ((places : List ℕ) × IsPlaced transactions numbers places × IsGraphedAlong form transactions places (standings_along transactions opening places) written ending)
    ⊎ (IsNoOrder transactions numbers × (written ≡ []) × (ending ≡ e.NoOrder))
