-- What `report` writes: a page in HTML of an audit.
use Rattle.std.specs.Prelude.{◌≡◌, ◌⊎◌, ℕ, List, [], Option, Some, None}
use Rattle.rls_check.specs.rls_meaning.specs.rls_guard.specs.rls_catalog.specs.Changed.{opening}
use Rattle.rls_check.specs.declared.audit.Audit.{Audit}
use Rattle.rls_check.specs.declared.filtering.ShownFilter.{ShownFilter}
use Rattle.rls_check.specs.declared.finding.Finding.{Finding}
use Rattle.rls_check.specs.declared.page_look.Look.{Look}
use Rattle.rls_check.specs.declared.shown_texts.Ending.{Ending}
use Rattle.rls_check.specs.declared.shown_texts.Ending.TheVariants as e
use Rattle.rls_check.specs.declared.transaction.Transaction.{Transaction}
use Rattle.rls_check.specs.Checking.{IsNoOrder, IsPlaced}
use Rattle.rls_check.specs.Pages.{page_along}
use Rattle.rls_check.specs.Pieces.{page_text}
use Rattle.rls_check.specs.ShownAudits.{FirstDiffers, missing_txn}
use Rattle.rls_check.specs.Walking.{standings_along}
use Rattle.rls_check.specs.Wholes.{IsAuditOf}

-- the page of the transactions at the places, with the style and the script of the program, and what is found first
abbrev pub IsWholePage : List ℕ → ShownFilter → ℕ → List Transaction → List ℕ → List ℕ → Ending → Type 0
IsWholePage name it most transactions places written ending =
    (look : Look) × (found : Option Finding) × FirstDiffers (standings_along transactions opening places) found × (written ≡ page_text (page_along look name it most transactions places found)) × (ending ≡ e.Walked found)

-- nothing is written where a transaction that is asked for isn't there
abbrev pub IsReportAlong : List ℕ → ShownFilter → ℕ → List Transaction → List ℕ → Option ℕ → List ℕ → Ending → Type 0
IsReportAlong name it most transactions places (Some txn) written ending = (written ≡ []) × (ending ≡ e.Missing txn)
IsReportAlong name it most transactions places None written ending = IsWholePage name it most transactions places written ending

-- what is written of an audit, and how it ends; nothing where the numbers are no order
abbrev pub IsReported : List ℕ → ShownFilter → ℕ → List Transaction → List ℕ → List ℕ → Ending → Type 0
IsReported name it most transactions numbers written ending =
    ((places : List ℕ) × IsPlaced transactions numbers places × IsReportAlong name it most transactions places (missing_txn transactions it.txns) written ending)
    ⊎ (IsNoOrder transactions numbers × (written ≡ []) × (ending ≡ e.NoOrder))

-- the same of the audit whose lines these are
abbrev pub IsReportOf : List ℕ → ShownFilter → ℕ → List (List ℕ) → List ℕ → Ending → Type 0
IsReportOf name it most texts written ending = (audit : Audit) × IsAuditOf texts audit × IsReported name it most audit.transactions audit.order written ending
