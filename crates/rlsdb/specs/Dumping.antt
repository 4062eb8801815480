-- What `dump` writes: a script that rebuilds the state that an audit leaves, or that one of its transactions leaves.
use Rattle.std.specs.Prelude.{◌≡◌, ◌⊎◌, ℕ, Bool, true, false, List, [], length, Option, Some, None}
use Rattle.rls_lint.specs.Contents.{HaveSameContents}
use Rattle.rls_check.specs.rls_audit.specs.rls_core.specs.Records.{Record, state_after}
use Rattle.rls_check.specs.rls_meaning.specs.rls_guard.specs.rls_catalog.specs.Changed.{opening}
use Rattle.rls_check.specs.rls_meaning.specs.rls_guard.specs.rls_catalog.specs.State.{State}
use Rattle.rls_check.specs.declared.audit.Audit.{Audit}
use Rattle.rls_check.specs.declared.finding.Finding.{Finding}
use Rattle.rls_check.specs.declared.transaction.Transaction.{Transaction}
use Rattle.rls_check.specs.Checking.{IsNoOrder, IsPlaced}
use Rattle.rls_check.specs.Walking.{Standing, standings_along}
use Rattle.rls_check.specs.Wholes.{IsAuditOf}
use Rattle.rls_session.specs.Scripts.{IsScriptText}
use Rattle.rlsdb.specs.Linting.{FirstDiffers, asked_txn, later_of, state_before}
use Rattle.rlsdb.specs.declared.linting.StateEnd.{StateEnd}
use Rattle.rlsdb.specs.declared.linting.StateEnd.TheVariants as e

-- what a run leaves: the state behind all commits, which has these contents
abbrev pub Leaves : List Record → State → Type 0
Leaves history s = HaveSameContents s (state_after history (length history))

-- run on an empty database in the order of its lines, whatever it is answered, the script leaves the contents of the state
abbrev pub Rebuilds : List ℕ → State → Type 0
Rebuilds script s = (answers : List ℕ) × (history : List Record) × IsScriptText false script answers history × Leaves history s

-- such a script, or, where there is none, nothing
abbrev pub IsRebuilding : State → Bool → List ℕ → Type 0
IsRebuilding s true written = Rebuilds written s
IsRebuilding s false written = written ≡ []

-- of the state in front of the later transactions, along the order; nothing is written where there is no such transaction
abbrev pub IsDumpedAlong : Option (List ℕ) → ℕ → List Standing → List ℕ → StateEnd → Type 0
IsDumpedAlong None txn standings written ending = (written ≡ []) × (ending ≡ e.Missing txn)
IsDumpedAlong (Some later) txn standings written ending =
    (rebuilt : Bool) × (found : Option Finding) × IsRebuilding (state_before later opening standings) rebuilt written × FirstDiffers later standings found × (ending ≡ e.Walked rebuilt found)

-- what is written of an audit, and how it ends; nothing where the numbers are no order
abbrev pub IsDumped : Option ℕ → List Transaction → List ℕ → List ℕ → StateEnd → Type 0
IsDumped after transactions numbers written ending =
    ((places : List ℕ) × IsPlaced transactions numbers places × IsDumpedAlong (later_of numbers after) (asked_txn after) (standings_along transactions opening places) written ending)
    ⊎ (IsNoOrder transactions numbers × (written ≡ []) × (ending ≡ e.NoOrder))

-- of the audit whose lines these are
abbrev pub IsDumpOf : Option ℕ → List (List ℕ) → List ℕ → StateEnd → Type 0
IsDumpOf after texts written ending = (audit : Audit) × IsAuditOf texts audit × IsDumped after audit.transactions audit.order written ending
