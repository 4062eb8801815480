-- What is written of what the statements of attempts did with rows, each attempt run alone in the state in which it began.
use Rattle.std.specs.Prelude.{◌≡◌, ◌⊎◌, ℕ, List, [], map, Option, Some, None}
use Rattle.std.specs.List.{flat_map}
use Rattle.rls_catalog.specs.Changed.{opening}
use Rattle.rls_check.specs.declared.attempts.Attempt.{Attempt}
use Rattle.rls_check.specs.declared.filtering.ShownFilter.{ShownFilter}
use Rattle.rls_check.specs.declared.finding.Finding.{Finding}
use Rattle.rls_check.specs.declared.listing.Listed.{Listed}
use Rattle.rls_check.specs.declared.shown_attempts.AttemptsEnd.{AttemptsEnd}
use Rattle.rls_check.specs.declared.shown_attempts.AttemptsEnd.TheVariants as e
use Rattle.rls_check.specs.declared.snapshots.Begun.{Begun}
use Rattle.rls_check.specs.declared.transaction.Transaction.{Transaction}
use Rattle.rls_check.specs.Attempts.{missing_attempt}
use Rattle.rls_check.specs.Checking.{IsNoOrder, IsPlaced, ctx_of}
use Rattle.rls_check.specs.ShownAudits.{FirstDiffers}
use Rattle.rls_check.specs.ShownTexts.{text_of_all}
use Rattle.rls_check.specs.Snapshots.{begun_in, deltas_along}
use Rattle.rls_check.specs.Walking.{Standing, standings_alone, standings_along}

-- ---- an attempt

-- its statements, run alone in the state in which it began
abbrev pub standings_of : Begun → List Standing
standings_of it = standings_alone 0 1 (ctx_of it.attempt.ran) it.state it.attempt.ran.answers

-- what is written of them
abbrev pub begun_text : ShownFilter → Begun → List ℕ
begun_text wanted it = text_of_all (Some it.attempt.end) wanted (standings_of it)

-- the same, and what is found first
pub record IsBegunShown (wanted : ShownFilter) (it : Begun) (made : Listed) : Type 0 where
  pub text : made.text.items ≡ begun_text wanted it
  pub differs : FirstDiffers (standings_of it) made.differs

-- ---- all

-- one attempt after another
abbrev pub standings_of_all : List Begun → List Standing
standings_of_all begun = flat_map standings_of begun

abbrev pub attempts_text : ShownFilter → List Begun → List ℕ
attempts_text wanted begun = flat_map (begun_text wanted) begun

-- along the places: what is asked for of each statement of the attempts, each run alone after as many commits as it began behind, and
-- what is found first of the audit and of them
abbrev pub AreAttemptsShownAlong : ShownFilter → List Transaction → List ℕ → List Attempt → List ℕ → AttemptsEnd → Type 0
AreAttemptsShownAlong wanted transactions places its written ending =
    let begun = map (begun_in (deltas_along transactions places)) its in
    (written ≡ attempts_text wanted begun)
    × ((found : Option Finding) × (other : Option Finding) × FirstDiffers (standings_along transactions opening places) found × FirstDiffers (standings_of_all begun) other × (ending ≡ e.Ran found other))

-- the same along an order of these numbers; nothing where they are none
abbrev pub AreAttemptsShownBeside : ShownFilter → List Transaction → List ℕ → List Attempt → List ℕ → AttemptsEnd → Type 0
AreAttemptsShownBeside wanted transactions numbers its written ending =
    ((places : List ℕ) × IsPlaced transactions numbers places × AreAttemptsShownAlong wanted transactions places its written ending) ⊎ (IsNoOrder transactions numbers × (written ≡ []) × (ending ≡ e.NoOrder))

-- the same where each attempt that is asked for is there; else nothing
abbrev pub AreAttemptsShownIf : Option ℕ → ShownFilter → List Transaction → List ℕ → List Attempt → List ℕ → AttemptsEnd → Type 0
AreAttemptsShownIf (Some txn) wanted transactions numbers its written ending = (written ≡ []) × (ending ≡ e.Missing txn)
AreAttemptsShownIf None wanted transactions numbers its written ending = AreAttemptsShownBeside wanted transactions numbers its written ending

-- what is written of attempts beside an audit, and how it ends
abbrev pub AreAttemptsShown : ShownFilter → List Transaction → List ℕ → List Attempt → List ℕ → AttemptsEnd → Type 0
AreAttemptsShown wanted transactions numbers its written ending = AreAttemptsShownIf (missing_attempt its wanted.txns) wanted transactions numbers its written ending
