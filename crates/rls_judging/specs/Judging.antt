-- What row security says of rows, one after another, for each type of command that a statement judges them for; and the
-- qualifying rows of a statement. What is read for all of them is read once.
use Rattle.std.specs.Prelude.{ℕ, List, [], ◌∷◌, ◌++◌, Bool, true, false, Option, Ok}
use Rattle.std.specs.List.{list_all}
use Rattle.rls_value.specs.{declared.row.RowId.RowId, declared.value.Value.Value}
use Rattle.rls_guard.specs.rls_catalog.specs.rls_expr.specs.Terms.{Term, Terms, maybe_term}
use Rattle.rls_guard.specs.rls_catalog.specs.declared.stored.Stored.{Stored}
use Rattle.rls_evaluation.specs.rls_source.specs.Askings.{Asking, known, followed_by, asked_if}
use Rattle.rls_evaluation.specs.rls_source.specs.Once.{each_once}
use Rattle.rls_evaluation.specs.{declared.relation.SecuredRelation.SecuredRelation, Environments.over, Gathering.gathered}
use Rattle.rls_evaluation.specs.Eval.{Shows, meets}
use Rattle.rls_evaluation.specs.Showing.{shows, verdict_on, allows}
use Rattle.rls_guard.specs.{declared.quals.RowCheck.RowCheck, declared.reply.Decision.Decision}

-- what row security says of the row for one type of command
abbrev pub decision_by : Shows → List ℕ → RowId → List Value → RowCheck → Asking Decision
decision_by sees user id row row_check = followed_by (verdict_on row_check.quals sees user row) (λ verdict.
    known (Ok (record { id = id; side = row_check.side; kind = row_check.kind; verdict = verdict })))

-- a decision in front of the others
abbrev pub with_decision : RowCheck → Decision → List Decision → List Decision
with_decision row_check decision decisions = decision ∷ decisions

-- for each type of command
abbrev pub decisions_on : List RowCheck → Shows → List ℕ → RowId → List Value → Asking (List Decision)
decisions_on row_checks sees user id row = gathered with_decision [] (decision_by sees user id row) row_checks

-- all of them allow it
abbrev pub are_allowed : List Decision → Bool
are_allowed decisions = list_all (λ decision. allows decision.verdict) decisions

-- WHERE is asked of a row that may be seen for each type of command
abbrev pub qualifies_if : Bool → Terms → Shows → List ℕ → List Value → Asking Bool
qualifies_if allowed condition sees user row = asked_if allowed (meets condition sees (over user row)) (known (Ok false))

-- the decisions on a row as it stands, and whether it qualifies
abbrev pub judged_old : List RowCheck → Terms → Shows → List ℕ → Stored → Asking (List Decision × Bool)
judged_old row_checks condition sees user stored = followed_by (decisions_on row_checks sees user stored.id stored.row) (λ decisions.
    followed_by (qualifies_if (are_allowed decisions) condition sees user stored.row) (λ is. known (Ok (decisions, is))))

-- the row, if it qualifies
abbrev pub row_if_qualifying : Bool → Stored → List Stored
row_if_qualifying true stored = stored ∷ []
row_if_qualifying false stored = []

-- what was found of a row in front of what was found of the others
abbrev pub with_judged : Stored → List Decision × Bool → List Decision × List Stored → List Decision × List Stored
with_judged stored judged further = (judged.0 ++ further.0, row_if_qualifying judged.1 stored ++ further.1)

-- the decisions on each scanned row, and the qualifying rows
abbrev pub judged_all : List RowCheck → List SecuredRelation → List ℕ → Option Term → List Stored → Asking (List Decision × List Stored)
judged_all row_checks relations user condition rows = gathered with_judged ([], []) (judged_old row_checks (maybe_term condition) (shows relations user) user) rows

-- the same, what is read being read once
abbrev pub qualifying_rows_of : List RowCheck → List SecuredRelation → List ℕ → Option Term → List Stored → Asking (List Decision × List Stored)
qualifying_rows_of row_checks relations user condition rows = each_once (judged_all row_checks relations user condition rows)

-- the decisions on a row in front of those on the others
abbrev pub with_decisions : Stored → List Decision → List Decision → List Decision
with_decisions stored decisions further = decisions ++ further

-- the decisions on each new row
abbrev pub judged_new : List RowCheck → List SecuredRelation → List ℕ → List Stored → Asking (List Decision)
judged_new row_checks relations user rows = gathered with_decisions [] (λ stored. decisions_on row_checks (shows relations user) user stored.id stored.row) rows

-- the same, what is read being read once
abbrev pub decisions_of : List RowCheck → List SecuredRelation → List ℕ → List Stored → Asking (List Decision)
decisions_of row_checks relations user rows = each_once (judged_new row_checks relations user rows)
