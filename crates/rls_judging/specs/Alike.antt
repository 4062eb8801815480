-- Two row checks by the same quals.
use Rattle.std.specs.Prelude.{◌≡◌, List, [], ◌∷◌}
use Rattle.rls_value.specs.declared.row.RowId.{RowId}
use Rattle.rls_guard.specs.rls_catalog.specs.declared.verdict.Verdict.{Verdict}
use Rattle.rls_evaluation.specs.{declared.relation.SecurityQuals.SecurityQuals, declared.relation.SecurityQuals.TheVariants.Exempt}
use Rattle.rls_guard.specs.{declared.quals.RowCheck.RowCheck, declared.reply.Decision.Decision}

-- where there are two row checks, they are by the same quals
abbrev pub AreAlike : List RowCheck → Type 0
AreAlike [] = Unit {0}
AreAlike (first ∷ []) = Unit {0}
AreAlike (first ∷ second ∷ []) = second.quals ≡ first.quals
AreAlike (first ∷ second ∷ third ∷ further) = Unit {0}

-- the quals of the first row check
abbrev pub first_quals : List RowCheck → SecurityQuals
first_quals [] = Exempt
first_quals (first ∷ others) = first.quals

-- what a row check says by that verdict
abbrev pub decided_by : RowId → Verdict → RowCheck → Decision
decided_by id verdict row_check = record { id = id; side = row_check.side; kind = row_check.kind; verdict = verdict }
