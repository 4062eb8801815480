-- What a file of attempts takes: the transactions of a run that ended without a commit.
use Rattle.std.specs.Prelude.{◌≡◌, ℕ, List, ◌∷◌, map}
use Rattle.rls_check.specs.rls_meaning.specs.rls_guard.specs.rls_catalog.specs.rls_value.specs.Refusals.{cause_text}
use Rattle.rls_check.specs.rls_audit.specs.Printed.{printed_attempt}
use Rattle.rls_check.specs.rls_audit.specs.rls_audit_lines.specs.AttemptReading.{attempt_text}
use Rattle.rls_check.specs.rls_audit.specs.rls_audit_lines.specs.declared.attempts.AttemptEnd.{AttemptEnd}
use Rattle.rls_check.specs.rls_audit.specs.rls_audit_lines.specs.declared.attempts.AttemptEnd.TheVariants as shown
use Rattle.rls_check.specs.rls_audit.specs.rls_audit_lines.specs.declared.attempts.AttemptLine.TheVariants as line
use Rattle.rls_check.specs.rls_audit.specs.rls_audit_lines.specs.declared.attempts.EndWord.TheVariants as w
use Rattle.rls_session.specs.declared.tried.Attempted.{Attempted}
use Rattle.rls_session.specs.declared.tried.End.{End}
use Rattle.rls_session.specs.declared.tried.End.TheVariants as e
use Rattle.rls_session.specs.Parts.{Tried, tried_by}
use Rattle.rlsdb.specs.AuditLines.{ended_lines}

-- what is shown of how it ended
abbrev pub end_shown : End → AttemptEnd
end_shown e.Rollback = shown.By w.Rollback
end_shown (e.Conflict why) = shown.Conflict (cause_text why)
end_shown e.Connect = shown.By w.Connect
end_shown e.Script = shown.By w.End

-- the text of its line
abbrev pub attempted_text : Attempted → List ℕ
attempted_text it = attempt_text (printed_attempt (end_shown it.end) it.attempt)

-- the texts of all lines: the first one, and one for each
abbrev pub attempts_texts : List Attempted → List (List ℕ)
attempts_texts attempts = attempt_text line.Head ∷ map attempted_text attempts

-- these are the lines of the transactions that ended without a commit, in their order
pub record WritesAttempts (tried : List Tried) (taken : List ℕ) : Type 0 where
  pub attempts : List Attempted
  pub are : map tried_by attempts ≡ tried
  pub lines : taken ≡ ended_lines (attempts_texts attempts)
