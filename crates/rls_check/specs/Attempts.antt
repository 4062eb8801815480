-- A file of attempts beside an audit: transactions that began after commits of the audit, and ended without one.
use Rattle.std.specs.Prelude.{◌≡◌, ◌⊎◌, ◌<◌, ◌≤◌, ℕ, zero, suc, ◌+◌, List, [], ◌∷◌, ◌++◌, length, filter, not, nat_eq, slice_get, Option, Result, Ok, Err, IsUtf8}
use Rattle.std.specs.List.{AllZip, list_any}
use Rattle.rls_value.specs.declared.refusal.Refusal.{Refusal}
use Rattle.rls_value.specs.declared.refusal.Refusal.TheVariants as r
use Rattle.rls_audit.specs.rls_audit_lines.specs.AttemptReading.{MeansAttempt}
use Rattle.rls_audit.specs.rls_audit_lines.specs.declared.attempts.AttemptEnd.{AttemptEnd}
use Rattle.rls_audit.specs.rls_audit_lines.specs.declared.attempts.AttemptLine.{AttemptLine}
use Rattle.rls_audit.specs.rls_audit_lines.specs.declared.attempts.AttemptLine.TheVariants as line
use Rattle.rls_audit.specs.rls_audit_lines.specs.declared.attempts.AttemptShown.{AttemptShown}
use Rattle.rls_audit.specs.rls_audit_lines.specs.declared.lines.Shown.{Shown}
use Rattle.rls_check.specs.declared.attempts.Attempt.{Attempt}
use Rattle.rls_check.specs.declared.attempts.AttemptReader.{AttemptReader}
use Rattle.rls_check.specs.Keeping.{Keeps}

-- ---- a line

-- the bytes are a text, which is the line
abbrev pub IsAttemptText : List ℕ → AttemptLine → Type 0
IsAttemptText text it = IsUtf8 text × MeansAttempt text it

-- it is the first one
abbrev pub IsAttemptsHead : List ℕ → Type 0
IsAttemptsHead text = IsAttemptText text line.Head

-- what is shown of an attempt, as what is shown of a transaction that changed nothing
abbrev pub as_shown : AttemptShown → Shown
as_shown it = record { changes = []; commit = 0; login = it.login; mode = it.mode; role = it.role; snap = it.snap; statements = it.statements; txn = it.txn }

-- what is shown of an attempt that ended so is kept
pub record KeepsAttempt (end : AttemptEnd) (shown : AttemptShown) (it : Attempt) : Type 0 where
  pub end_is : it.end ≡ end
  pub ran : Keeps (as_shown shown) it.ran

-- the text is the line of the attempt, which began after no more commits than there are
pub record IsAttemptOf (commits : ℕ) (text : List ℕ) (it : Attempt) : Type 0 where
  pub end : AttemptEnd
  pub shown : AttemptShown
  pub is_text : IsAttemptText text (line.Attempt end shown)
  pub keeps : KeepsAttempt end shown it
  pub snap : shown.snap ≤ commits

-- it is kept, where it began after no more commits than these; or the line of this number is bad; or memory ran out
abbrev pub IsKeptWithin : ℕ → ℕ → AttemptEnd → AttemptShown → Result Attempt Refusal → Type 0
IsKeptWithin commits number end shown (Ok it) = KeepsAttempt end shown it × (shown.snap ≤ commits)
IsKeptWithin commits number end shown (Err refusal) = (refusal ≡ r.NoMemory) ⊎ ((refusal ≡ r.BadAudit number) × (commits < shown.snap))

-- ---- all lines

-- the texts are the first line, and those of these attempts
abbrev pub AreAttempts : ℕ → List (List ℕ) → List Attempt → Type 0
AreAttempts commits [] its = ⊥
AreAttempts commits (head ∷ texts) its = IsAttemptsHead head × AllZip (IsAttemptOf commits) texts its

-- no such file begins with the texts
abbrev pub BeginNoAttempts : ℕ → List (List ℕ) → Type 0
BeginNoAttempts commits texts = (more : List (List ℕ)) (its : List Attempt) → AreAttempts commits (texts ++ more) its → ⊥

-- ---- how far they are read

-- the attempts that are kept of them
abbrev pub AreAttemptsSoFar : ℕ → List (List ℕ) → List Attempt → Type 0
AreAttemptsSoFar commits [] its = its ≡ []
AreAttemptsSoFar commits (head ∷ texts) its = AreAttempts commits (head ∷ texts) its

-- the reader has read these texts, and keeps them
pub record HasReadAttempts (commits : ℕ) (texts : List (List ℕ)) (reader : AttemptReader) : Type 0 where
  pub commits_are : reader.commits ≡ commits
  pub lines : reader.lines ≡ length texts
  pub attempts : AreAttemptsSoFar commits texts reader.attempts

-- the text may be the next line, behind so many: the first is the head
abbrev pub MayFollow : ℕ → ℕ → List ℕ → Type 0
MayFollow commits zero text = IsAttemptsHead text
MayFollow commits (suc lines) text = (it : Attempt) × IsAttemptOf commits text it

-- the attempts that are kept then
abbrev pub AreBehind : ℕ → ℕ → List ℕ → List Attempt → List Attempt → Type 0
AreBehind commits zero text before after = IsAttemptsHead text × (after ≡ before)
AreBehind commits (suc lines) text before after = (it : Attempt) × IsAttemptOf commits text it × (after ≡ before ++ it ∷ [])

-- the reader took the text as its next line
pub record TakesAttempt (text : List ℕ) (before after : AttemptReader) : Type 0 where
  pub commits : after.commits ≡ before.commits
  pub lines : after.lines ≡ before.lines + 1
  pub attempts : AreBehind before.commits before.lines text before.attempts after.attempts

-- it did; or the line isn't one that may stand there; or memory ran out
abbrev pub IsAttemptTaken : List ℕ → AttemptReader → AttemptReader → Result (Unit {0}) Refusal → Type 0
IsAttemptTaken text before after (Ok done) = TakesAttempt text before after
IsAttemptTaken text before after (Err refusal) = (refusal ≡ r.NoMemory) ⊎ ((refusal ≡ r.BadAudit (before.lines + 1)) × ¬ MayFollow before.commits before.lines text)

-- ---- the numbers

-- the first number that is asked for and that no attempt has
abbrev pub missing_attempt : List Attempt → List ℕ → Option ℕ
missing_attempt its wanted = slice_get (filter (λ txn. not (list_any (λ it. nat_eq it.ran.txn txn) its)) wanted) 0
