-- What tests of transcripts write, and runs that a refusal stops.
use Rattle.std.specs.Prelude.{◌≡◌, ◌≤◌, ◌++◌, [], ◌∷◌, ℕ, nat_eq, List, Bool, true, false, ◌&&◌, not, length, take, Option, Some, None}
use Rattle.std.specs.List.{flat_map, list_all}
use Rattle.std.specs.Str.Lines.{lines}
use Rattle.rls_check.specs.rls_audit.specs.rls_core.specs.Records.{Record}
use Rattle.rls_session.specs.Scripts.{IsScriptText}
use Rattle.rls_transcript.specs.Marks.{marked, tolds_in}
use Rattle.rls_transcript.specs.Reports.{IsReport}
use Rattle.rls_transcript.specs.Told.{Told, ended}
use Rattle.rls_transcript.specs.Transcripts.{filled, script_of}

-- what each of the lines is answered in what was written for their marked script
abbrev pub cut_at_marks : List (List ℕ) → List ℕ → List Told
cut_at_marks asked written = tolds_in asked (lines written)

-- What each of the lines is answered, and the records of the transactions that this shows as committed: what is written for the
-- script of these lines with a mark behind each that is answered, cut at the marks' answers.
pub record AreAnswered (terse : Bool) (asked : List (List ℕ)) (tolds : List Told) (history : List Record) : Type 0 where
  pub written : List ℕ
  pub text : IsScriptText terse (ended (marked asked)) written history
  pub cut : tolds ≡ cut_at_marks asked written

-- ---- tests

-- The report of a transcript of that name with these lines: its script, run in the order of its lines on an empty database, is
-- answered so. And how many of its commands failed.
pub record IsTestedSo (name : List ℕ) (lines : List (List ℕ)) (tolds : List Told) (written : List ℕ) (failed : ℕ) : Type 0 where
  pub history : List Record
  pub answered : AreAnswered false (script_of lines) tolds history
  pub report : IsReport name lines tolds failed written

-- the same, whatever the answers were
abbrev pub IsTested : List ℕ → List (List ℕ) → List ℕ → ℕ → Type 0
IsTested name lines written failed = (tolds : List Told) × IsTestedSo name lines tolds written failed

-- the reports of transcripts of these names, one after another, and whether no command of any failed
pub data AreTested : (names : List (List ℕ)) → (written : List ℕ) → (passed : Bool) → Type 0 where
  none : AreTested [] [] true
  more : {name written rest : List ℕ} {names lines : List (List ℕ)} {failed : ℕ} {passed : Bool} → IsTested name lines written failed → AreTested names rest passed → AreTested (name ∷ names) (written ++ rest) (nat_eq failed 0 && passed)

-- a file took the lines with the answers that came, where this changes the text
abbrev pub IsFilledBy : List ℕ → List (List ℕ) → List Told → Option (List ℕ) → Type 0
IsFilledBy text lines tolds None = text ≡ ended (filled lines tolds)
IsFilledBy text lines tolds (Some taken) = taken ≡ ended (filled lines tolds)

-- the same where the answers are to be written; else no file took anything
abbrev pub IsWritten : (write : Bool) → List ℕ → List (List ℕ) → List Told → Option (List ℕ) → Type 0
IsWritten true text lines tolds taken = IsFilledBy text lines tolds taken
IsWritten false text lines tolds taken = taken ≡ None

-- The report of the transcript of that name with this text, and how many of its commands failed; and what a file took, where the
-- answers are to be written.
abbrev pub IsTextTested : (write : Bool) → List ℕ → List ℕ → List ℕ → ℕ → Option (List ℕ) → Type 0
IsTextTested write name text written failed taken = (tolds : List Told) × IsTestedSo name (lines text) tolds written failed × IsWritten write text (lines text) tolds taken

-- ---- runs that the first refusal stops

-- no answer is a refusal
abbrev pub none_refused : List Told → Bool
none_refused tolds = list_all (λ told. not told.refused) tolds

-- the last answer is a refusal, and no other
pub record IsLastRefused (tolds : List Told) : Type 0 where
  pub front : List Told
  pub last : Told
  pub are : tolds ≡ front ++ (last ∷ [])
  pub none : none_refused front ≡ true
  pub refused : last.refused ≡ true

-- Where so many of the lines were run, it was all of them, and none was refused; or the last of these was the first that was.
abbrev pub StopsAt : (count : ℕ) → List (List ℕ) → List Told → (done : Bool) → Type 0
StopsAt count asked tolds true = (length asked ≤ count) × (none_refused tolds ≡ true)
StopsAt count asked tolds false = IsLastRefused tolds

-- the answers to lines up to the first that is refused, and whether none is
pub record AreAnsweredUntil (terse : Bool) (asked : List (List ℕ)) (tolds : List Told) (history : List Record) (done : Bool) : Type 0 where
  pub count : ℕ
  pub answered : AreAnswered terse (take count asked) tolds history
  pub stops : StopsAt count asked tolds done

-- What is written for a script that the first refusal stops: the answers of its lines up to that one. And whether there is none.
pub record IsStopText (terse : Bool) (written : List ℕ) (history : List Record) (done : Bool) : Type 0 where
  pub script : List ℕ
  pub tolds : List Told
  pub answered : AreAnsweredUntil terse (lines script) tolds history done
  pub whole : written ≡ flat_map (λ told. told.text) tolds
