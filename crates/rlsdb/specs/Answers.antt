-- What each command writes, and whether it is done or answers yes.
use Rattle.std.specs.Prelude.{◌≡◌, ◌++◌, ◌∷◌, [], ℕ, nat_lt, List, length, Bool, true, false, not, ◌&&◌, Option, Some, None, is_some, map, codes, if◌then◌else◌}
use Rattle.std.specs.Borrow.{Bor}
use Rattle.std.specs.Fmt.{decimal}
use Rattle.rls_check.specs.rls_meaning.specs.rls_guard.specs.rls_catalog.specs.rls_value.specs.declared.row.RowId.{RowId}
use Rattle.rls_check.specs.rls_audit.specs.rls_core.specs.Records.{Record}
use Rattle.rls_check.specs.declared.attempts.Attempt.{Attempt}
use Rattle.rls_check.specs.declared.audit.Audit.{Audit}
use Rattle.rls_check.specs.declared.finding.Finding.{Finding}
use Rattle.rls_check.specs.declared.finding.Finding.TheVariants as f
use Rattle.rls_check.specs.declared.explaining.Why.{Why}
use Rattle.rls_check.specs.Wholes.{AreConverted, IsAuditOf}
use Rattle.rls_check.specs.Checking.{IsFirst}
use Rattle.rls_check.specs.Explaining.{IsExplained}
use Rattle.rls_check.specs.Findings.{finding_text}
use Rattle.rls_check.specs.declared.filtering.ShownFilter.{ShownFilter}
use Rattle.rls_check.specs.declared.graph_form.GraphForm.{GraphForm}
use Rattle.rls_check.specs.declared.graph_form.Picture.{Picture}
use Rattle.rls_check.specs.declared.graph_form.Picture.TheVariants as p
use Rattle.rls_check.specs.declared.shown_attempts.AttemptsEnd.{AttemptsEnd}
use Rattle.rls_check.specs.declared.shown_attempts.AttemptsEnd.TheVariants as attempts_end
use Rattle.rls_check.specs.declared.shown_texts.Ending.{Ending}
use Rattle.rls_check.specs.declared.shown_texts.Ending.TheVariants as e
use Rattle.rls_check.specs.declared.walking.Turn.{Turn}
use Rattle.rls_check.specs.Listing.{IsLong}
use Rattle.rls_check.specs.Attempts.{AreAttempts}
use Rattle.rls_check.specs.ShownAttempts.{AreAttemptsShown}
use Rattle.rls_check.specs.ShownAudits.{IsShown}
use Rattle.rls_check.specs.{LongTexts.long_text, Placed.placed_in, WhyTexts.explanation_text, declared.placed.Placed.Placed}
use Rattle.rls_session.specs.Parts.{Tried}
use Rattle.rls_session.specs.Scripts.{IsScriptRun, IsScriptText, RunsScriptKeeping}
use Rattle.rls_session.specs.Texts.{IsPhasesRun, IsPhasesText, RunsPhasesKeeping}
use Rattle.rlsdb.specs.Attempts.{WritesAttempts}
use Rattle.rls_command_line.specs.declared.words.Request.{Request}
use Rattle.rls_command_line.specs.declared.words.Request.TheVariants as q
use Rattle.rls_command_line.specs.Words.{is_output, is_output_wanted}
use Rattle.rls_command_line.specs.declared.words.ScriptFile.{ScriptFile}
use Rattle.rls_command_line.specs.declared.words.Wanted.{Wanted}
use Rattle.rls_command_line.specs.declared.words.GraphWanted.{GraphWanted}
use Rattle.rls_command_line.specs.declared.words.Language.{Language}
use Rattle.rls_command_line.specs.declared.words.Language.TheVariants as l
use Rattle.rlsdb.specs.AuditLines.{WritesAudit, ended_lines}
use Rattle.rlsdb.specs.declared.linting.StateEnd.{StateEnd}
use Rattle.rlsdb.specs.Linting.{IsLintOf, is_all_right}
use Rattle.rlsdb.specs.Dumping.{IsDumpOf}
use Rattle.rlsdb.specs.Numbers.{IsNumberedText}
use Rattle.rlsdb.specs.Graphing.{IsGraphed}
use Rattle.rlsdb.specs.Reporting.{IsReportOf}
use Rattle.rlsdb.specs.Tests.{AreTested, IsStopText}

-- the text of some script, so run
abbrev pub IsRunText : (threads terse : Bool) → List ℕ → List Record → Type 0
IsRunText true terse written history = (script : List ℕ) × IsPhasesText terse script written history
IsRunText false terse written history = (script : List ℕ) × IsScriptText terse script written history

-- What was taken grew by the text of the script that was given, run in phases or in the order of its lines. Told tersely, serialization
-- failures name no objects and no transactions. And the transactions that ended without a commit, where these are kept.
abbrev pub RunsGivenKeeping : (threads terse keeps : Bool) → List ℕ → List ℕ → List ℕ → List ℕ → List Record → List Tried → Type 0
RunsGivenKeeping true terse keeps given_before given_now taken_before taken_now history tried = RunsPhasesKeeping terse keeps given_before given_now taken_before taken_now history tried
RunsGivenKeeping false terse keeps given_before given_now taken_before taken_now history tried = RunsScriptKeeping terse keeps given_before given_now taken_before taken_now history tried

-- the text of some script, so run, with these
abbrev pub IsKeptText : (threads terse keeps : Bool) → List ℕ → List Record → List Tried → Type 0
IsKeptText true terse keeps written history tried = (script : List ℕ) × IsPhasesRun terse keeps script written history tried
IsKeptText false terse keeps written history tried = (script : List ℕ) × IsScriptRun terse keeps script written history tried

-- the text of some script, so run, that goes with these records; and a file took the attempts of the same run
abbrev pub IsTextWithAttempts : (threads terse : Bool) → List ℕ → List Record → Type 0
IsTextWithAttempts threads terse written history = (tried : List Tried) × (taken : List ℕ) × IsKeptText threads terse true written history tried × WritesAttempts tried taken

-- the audit of the records was taken by a file, where one is named
abbrev pub IsAudited : Option (Bor (List ℕ)) → List Record → Option (List ℕ) → Type 0
IsAudited None records taken = taken ≡ None
IsAudited (Some name) records (Some taken) = WritesAudit records [] taken
IsAudited (Some name) records None = ⊥

-- a text, and behind it the audit of the records that go with it
pub record IsWithAudit (IsTextOf : List ℕ → List Record → Type 0) (written : List ℕ) : Type 0 where
  pub history : List Record
  pub text : List ℕ
  pub audit : List ℕ
  pub runs : IsTextOf text history
  pub shows : WritesAudit history [] audit
  pub whole : written ≡ text ++ audit

-- the lines, in the second format, of the audit whose lines these are
abbrev pub IsMigrationOf : List (List ℕ) → List ℕ → Type 0
IsMigrationOf texts taken = (written : List (List ℕ)) × AreConverted texts written × (taken ≡ ended_lines written)

-- numbers, one a line
abbrev pub order_text : List ℕ → List ℕ
order_text numbers = ended_lines (map decimal numbers)

-- the numbers of the order of the audit whose lines these are
abbrev pub IsOrderOf : List (List ℕ) → List ℕ → Type 0
IsOrderOf texts written = (audit : Audit) × IsAuditOf texts audit × (written ≡ order_text audit.order)

-- whether the audit holds
abbrev pub is_yes : Finding → Bool
is_yes f.Holds = true
is_yes _ = false

-- what is found first in the audit whose lines these are
abbrev pub IsCheckOf : List (List ℕ) → List ℕ → Bool → Type 0
IsCheckOf texts written holds =
    (audit : Audit) × (found : Finding) × IsAuditOf texts audit × IsFirst audit.transactions audit.order found × (written ≡ finding_text found ++ (10 ∷ [])) × (holds ≡ is_yes found)

-- what is found, behind the audit's name where there are several
abbrev pub checked_text : (named : Bool) → List ℕ → List ℕ → List ℕ
checked_text true name found = name ++ (58 ∷ 32 ∷ found)
checked_text false name found = found

-- the same in the audit of that name whose lines these are
abbrev pub IsCheckOfOne : (named : Bool) → List ℕ → List (List ℕ) → List ℕ → Bool → Type 0
IsCheckOfOne named name texts written holds = (found : List ℕ) × IsCheckOf texts found holds × (written ≡ checked_text named name found)

-- what is found in audits of these names, one after another, and whether all of them hold
pub data AreChecked (named : Bool) : (names : List (List ℕ)) → (written : List ℕ) → (hold : Bool) → Type 0 where
  none : AreChecked named [] [] true
  more : {name written rest : List ℕ} {names texts : List (List ℕ)} {holds hold : Bool} → IsCheckOfOne named name texts written holds → AreChecked named names rest hold → AreChecked named (name ∷ names) (written ++ rest) (holds && hold)

-- the lines, at length where it is known where the transaction stands
abbrev pub lines_text : Why → Option Placed → List ℕ
lines_text why None = explanation_text why
lines_text why (Some placed) = long_text why placed

-- where the transaction stands, if that is to be told
abbrev pub placed_if : Bool → Audit → ℕ → Option Placed
placed_if true audit txn = placed_in audit.transactions audit.order txn
placed_if false audit txn = None

-- why a statement did what it did, or that there is nothing to say
abbrev pub why_text : Option Why → Option Placed → List ℕ
why_text (Some why) placed = lines_text why placed
why_text None placed = codes "no such decision" ++ (10 ∷ [])

-- the same of the statement of that number, of the audit whose lines these are
abbrev pub IsWhyOf : ℕ → ℕ → Option RowId → Bool → List (List ℕ) → List ℕ → Bool → Type 0
IsWhyOf txn statement row long texts written said =
    (audit : Audit) × (why : Option Why) × IsAuditOf texts audit × IsExplained audit.transactions audit.order txn statement row long why × (written ≡ why_text why (placed_if long audit txn)) × (said ≡ is_some why)

-- the same statements and rows, as turns are asked for them
abbrev pub filter_of : Wanted → ShownFilter
filter_of it = record { roles = it.roles; logins = it.logins; txns = it.txns; tables = it.tables; rows = it.rows; denied = it.denied; all = it.all; json = it.json }

-- what the statements of the audit whose lines these are did with rows, as far as it is asked for, and how it ended
abbrev pub IsShownOf : ShownFilter → List (List ℕ) → List ℕ → Ending → Type 0
IsShownOf it texts written ending = (audit : Audit) × IsAuditOf texts audit × IsShown it audit.transactions audit.order written ending

-- the same of the attempts whose lines the others are, beside this audit
abbrev pub AreAttemptsShownOf : ShownFilter → (texts others : List (List ℕ)) → List ℕ → AttemptsEnd → Type 0
AreAttemptsShownOf it texts others written ending =
    (audit : Audit) × (attempts : List Attempt) × IsAuditOf texts audit × AreAttempts (length audit.transactions) others attempts × AreAttemptsShown it audit.transactions audit.order attempts written ending

-- all statements came to what the audit and the attempts show
abbrev pub is_all_shown : AttemptsEnd → Bool
is_all_shown (attempts_end.Ran None None) = true
is_all_shown ending = false

-- the transactions of the audit whose lines these are, along its order, with what their statements come to, and how it ended
abbrev pub IsLongOf : List (List ℕ) → List ℕ → Ending → Type 0
IsLongOf texts written ending = (audit : Audit) × IsAuditOf texts audit × IsLong audit.transactions audit.order written ending

-- the language of a picture, as a graph is asked for it
abbrev pub picture_of : Option Language → Option Picture
picture_of (Some l.Mermaid) = Some p.Mermaid
picture_of (Some l.Dot) = Some p.Dot
picture_of None = None

-- the same form, as a graph is asked for it
abbrev pub form_of : GraphWanted → GraphForm
form_of it = record { picture = picture_of it.language; all = it.all }

-- the graph of the audit whose lines these are, and how it ended
abbrev pub IsGraphOf : GraphForm → List (List ℕ) → List ℕ → Ending → Type 0
IsGraphOf form texts written ending = (audit : Audit) × IsAuditOf texts audit × IsGraphed form audit.transactions audit.order written ending

-- all statements came to what the audit shows
abbrev pub is_whole : Ending → Bool
is_whole (e.Walked None) = true
is_whole ending = false

-- what was found before, or that this statement comes to another answer
abbrev pub found_first : Option Finding → Turn → Option Finding
found_first (Some found) turn = Some found
found_first None turn = if turn.agrees then None else Some (f.Reply turn.ctx.txn turn.number)

-- what isn't taken of a script; where all is, nothing is written
abbrev pub IsParsed : List ℕ → Bool → Type 0
IsParsed written fine = fine ≡ true → written ≡ []

-- the text of a run, with its audit behind it; or alone, and a file took the audit, where one is named
abbrev pub IsRunAnswer : (together : Bool) → ScriptFile → List ℕ → Type 0
IsRunAnswer true run written = IsWithAudit (IsRunText run.threads run.terse) written
IsRunAnswer false run written = (history : List Record) × (taken : Option (List ℕ)) × IsRunText run.threads run.terse written history × IsAudited run.audit history taken

-- the same of a run that the first refusal stops
abbrev pub IsStopAnswer : (together : Bool) → ScriptFile → List ℕ → Bool → Type 0
IsStopAnswer true run written done = IsWithAudit (λ text history. IsStopText run.terse text history done) written
IsStopAnswer false run written done = (history : List Record) × (taken : Option (List ℕ)) × IsStopText run.terse written history done × IsAudited run.audit history taken

-- the same of a run whose answers are numbered
abbrev pub IsNumbersAnswer : (together : Bool) → ScriptFile → List ℕ → Type 0
IsNumbersAnswer true run written = IsWithAudit (IsNumberedText run.terse) written
IsNumbersAnswer false run written = (history : List Record) × (taken : Option (List ℕ)) × IsNumberedText run.terse written history × IsAudited run.audit history taken

-- the same of a run whose attempts a file took
abbrev pub IsKeptAnswer : (together : Bool) → ScriptFile → List ℕ → Type 0
IsKeptAnswer true run written = IsWithAudit (IsTextWithAttempts run.threads run.terse) written
IsKeptAnswer false run written = (history : List Record) × (taken : Option (List ℕ)) × IsTextWithAttempts run.threads run.terse written history × IsAudited run.audit history taken

-- of what was made, what is an answer: all, or nothing where a file took it
abbrev pub answered_part : (together : Bool) → List ℕ → List ℕ
answered_part true made = made
answered_part false made = []

-- what was written for the request, and what a file took, and whether it is done or answered yes
abbrev pub Answers : Request → List ℕ → Bool → Type 0
Answers (q.Run run) written done = IsRunAnswer (is_output_wanted run.audit) run written × (done ≡ true)
Answers (q.RunStopping run) written done = IsStopAnswer (is_output_wanted run.audit) run written done
Answers (q.RunNumbered run) written done = IsNumbersAnswer (is_output_wanted run.audit) run written × (done ≡ true)
Answers (q.RunKeeping run out) written done = IsKeptAnswer (is_output_wanted run.audit) run written × (done ≡ true)
Answers (q.Test tests) written done = AreTested (map (λ name. name.now) tests.files.items) written done
Answers (q.Order name) written done = (texts : List (List ℕ)) × IsOrderOf texts written × (done ≡ true)
Answers (q.OrderLong name) written done = (texts : List (List ℕ)) × (ending : Ending) × IsLongOf texts written ending × (done ≡ is_whole ending)
Answers (q.Check it) written done =
    (made : List ℕ) × AreChecked (nat_lt 1 (length it.audits.items)) (map (λ name. name.now) it.audits.items) made done × (written ≡ answered_part (not it.quiet) made)
Answers (q.Explain asked) written done = (texts : List (List ℕ)) × IsWhyOf asked.txn asked.statement asked.row asked.long texts written done
Answers (q.Shown asked) written done = (texts : List (List ℕ)) × (ending : Ending) × IsShownOf (filter_of asked.wanted) texts written ending × (done ≡ is_whole ending)
Answers (q.ShownAttempts asked out) written done =
    (texts : List (List ℕ)) × (others : List (List ℕ)) × (ending : AttemptsEnd) × AreAttemptsShownOf (filter_of asked.wanted) texts others written ending × (done ≡ is_all_shown ending)
Answers (q.Lint asked) written done = (texts : List (List ℕ)) × (ending : StateEnd) × IsLintOf asked.after texts written ending × (done ≡ is_all_right ending)
Answers (q.Dump asked) written done = (texts : List (List ℕ)) × (ending : StateEnd) × IsDumpOf asked.after texts written ending × (done ≡ is_all_right ending)
Answers (q.Graph asked) written done = (texts : List (List ℕ)) × (ending : Ending) × IsGraphOf (form_of asked.wanted) texts written ending × (done ≡ is_whole ending)
Answers (q.Report asked) written done =
    (texts : List (List ℕ)) × (taken : List ℕ) × (ending : Ending) × IsReportOf asked.audit.now (filter_of asked.wanted) asked.most texts taken ending × (written ≡ answered_part (is_output asked.out.now) taken) × (done ≡ is_whole ending)
Answers (q.Parse name) written done = IsParsed written done
Answers (q.Migrate from to) written done =
    (texts : List (List ℕ)) × (taken : List ℕ) × IsMigrationOf texts taken × (written ≡ answered_part (is_output to.now) taken) × (done ≡ true)
