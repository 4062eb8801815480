-- What `run --numbers` writes, and what it answers.
use Rattle.std.proofs.Common.{◌≡◌, ◌++◌, ℕ, Bool, true, false, List, Option, Bor, refl, sym, ap, subst, ◌∙◌}
use Rattle.std.specs.List.{list_all}
use Rattle.std.specs.Str.Lines.{lines}
use Rattle.rls_check.specs.rls_audit.specs.rls_core.specs.Records.{Record}
use Rattle.rls_session.specs.rls_script.specs.Streams.{GrewBy}
use Rattle.rls_transcript.specs.declared.numbering.Where.{Where}
use Rattle.rls_transcript.specs.Numbers.{AreNumbered, numbered_from, opening_run}
use Rattle.rls_transcript.specs.Told.{Told}
use Rattle.rls_command_line.specs.declared.words.Request.{Request}
use Rattle.rls_command_line.specs.declared.words.Request.TheVariants as q
use Rattle.rls_command_line.specs.declared.words.ScriptFile.{ScriptFile}
use Rattle.rls_command_line.specs.Words.{is_output_wanted}
use Rattle.rlsdb.specs.Answers.{Answers, IsAudited, IsNumbersAnswer, IsWithAudit}
use Rattle.rlsdb.specs.AuditLines.{WritesAudit}
use Rattle.rlsdb.specs.Numbers.{AreNumberedAnswers, IsNumberedText, is_booked}
use Rattle.rlsdb.specs.Tests.{AreAnswered}
use Rattle.rlsdb.proofs.AnswerLemmas.{grew_more, text_with_audit}
use Rattle.rlsdb.proofs.CommandLemmas.{answered}

-- lines were answered so, in these transactions
pub answers : (terse are : Bool) (asked : List (List ℕ)) (tolds shown : List Told) (wheres given : List Where) (history records : List Record) → AreAnswered terse asked tolds history → shown ≡ tolds → AreNumbered asked opening_run shown wheres → records ≡ history → given ≡ wheres
    → are ≡ list_all (is_booked records) given → are ≡ true → AreNumberedAnswers terse asked tolds wheres history
answers terse are asked tolds shown wheres given history records answered_so same numbered_so held whole booked is = record {
  answered = answered_so;
  numbered = subst (λ (them : List Told). AreNumbered asked opening_run them wheres) same numbered_so;
  booked = (λ i. list_all (is_booked (sym held i)) (sym whole i)) ∙ sym booked ∙ is;
}

-- they are some script's
pub of_script : (terse : Bool) (asked : List (List ℕ)) (script : List ℕ) (tolds : List Told) (wheres : List Where) (history : List Record) → asked ≡ lines script → AreNumberedAnswers terse asked tolds wheres history
    → (text : List ℕ) × AreNumberedAnswers terse (lines text) tolds wheres history
of_script terse asked script tolds wheres history are it = (script, subst (λ them. AreNumberedAnswers terse them tolds wheres history) are it)

-- what is written for it
numbered_text : (terse : Bool) (tolds : List Told) (wheres : List Where) (history : List Record) (old new : List ℕ) → ((script : List ℕ) × AreNumberedAnswers terse (lines script) tolds wheres history) → new ≡ old ++ numbered_from 1 tolds wheres
    → GrewBy old new (λ written. IsNumberedText terse written history)
numbered_text terse tolds wheres history old new it grew = record {
  more = numbered_from 1 tolds wheres;
  grew = grew;
  fact = record { script = it.0; tolds = tolds; wheres = wheres; answers = it.1; whole = refl };
}

-- and its audit
pub numbered : (audit : Option (Bor (List ℕ))) (terse : Bool) (tolds : List Told) (wheres : List Where) (history : List Record) (taken : Option (List ℕ)) (old new : List ℕ) → ((script : List ℕ) × AreNumberedAnswers terse (lines script) tolds wheres history) → new ≡ old ++ numbered_from 1 tolds wheres → IsAudited audit history taken
    → GrewBy old new (λ written. (history : List Record) × (taken : Option (List ℕ)) × IsNumberedText terse written history × IsAudited audit history taken)
numbered audit terse tolds wheres history taken old new it grew audited =
    grew_more old new (λ written. IsNumberedText terse written history) (λ written. (history : List Record) × (taken : Option (List ℕ)) × IsNumberedText terse written history × IsAudited audit history taken)
    (λ written text. (history, taken, text, audited)) (numbered_text terse tolds wheres history old new it grew)

-- with its audit behind it
pub numbered_with_audit : (terse : Bool) (tolds : List Told) (wheres : List Where) (history : List Record) (old middle new : List ℕ) → ((script : List ℕ) × AreNumberedAnswers terse (lines script) tolds wheres history) → middle ≡ old ++ numbered_from 1 tolds wheres → WritesAudit history middle new
    → GrewBy old new (IsWithAudit (IsNumberedText terse))
numbered_with_audit terse tolds wheres history old middle new it grew audit = text_with_audit (IsNumberedText terse) history old middle new (numbered_text terse tolds wheres history old middle it grew) audit

-- ---- the answers of the command

pub numbers_answered : (request : Request) (run : ScriptFile) (done : Bool) (old new : List ℕ) → request ≡ q.RunNumbered run → GrewBy old new (λ written. Answers (q.RunNumbered run) written done) → GrewBy old new (λ written. Answers request written done)
numbers_answered request run done old new is grew = answered request (q.RunNumbered run) done old new (λ written. Answers (q.RunNumbered run) written done) is (λ written it. it) grew

-- with an audit in a file of its own, or none
pub numbered_apart : (run : ScriptFile) (wanted : Bool) (old new : List ℕ) → wanted ≡ is_output_wanted run.audit → wanted ≡ false → GrewBy old new (λ written. (history : List Record) × (taken : Option (List ℕ)) × IsNumberedText run.terse written history × IsAudited run.audit history taken)
    → GrewBy old new (λ written. Answers (q.RunNumbered run) written true)
numbered_apart run wanted old new same is grew =
    grew_more old new (λ written. (history : List Record) × (taken : Option (List ℕ)) × IsNumberedText run.terse written history × IsAudited run.audit history taken) (λ written. Answers (q.RunNumbered run) written true)
    (λ written it. (subst (λ (b : Bool). IsNumbersAnswer b run written) (sym is ∙ same) it, refl)) grew

-- with its audit behind the answers
pub numbered_together : (run : ScriptFile) (wanted : Bool) (old new : List ℕ) → wanted ≡ is_output_wanted run.audit → wanted ≡ true → GrewBy old new (IsWithAudit (IsNumberedText run.terse)) → GrewBy old new (λ written. Answers (q.RunNumbered run) written true)
numbered_together run wanted old new same is grew =
    grew_more old new (IsWithAudit (IsNumberedText run.terse)) (λ written. Answers (q.RunNumbered run) written true) (λ written it. (subst (λ (b : Bool). IsNumbersAnswer b run written) (sym is ∙ same) it, refl)) grew
