-- Tests of transcripts one after another, and runs that a refusal stops.
use Rattle.std.proofs.Common.{◌≡◌, ◌≤◌, ◌<◌, ◌-◌, length, take, drop, slice_index_or, arith, refl, ℕ, nat_eq, Bool, true, false, ◌&&◌, List, [], ◌∷◌, ◌++◌, Option, None, Result, Ok, Err, IfOk, Bor, map, sym, ap, subst, ◌∙◌, append_assoc, append-nil}
use Rattle.std.proofs.lemmas.List.{take_all}
use Rattle.std.proofs.lemmas.Slice.Eq.{bytes_eq-Decides}
use Rattle.std.specs.List.{flat_map}
use Rattle.std.specs.Str.{bytes_eq}
use Rattle.std.specs.Str.Lines.{lines}
use Rattle.rls_check.specs.rls_audit.specs.rls_core.specs.Records.{Record}
use Rattle.rls_session.specs.rls_script.specs.Streams.{GrewBy}
use Rattle.rls_transcript.specs.Reports.{IsReport}
use Rattle.rls_transcript.specs.Told.{Told, ended}
use Rattle.rls_transcript.specs.Transcripts.{filled, script_of}
use Rattle.rls_command_line.specs.declared.words.Request.{Request}
use Rattle.rls_command_line.specs.declared.words.Request.TheVariants as q
use Rattle.rls_command_line.specs.declared.words.ScriptFile.{ScriptFile}
use Rattle.rls_command_line.specs.declared.words.Tests.{Tests}
use Rattle.rls_command_line.specs.Words.{is_output_wanted}
use Rattle.rlsdb.specs.declared.answering.Answered.{Answered}
use Rattle.rlsdb.specs.Tests.{AreAnswered, AreAnsweredUntil, AreTested, IsFilledBy, IsStopText, IsTested, IsTestedSo, IsTextTested, IsWritten, more, none}
use Rattle.rlsdb.specs.Answers.{Answers, IsAudited, IsStopAnswer, IsWithAudit}
use Rattle.rlsdb.specs.AuditLines.{WritesAudit}
use Rattle.rlsdb.proofs.AnswerLemmas.{grew_more, text_with_audit}
use Rattle.rlsdb.proofs.CommandLemmas.{answered}

-- what was written so far, and what the transcripts that are left will come to, make the whole
pub record SoFar (names left : List (List ℕ)) (before now : List ℕ) (passed : Bool) : Type 0 where
  pub written : List ℕ
  pub grew : now ≡ before ++ written
  pub makes : (rest : List ℕ) (all : Bool) → AreTested left rest all → AreTested names (written ++ rest) (passed && all)

-- before the first one
pub begins : (names : List (List ℕ)) (now : List ℕ) → SoFar names names now now true
begins names now = record { written = []; grew = sym (append-nil now); makes = λ rest all it. it }

and_assoc : (a b c : Bool) → (a && (b && c)) ≡ ((a && b) && c)
and_assoc true b c = refl
and_assoc false b c = refl

-- one more
pub goes_on : (names : List (List ℕ)) (name : List ℕ) (left : List (List ℕ)) (before middle now : List ℕ) (passed : Bool) (failed : ℕ) → GrewBy middle now (λ written. (lines : List (List ℕ)) × IsTested name lines written failed) → SoFar names (name ∷ left) before middle passed → SoFar names left before now (passed && nat_eq failed 0)
goes_on names name left before middle now passed failed here so = record {
  written = so.written ++ here.more;
  grew = here.grew ∙ (ap (λ it. it ++ here.more) so.grew ∙ append_assoc before so.written here.more);
  makes = λ rest all it.
      let whole : AreTested names (so.written ++ (here.more ++ rest)) (passed && (nat_eq failed 0 && all)) = so.makes (here.more ++ rest) (nat_eq failed 0 && all) (more here.fact.1 it) in
      subst (λ w. AreTested names w ((passed && nat_eq failed 0) && all)) (sym (append_assoc so.written here.more rest)) (subst (λ b. AreTested names (so.written ++ (here.more ++ rest)) b) (and_assoc passed (nat_eq failed 0) all) whole);
}

-- the same of the first of a slice
pub goes_on_at : (names : List (List ℕ)) (rest : List (Bor (List ℕ))) (d : Bor (List ℕ)) (before middle now : List ℕ) (passed still : Bool) (failed : ℕ) → 1 ≤ length rest → still ≡ (passed && nat_eq failed 0) → GrewBy middle now (λ written. (lines : List (List ℕ)) × IsTested (slice_index_or rest 0 d).now lines written failed) → SoFar names (map (λ name. name.now) rest) before middle passed
    → SoFar names (map (λ name. name.now) (take (length rest - 1) (drop 1 rest))) before now still
goes_on_at names [] d before middle now passed still failed some is here so = absurd (omega (arith, some))
goes_on_at names (name ∷ rest) d before middle now passed still failed some is here so =
    subst (λ (r : List (Bor (List ℕ))). SoFar names (map (λ it. it.now) r) before now still) (sym (take_all (length (name ∷ rest) - 1) rest (omega arith)))
    (subst (λ b. SoFar names (map (λ (it : Bor (List ℕ)). it.now) rest) before now b) (sym is) (goes_on names name.now (map (λ it. it.now) rest) before middle now passed failed here so))

and_true : (a : Bool) → (a && true) ≡ a
and_true true = refl
and_true false = refl

-- behind the last one
pub ends : (names : List (List ℕ)) (before now : List ℕ) (passed : Bool) → SoFar names [] before now passed → GrewBy before now (λ written. AreTested names written passed)
ends names before now passed so = record {
  more = so.written;
  grew = so.grew;
  fact = subst (λ w. AreTested names w passed) (append-nil so.written) (subst (λ b. AreTested names (so.written ++ []) b) (and_true passed) (so.makes [] true none));
}

-- the same where none is left of a slice
pub ends_at : (names : List (List ℕ)) (rest : List (Bor (List ℕ))) (before now : List ℕ) (passed : Bool) → length rest < 1 → SoFar names (map (λ name. name.now) rest) before now passed → GrewBy before now (λ written. AreTested names written passed)
ends_at names [] before now passed none_left so = ends names before now passed so
ends_at names (name ∷ rest) before now passed none_left so = absurd (omega (arith, none_left))

-- the report of a transcript whose script was run
pub tested : (name : List ℕ) (lines script : List (List ℕ)) (tolds shown : List Told) (failed : ℕ) (history : List Record) (before now : List ℕ) → script ≡ script_of lines → AreAnswered false script tolds history → shown ≡ tolds → GrewBy before now (IsReport name lines shown failed) → GrewBy before now (λ written. IsTestedSo name lines tolds written failed)
tested name lines script tolds shown failed history before now is answered same reported = record {
  more = reported.more;
  grew = reported.grew;
  fact = record { history = history; answered = subst (λ s. AreAnswered false s tolds history) is answered; report = subst (λ (s : List Told). IsReport name lines s failed reported.more) same reported.fact };
}

-- a text has lines
pub of_text : (name text : List ℕ) (write : Bool) (failed : ℕ) (taken : Option (List ℕ)) (before now : List ℕ) → GrewBy before now (λ written. IsTextTested write name text written failed taken) → GrewBy before now (λ written. (lines : List (List ℕ)) × IsTested name lines written failed)
of_text name text write failed taken before now it = record { more = it.more; grew = it.grew; fact = (lines text, (it.fact.0, it.fact.1)) }

-- no file took the answers, since none is to
pub unwritten : (name text : List ℕ) (asked : List (List ℕ)) (tolds : List Told) (write : Bool) (failed : ℕ) (before now : List ℕ) → asked ≡ lines text → write ≡ false → GrewBy before now (λ written. IsTestedSo name asked tolds written failed) → GrewBy before now (λ written. IsTextTested write name text written failed None)
unwritten name text asked tolds write failed before now are is it = record {
  more = it.more;
  grew = it.grew;
  fact = (tolds, subst (λ a. IsTestedSo name a tolds it.more failed) are it.fact, subst (λ b. IsWritten b text (lines text) tolds None) (sym is) refl);
}

-- a file took the answers
pub written : (name text : List ℕ) (asked : List (List ℕ)) (tolds shown : List Told) (write : Bool) (failed : ℕ) (taken : Option (List ℕ)) (before now : List ℕ) → asked ≡ lines text → shown ≡ tolds → write ≡ true → GrewBy before now (λ written. IsTestedSo name asked tolds written failed) → IsFilledBy text asked shown taken → GrewBy before now (λ written. IsTextTested write name text written failed taken)
written name text asked tolds shown write failed taken before now are same is it filled = record {
  more = it.more;
  grew = it.grew;
  fact = (tolds, subst (λ a. IsTestedSo name a tolds it.more failed) are it.fact, subst (λ b. IsWritten b text (lines text) tolds taken) (sym is) (subst (λ (s : List Told). IsFilledBy text (lines text) s taken) same (subst (λ a. IsFilledBy text a shown taken) are filled)));
}

-- the text has the answers that came
pub kept_text : (again text : List ℕ) (asked : List (List ℕ)) (tolds : List Told) (same : Bool) → same ≡ bytes_eq again text → same ≡ true → again ≡ ended (filled asked tolds) → text ≡ ended (filled asked tolds)
kept_text again text asked tolds same compared is are = sym ((bytes_eq-Decides again text).0 (sym compared ∙ is)) ∙ are

-- lines that were answered are some script's
pub of_script : {E : Type 0} (r : Result (Answered × Bool) E) (terse : Bool) (asked : List (List ℕ)) (script : List ℕ) → asked ≡ lines script → IfOk r (λ it. AreAnsweredUntil terse asked it.0.tolds.items it.0.book.seen.committed it.1) → IfOk r (λ it. (script : List ℕ) × AreAnsweredUntil terse (lines script) it.0.tolds.items it.0.book.seen.committed it.1)
of_script (Ok it) terse asked script are answered = (script, subst (λ a. AreAnsweredUntil terse a it.0.tolds.items it.0.book.seen.committed it.1) are answered)
of_script (Err e) terse asked script are answered = tt

-- the text of a script that was run up to a refusal
stopped_text : (terse done : Bool) (tolds shown : List Told) (history : List Record) (old new : List ℕ) → ((script : List ℕ) × AreAnsweredUntil terse (lines script) tolds history done) → shown ≡ tolds → new ≡ old ++ flat_map (λ (told : Told). told.text) shown → GrewBy old new (λ written. IsStopText terse written history done)
stopped_text terse done tolds shown history old new it same grew = record {
  more = flat_map (λ (told : Told). told.text) tolds;
  grew = grew ∙ ap (λ s. old ++ flat_map (λ (told : Told). told.text) s) same;
  fact = record { script = it.0; tolds = tolds; answered = it.1; whole = refl };
}

-- with its audit behind it
pub stopped_with_audit : (terse done : Bool) (tolds shown : List Told) (history : List Record) (old middle new : List ℕ) → ((script : List ℕ) × AreAnsweredUntil terse (lines script) tolds history done) → shown ≡ tolds → middle ≡ old ++ flat_map (λ (told : Told). told.text) shown → WritesAudit history middle new
    → GrewBy old new (IsWithAudit (λ text records. IsStopText terse text records done))
stopped_with_audit terse done tolds shown history old middle new it same grew audit =
    text_with_audit (λ text records. IsStopText terse text records done) history old middle new (stopped_text terse done tolds shown history old middle it same grew) audit

-- what is written for such a script, and its audit
pub stopped : (audit : Option (Bor (List ℕ))) (terse done : Bool) (tolds shown : List Told) (history : List Record) (taken : Option (List ℕ)) (old new : List ℕ) → ((script : List ℕ) × AreAnsweredUntil terse (lines script) tolds history done) → shown ≡ tolds → new ≡ old ++ flat_map (λ (told : Told). told.text) shown → IsAudited audit history taken
    → GrewBy old new (λ written. (history : List Record) × (taken : Option (List ℕ)) × IsStopText terse written history done × IsAudited audit history taken)
stopped audit terse done tolds shown history taken old new it same grew audited =
    grew_more old new (λ written. IsStopText terse written history done) (λ written. (history : List Record) × (taken : Option (List ℕ)) × IsStopText terse written history done × IsAudited audit history taken)
    (λ written text. (history, taken, text, audited)) (stopped_text terse done tolds shown history old new it same grew)

-- ---- the answers of these commands

pub tests_answered : (request : Request) (tests : Tests) (passed : Bool) (old new : List ℕ) → request ≡ q.Test tests → GrewBy old new (λ written. AreTested (map (λ name. name.now) tests.files.items) written passed) → GrewBy old new (λ written. Answers request written passed)
tests_answered request tests passed old new is grew = answered request (q.Test tests) passed old new (λ written. AreTested (map (λ name. name.now) tests.files.items) written passed) is (λ written it. it) grew

pub stop_answered : (request : Request) (run : ScriptFile) (done : Bool) (old new : List ℕ) → request ≡ q.RunStopping run → GrewBy old new (λ written. Answers (q.RunStopping run) written done) → GrewBy old new (λ written. Answers request written done)
stop_answered request run done old new is grew = answered request (q.RunStopping run) done old new (λ written. Answers (q.RunStopping run) written done) is (λ written it. it) grew

-- with an audit in a file of its own, or none
pub stopped_apart : (run : ScriptFile) (wanted done : Bool) (old new : List ℕ) → wanted ≡ is_output_wanted run.audit → wanted ≡ false → GrewBy old new (λ written. (history : List Record) × (taken : Option (List ℕ)) × IsStopText run.terse written history done × IsAudited run.audit history taken)
    → GrewBy old new (λ written. Answers (q.RunStopping run) written done)
stopped_apart run wanted done old new same is grew =
    grew_more old new (λ written. (history : List Record) × (taken : Option (List ℕ)) × IsStopText run.terse written history done × IsAudited run.audit history taken) (λ written. Answers (q.RunStopping run) written done)
    (λ written it. subst (λ (b : Bool). IsStopAnswer b run written done) (sym is ∙ same) it) grew

-- with its audit behind the answers
pub stopped_together : (run : ScriptFile) (wanted done : Bool) (old new : List ℕ) → wanted ≡ is_output_wanted run.audit → wanted ≡ true → GrewBy old new (IsWithAudit (λ text records. IsStopText run.terse text records done)) → GrewBy old new (λ written. Answers (q.RunStopping run) written done)
stopped_together run wanted done old new same is grew =
    grew_more old new (IsWithAudit (λ text records. IsStopText run.terse text records done)) (λ written. Answers (q.RunStopping run) written done) (λ written it. subst (λ (b : Bool). IsStopAnswer b run written done) (sym is ∙ same) it) grew
