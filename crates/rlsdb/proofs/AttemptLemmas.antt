-- What a run writes that keeps what ended without a commit.
use Rattle.std.proofs.Common.{◌≡◌, ◌≤◌, ◌-◌, ◌++◌, ◌∷◌, [], ℕ, Bool, true, false, List, Option, map, length, take, drop, get_or, sym, ap, subst, ◌∙◌, refl, append_assoc, arith}
use Rattle.std.proofs.lemmas.List.{take_all}
use Rattle.std.specs.Borrow.{Bor}
use Rattle.rls_check.specs.rls_audit.specs.Printed.{printed_attempt}
use Rattle.rls_check.specs.rls_audit.specs.rls_audit_lines.specs.AttemptReading.{attempt_text}
use Rattle.rls_check.specs.rls_audit.specs.rls_audit_lines.specs.declared.attempts.AttemptLine.{AttemptLine}
use Rattle.rls_check.specs.rls_audit.specs.rls_audit_lines.specs.declared.attempts.AttemptLine.TheVariants as line
use Rattle.rls_check.specs.rls_audit.specs.rls_core.specs.Records.{Record}
use Rattle.rls_command_line.specs.declared.words.Request.{Request}
use Rattle.rls_command_line.specs.declared.words.Request.TheVariants as q
use Rattle.rls_command_line.specs.declared.words.ScriptFile.{ScriptFile}
use Rattle.rls_command_line.specs.Words.{is_output_wanted}
use Rattle.rls_session.specs.declared.tried.Attempted.{Attempted}
use Rattle.rls_session.specs.Parts.{Tried, tried_by}
use Rattle.rls_session.specs.rls_script.specs.Streams.{GrewBy}
use Rattle.rlsdb.specs.Answers.{Answers, IsAudited, IsKeptAnswer, IsKeptText, IsRunText, IsTextWithAttempts, IsWithAudit}
use Rattle.rlsdb.specs.Attempts.{WritesAttempts, attempted_text, attempts_texts, end_shown}
use Rattle.rlsdb.specs.AuditLines.{WritesAudit, ended_lines}
use Rattle.rlsdb.proofs.AnswerLemmas.{grew_more, text_with_audit}
use Rattle.rlsdb.proofs.CommandLemmas.{answered}

-- whatever was kept
kept_is : (threads terse keeps : Bool) (written : List ℕ) (history : List Record) (tried : List Tried) → IsKeptText threads terse keeps written history tried → IsRunText threads terse written history
kept_is true terse keeps written history tried it = (it.0, (keeps, tried, it.1))
kept_is false terse keeps written history tried it = (it.0, (keeps, tried, it.1))

pub run_kept : (threads terse keeps : Bool) (history : List Record) (tried : List Tried) (old new : List ℕ) → GrewBy old new (λ written. IsKeptText threads terse keeps written history tried) → GrewBy old new (λ written. IsRunText threads terse written history)
run_kept threads terse keeps history tried old new grew = grew_more old new (λ written. IsKeptText threads terse keeps written history tried) (λ written. IsRunText threads terse written history) (λ written it. kept_is threads terse keeps written history tried it) grew

-- a file took the attempts
with_attempts : (threads terse : Bool) (history : List Record) (tried : List Tried) (kept old new : List ℕ) → WritesAttempts tried kept → GrewBy old new (λ written. IsKeptText threads terse true written history tried) → GrewBy old new (λ written. IsTextWithAttempts threads terse written history)
with_attempts threads terse history tried kept old new writes grew = grew_more old new (λ written. IsKeptText threads terse true written history tried) (λ written. IsTextWithAttempts threads terse written history) (λ written it. (tried, kept, it, writes)) grew

-- and a file the audit, or none did
pub kept_apart : (threads terse : Bool) (history : List Record) (attempts shown : List Attempted) (audit : Option (Bor (List ℕ))) (taken : Option (List ℕ)) (kept old new : List ℕ) → GrewBy old new (λ written. IsKeptText threads terse true written history (map tried_by attempts)) → IsAudited audit history taken → shown ≡ attempts → WritesAttempts (map tried_by shown) kept
    → GrewBy old new (λ written. (history : List Record) × (taken : Option (List ℕ)) × IsTextWithAttempts threads terse written history × IsAudited audit history taken)
kept_apart threads terse history attempts shown audit taken kept old new grew audited same writes =
    grew_more old new (λ written. IsTextWithAttempts threads terse written history) (λ written. (history : List Record) × (taken : Option (List ℕ)) × IsTextWithAttempts threads terse written history × IsAudited audit history taken)
    (λ written it. (history, taken, it, audited)) (with_attempts threads terse history (map tried_by attempts) kept old new (subst (λ (all : List Attempted). WritesAttempts (map tried_by all) kept) same writes) grew)

-- or the audit stands behind the answers
pub kept_together : (threads terse : Bool) (history : List Record) (attempts shown : List Attempted) (kept old middle new : List ℕ) → GrewBy old middle (λ written. IsKeptText threads terse true written history (map tried_by attempts)) → WritesAudit history middle new → shown ≡ attempts → WritesAttempts (map tried_by shown) kept
    → GrewBy old new (IsWithAudit (IsTextWithAttempts threads terse))
kept_together threads terse history attempts shown kept old middle new grew audit same writes =
    text_with_audit (IsTextWithAttempts threads terse) history old middle new
    (with_attempts threads terse history (map tried_by attempts) kept old middle (subst (λ (all : List Attempted). WritesAttempts (map tried_by all) kept) same writes) grew) audit

-- ---- lines

-- with the line of the first of a slice, what is written and what is left make the whole
pub each_more : (rest : List Attempted) (one : Attempted) (line : AttemptLine) (old new whole : List ℕ) → 1 ≤ length rest → one ≡ get_or rest 0 one → line ≡ printed_attempt (end_shown one.end) one.attempt → new ≡ old ++ (attempt_text line ++ (10 ∷ [])) → old ++ ended_lines (map attempted_text rest) ≡ whole
    → new ++ ended_lines (map attempted_text (take (length rest - 1) (drop 1 rest))) ≡ whole
each_more [] one line old new whole some first is grew so_far = absurd (omega (arith, some))
each_more (it ∷ rest) one line old new whole some first is grew so_far =
    ap (λ (left : List Attempted). new ++ ended_lines (map attempted_text left)) (take_all (length (it ∷ rest) - 1) rest (omega arith))
    ∙ (ap (λ (front : List ℕ). front ++ ended_lines (map attempted_text rest)) (grew ∙ ap (λ (made : AttemptLine). old ++ (attempt_text made ++ (10 ∷ []))) (is ∙ ap (λ (of : Attempted). printed_attempt (end_shown of.end) of.attempt) first))
    ∙ (append_assoc old (attempted_text it ++ (10 ∷ [])) (ended_lines (map attempted_text rest)) ∙ so_far))

-- the first line, and those of the attempts
pub lines_written : (attempts : List Attempted) (old middle new : List ℕ) → middle ≡ old ++ (attempt_text line.Head ++ (10 ∷ [])) → new ≡ middle ++ ended_lines (map attempted_text attempts) → new ≡ old ++ ended_lines (attempts_texts attempts)
lines_written attempts old middle new first more =
    more ∙ (ap (λ (front : List ℕ). front ++ ended_lines (map attempted_text attempts)) first ∙ append_assoc old (attempt_text line.Head ++ (10 ∷ [])) (ended_lines (map attempted_text attempts)))

-- in a file of their own
pub attempts_whole : (attempts : List Attempted) (old middle new : List ℕ) → middle ≡ old ++ ended_lines (attempts_texts attempts) → old ≡ [] → new ≡ middle → WritesAttempts (map tried_by attempts) new
attempts_whole attempts old middle new written empty same = record { attempts = attempts; are = refl; lines = same ∙ (written ∙ ap (λ (front : List ℕ). front ++ ended_lines (attempts_texts attempts)) empty) }

-- ---- answers

pub answered_apart : (run : ScriptFile) (out : Bor (List ℕ)) (wanted : Bool) (old new : List ℕ) → wanted ≡ is_output_wanted run.audit → wanted ≡ false → GrewBy old new (λ written. (history : List Record) × (taken : Option (List ℕ)) × IsTextWithAttempts run.threads run.terse written history × IsAudited run.audit history taken) → GrewBy old new (λ written. Answers (q.RunKeeping run out) written true)
answered_apart run out wanted old new same is grew =
    grew_more old new (λ written. (history : List Record) × (taken : Option (List ℕ)) × IsTextWithAttempts run.threads run.terse written history × IsAudited run.audit history taken) (λ written. Answers (q.RunKeeping run out) written true)
    (λ written it. (subst (λ (b : Bool). IsKeptAnswer b run written) (sym is ∙ same) it, refl)) grew

pub answered_together : (run : ScriptFile) (out : Bor (List ℕ)) (wanted : Bool) (old new : List ℕ) → wanted ≡ is_output_wanted run.audit → wanted ≡ true → GrewBy old new (IsWithAudit (IsTextWithAttempts run.threads run.terse)) → GrewBy old new (λ written. Answers (q.RunKeeping run out) written true)
answered_together run out wanted old new same is grew =
    grew_more old new (IsWithAudit (IsTextWithAttempts run.threads run.terse)) (λ written. Answers (q.RunKeeping run out) written true) (λ written it. (subst (λ (b : Bool). IsKeptAnswer b run written) (sym is ∙ same) it, refl)) grew

pub attempts_answered : (request : Request) (run : ScriptFile) (out : Bor (List ℕ)) (done : Bool) (old new : List ℕ) → request ≡ q.RunKeeping run out → GrewBy old new (λ written. Answers (q.RunKeeping run out) written done) → GrewBy old new (λ written. Answers request written done)
attempts_answered request run out done old new is grew = answered request (q.RunKeeping run out) done old new (λ written. Answers (q.RunKeeping run out) written done) is (λ written it. it) grew
