-- How the program ends, from what was done.
use Rattle.std.proofs.Common.{◌≡◌, refl, ℕ, Bool, true, false, List, [], Option, Result, Ok, Err, IfOk, inl, inr, sym, ap, subst, ◌∙◌}
use Rattle.std.specs.Borrow.{Bor}
use Rattle.rls_check.specs.rls_audit.specs.rls_core.specs.Records.{Record}
use Rattle.rls_session.specs.rls_script.specs.Streams.{GrewBy}
use Rattle.rls_command_line.specs.declared.command_line.Mistake.{Mistake}
use Rattle.rls_command_line.specs.declared.words.Request.{Request}
use Rattle.rls_command_line.specs.declared.words.Request.TheVariants as q
use Rattle.rls_command_line.specs.declared.words.ScriptFile.{ScriptFile}
use Rattle.rls_command_line.specs.declared.words.Checks.{Checks}
use Rattle.rls_command_line.specs.declared.words.Explain.{Explain}
use Rattle.rls_command_line.specs.Words.{is_output, is_output_wanted}
use Rattle.rls_command_line.specs.CommandLine.{Asks, IsMistaken}
use Rattle.rlsdb.specs.declared.fault.Fault.{Fault}
use Rattle.rlsdb.specs.Answers.{Answers, answered_part, IsAudited, IsMigrationOf, IsOrderOf, IsParsed, IsRunAnswer, IsRunText, IsWhyOf, IsWithAudit}
use Rattle.rlsdb.specs.Commands.{ComesTo, EndsWords}
use Rattle.rlsdb.specs.Faults.{EndsAnswer, EndsMistake}
use Rattle.rlsdb.proofs.AnswerLemmas.{grew_more, nothing}

-- what was asked came to this
pub comes : (request : Request) (before now : List ℕ) (came : Result Bool Fault) → IfOk came (λ done. GrewBy before now (λ written. Answers request written done)) → ComesTo request before now came
comes request before now (Ok done) is = is
comes request before now (Err fault) is = tt

-- the program ends as what the words ask for came out
pub by_request : (words : List (List ℕ)) (before now : List ℕ) (status : ℕ) (request : Request) (came : Result Bool Fault) → Asks words request → IfOk came (λ done. GrewBy before now (λ written. Answers request written done)) → EndsAnswer came status → EndsWords words before now status
by_request words before now status request came asks is ends = inl (request, came, asks, comes request before now came is, ends)

-- or by what is wrong with them
pub by_mistake : (words : List (List ℕ)) (before now : List ℕ) (status : ℕ) (mistake : Mistake) → IsMistaken words mistake → EndsMistake mistake status → EndsWords words before now status
by_mistake words before now status mistake is ends = inr (mistake, is, ends)

-- the answer to what was asked for
pub answered : (request asked : Request) (done : Bool) (old new : List ℕ) (P : List ℕ → Type 0) → request ≡ asked → ((written : List ℕ) → P written → Answers asked written done) → GrewBy old new P → GrewBy old new (λ written. Answers request written done)
answered request asked done old new P is step grew =
    grew_more old new P (λ written. Answers request written done) (λ written holds. subst (λ (it : Request). Answers it written done) (sym is) (step written holds)) grew

-- ---- of each command

pub ran : (request : Request) (run : ScriptFile) (done : Bool) (old new : List ℕ) → request ≡ q.Run run → GrewBy old new (λ written. Answers (q.Run run) written done) → GrewBy old new (λ written. Answers request written done)
ran request run done old new is grew =
    answered request (q.Run run) done old new (λ written. Answers (q.Run run) written done) is (λ written it. it) grew

-- with an audit in a file of its own, or none
pub ran_apart : (run : ScriptFile) (wanted : Bool) (taken : Option (List ℕ)) (old new : List ℕ) → wanted ≡ is_output_wanted run.audit → wanted ≡ false → GrewBy old new (λ written. (history : List Record) × IsRunText run.threads run.terse written history × IsAudited run.audit history taken) → GrewBy old new (λ written. Answers (q.Run run) written true)
ran_apart run wanted taken old new same is grew =
    grew_more old new (λ written. (history : List Record) × IsRunText run.threads run.terse written history × IsAudited run.audit history taken) (λ written. Answers (q.Run run) written true)
    (λ written it. (subst (λ (b : Bool). IsRunAnswer b run written) (sym is ∙ same) (it.0, taken, it.1, it.2), refl)) grew

-- with its audit behind the answers
pub ran_together : (run : ScriptFile) (wanted : Bool) (old new : List ℕ) → wanted ≡ is_output_wanted run.audit → wanted ≡ true → GrewBy old new (IsWithAudit (IsRunText run.threads run.terse)) → GrewBy old new (λ written. Answers (q.Run run) written true)
ran_together run wanted old new same is grew =
    grew_more old new (IsWithAudit (IsRunText run.threads run.terse)) (λ written. Answers (q.Run run) written true) (λ written it. (subst (λ (b : Bool). IsRunAnswer b run written) (sym is ∙ same) it, refl)) grew

pub ordered : (request : Request) (name : Bor (List ℕ)) (old new : List ℕ) → request ≡ q.Order name → GrewBy old new (λ written. (texts : List (List ℕ)) × IsOrderOf texts written) → GrewBy old new (λ written. Answers request written true)
ordered request name old new is grew =
    answered request (q.Order name) true old new (λ written. (texts : List (List ℕ)) × IsOrderOf texts written) is (λ written it. (it.0, it.1, refl)) grew

pub checked : (request : Request) (checks : Checks) (hold : Bool) (old new : List ℕ) → request ≡ q.Check checks → GrewBy old new (λ written. Answers (q.Check checks) written hold) → GrewBy old new (λ written. Answers request written hold)
checked request checks hold old new is grew =
    answered request (q.Check checks) hold old new (λ written. Answers (q.Check checks) written hold) is (λ written it. it) grew

pub explained : (request : Request) (asked : Explain) (said : Bool) (old new : List ℕ) → request ≡ q.Explain asked → GrewBy old new (λ written. (texts : List (List ℕ)) × IsWhyOf asked.txn asked.statement asked.row asked.long texts written said) → GrewBy old new (λ written. Answers request written said)
explained request asked said old new is grew =
    answered request (q.Explain asked) said old new (λ written. (texts : List (List ℕ)) × IsWhyOf asked.txn asked.statement asked.row asked.long texts written said) is (λ written it. it) grew

pub migrated : (request : Request) (from to : Bor (List ℕ)) (done : Bool) (old new : List ℕ) → request ≡ q.Migrate from to → GrewBy old new (λ written. Answers (q.Migrate from to) written done) → GrewBy old new (λ written. Answers request written done)
migrated request from to done old new is grew =
    answered request (q.Migrate from to) done old new (λ written. Answers (q.Migrate from to) written done) is (λ written it. it) grew

-- into a file of its own
pub migrated_apart : (from to : Bor (List ℕ)) (wanted : Bool) (bytes taken : List ℕ) → wanted ≡ is_output to.now → wanted ≡ false → ((texts : List (List ℕ)) × IsMigrationOf texts taken) → GrewBy bytes bytes (λ written. Answers (q.Migrate from to) written true)
migrated_apart from to wanted bytes taken same is it =
    nothing bytes (λ written. Answers (q.Migrate from to) written true) (it.0, taken, it.1, ap (λ (b : Bool). answered_part b taken) (sym is ∙ same), refl)

-- as an answer
pub migrated_together : (from to : Bor (List ℕ)) (wanted : Bool) (old new : List ℕ) → wanted ≡ is_output to.now → wanted ≡ true → GrewBy old new (λ written. (texts : List (List ℕ)) × IsMigrationOf texts written) → GrewBy old new (λ written. Answers (q.Migrate from to) written true)
migrated_together from to wanted old new same is grew =
    grew_more old new (λ written. (texts : List (List ℕ)) × IsMigrationOf texts written) (λ written. Answers (q.Migrate from to) written true)
    (λ written it. (it.0, written, it.1, ap (λ (b : Bool). answered_part b written) (sym is ∙ same), refl)) grew

pub parsed : (request : Request) (name : Bor (List ℕ)) (fine : Bool) (old new : List ℕ) → request ≡ q.Parse name → GrewBy old new (λ written. IsParsed written fine) → GrewBy old new (λ written. Answers request written fine)
parsed request name fine old new is grew =
    answered request (q.Parse name) fine old new (λ written. IsParsed written fine) is (λ written it. it) grew
