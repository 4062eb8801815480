-- What `shown --attempts` writes, and what it answers.
use Rattle.std.proofs.Common.{◌≡◌, refl, ◌++◌, ◌∷◌, [], ℕ, Bool, List, Option, Some, None, inl, inr, sym, ap, subst, ◌∙◌, length, map, flat_map, append_assoc, append-nil}
use Rattle.std.specs.Borrow.{Bor}
use Rattle.std.specs.Prelude.{Result, Ok, Err, IfOk}
use Rattle.rls_check.specs.rls_meaning.specs.rls_guard.specs.rls_catalog.specs.Changed.{opening}
use Rattle.rls_check.specs.declared.attempts.Attempt.{Attempt}
use Rattle.rls_check.specs.declared.audit.Audit.{Audit}
use Rattle.rls_check.specs.declared.filtering.ShownFilter.{ShownFilter}
use Rattle.rls_check.specs.declared.finding.Finding.{Finding}
use Rattle.rls_check.specs.declared.shown_attempts.AttemptsEnd.{AttemptsEnd}
use Rattle.rls_check.specs.declared.shown_attempts.AttemptsEnd.TheVariants as e
use Rattle.rls_check.specs.declared.snapshots.Attempts.{Attempts}
use Rattle.rls_check.specs.declared.snapshots.Begun.{Begun}
use Rattle.rls_check.specs.declared.transaction.Transaction.{Transaction}
use Rattle.rls_check.specs.Attempts.{AreAttempts, missing_attempt}
use Rattle.rls_check.specs.Checking.{IsNoOrder}
use Rattle.rls_check.specs.Listing.{first_or}
use Rattle.rls_check.specs.ShownAttempts.{AreAttemptsShown, AreAttemptsShownBeside, AreAttemptsShownIf, attempts_text, begun_text, standings_of, standings_of_all}
use Rattle.rls_check.specs.ShownAudits.{FirstDiffers}
use Rattle.rls_check.specs.Snapshots.{AreBegun}
use Rattle.rls_check.specs.Walking.{Standing}
use Rattle.rls_check.specs.Wholes.{IsAuditOf}
use Rattle.rls_session.specs.rls_script.specs.Streams.{GrewBy}
use Rattle.rls_command_line.specs.declared.words.Request.{Request}
use Rattle.rls_command_line.specs.declared.words.Request.TheVariants as q
use Rattle.rls_command_line.specs.declared.words.Shown.{Shown}
use Rattle.rlsdb.specs.Answers.{Answers, AreAttemptsShownOf, filter_of, is_all_shown}
use Rattle.rlsdb.specs.AuditLines.{Reads}
use Rattle.rlsdb.proofs.AnswerLemmas.{grew_more, nothing}
use Rattle.rlsdb.proofs.CommandLemmas.{answered}
use Rattle.rlsdb.proofs.ListingLemmas.{differs_on}

-- ---- files

-- some lines are the audit
pub audit_read : (before after : List ℕ) (audit : Audit) → Reads before after (λ texts. IsAuditOf texts audit) → (texts : List (List ℕ)) × IsAuditOf texts audit
audit_read before after audit reads = (reads.lines, reads.holds)

-- some are the attempts
pub attempts_read : (before after : List ℕ) (commits : ℕ) (attempts : List Attempt) → Reads before after (λ others. AreAttempts commits others attempts) → (others : List (List ℕ)) × AreAttempts commits others attempts
attempts_read before after commits attempts reads = (reads.lines, reads.holds)

-- ---- attempt by attempt

-- what is written, and what is written of the attempts that are left, make the whole
pub written_on : (wanted : ShownFilter) (one : Begun) (left rest : List Begun) (old new whole : List ℕ) → left ≡ one ∷ rest → new ≡ old ++ begun_text wanted one → old ++ attempts_text wanted left ≡ whole → new ++ attempts_text wanted rest ≡ whole
written_on wanted one left rest old new whole next grew so_far =
    ap (λ bytes. bytes ++ attempts_text wanted rest) grew ∙ append_assoc old (begun_text wanted one) (attempts_text wanted rest) ∙ ap (λ (them : List Begun). old ++ attempts_text wanted them) (sym next) ∙ so_far

pub written_all : (wanted : ShownFilter) (left : List Begun) (bytes whole : List ℕ) → left ≡ [] → bytes ++ attempts_text wanted left ≡ whole → bytes ≡ whole
written_all wanted left bytes whole none so_far = sym (append-nil bytes) ∙ ap (λ rest. bytes ++ attempts_text wanted rest) (sym none) ∙ so_far

or_first : (found other rest : Option Finding) → first_or (first_or found other) rest ≡ first_or found (first_or other rest)
or_first (Some found) other rest = refl
or_first None other rest = refl

or_none : (found : Option Finding) → first_or found None ≡ found
or_none (Some found) = refl
or_none None = refl

-- what is found of the attempts that are left leads to what is found of all
pub found_on : (one : Begun) (left behind whole : List Begun) (found other again : Option Finding) → left ≡ one ∷ behind → FirstDiffers (standings_of one) other → again ≡ first_or found other
    → ((rest : Option Finding) → FirstDiffers (standings_of_all left) rest → FirstDiffers (standings_of_all whole) (first_or found rest)) → (rest : Option Finding) → FirstDiffers (standings_of_all behind) rest → FirstDiffers (standings_of_all whole) (first_or again rest)
found_on one left behind whole found other again next here first so_far rest differs =
    subst (FirstDiffers (standings_of_all whole)) (sym (or_first found other rest) ∙ ap (λ it. first_or it rest) (sym first))
    (so_far (first_or other rest)
    (subst (λ (them : List Begun). FirstDiffers (standings_of_all them) (first_or other rest)) (sym next) (differs_on (standings_of one) (standings_of_all behind) other rest here differs)))

pub found_all : (left whole : List Begun) (found : Option Finding) → left ≡ [] → ((rest : Option Finding) → FirstDiffers (standings_of_all left) rest → FirstDiffers (standings_of_all whole) (first_or found rest)) → FirstDiffers (standings_of_all whole) found
found_all left whole found none so_far =
    subst (FirstDiffers (standings_of_all whole)) (or_none found) (so_far None (subst (λ them. FirstDiffers (standings_of_all them) None) (sym none) refl))

-- ---- beside the audit

-- all were run
pub along : (wanted : ShownFilter) (transactions : List Transaction) (numbers : List ℕ) (its : List Attempt) (begun : Attempts) (found other : Option Finding) (old new : List ℕ) → AreBegun transactions numbers its (Some begun) → found ≡ begun.differs
    → new ≡ old ++ attempts_text wanted begun.begun.items → FirstDiffers (standings_of_all begun.begun.items) other → GrewBy old new (λ written. AreAttemptsShownBeside wanted transactions numbers its written (e.Ran found other))
along wanted transactions numbers its begun found other old new are same grew differs = record {
  more = attempts_text wanted begun.begun.items;
  grew = grew;
  fact = inl (
    are.0,
    are.1,
    (
      ap (attempts_text wanted) are.2.begun,
      (begun.differs, other, are.2.differs, subst (λ them. FirstDiffers (standings_of_all them) other) are.2.begun differs, ap (λ it. e.Ran it other) same),
    ),
  );
}

-- the numbers are no order
pub unordered : (wanted : ShownFilter) (transactions : List Transaction) (numbers : List ℕ) (its : List Attempt) (old : List ℕ) → IsNoOrder transactions numbers → GrewBy old old (λ written. AreAttemptsShownBeside wanted transactions numbers its written e.NoOrder)
unordered wanted transactions numbers its old none = nothing old (λ written. AreAttemptsShownBeside wanted transactions numbers its written e.NoOrder) (inr (none, refl, refl))

-- each that is asked for is there
pub beside : (wanted : ShownFilter) (transactions : List Transaction) (numbers : List ℕ) (its : List Attempt) (ending : AttemptsEnd) (old new : List ℕ) → None ≡ missing_attempt its wanted.txns
    → GrewBy old new (λ written. AreAttemptsShownBeside wanted transactions numbers its written ending) → GrewBy old new (λ written. AreAttemptsShown wanted transactions numbers its written ending)
beside wanted transactions numbers its ending old new there grew =
    subst (λ missing. GrewBy old new (λ written. AreAttemptsShownIf missing wanted transactions numbers its written ending)) there grew

-- or one isn't
pub without : (wanted : ShownFilter) (transactions : List Transaction) (numbers : List ℕ) (its : List Attempt) (txn : ℕ) (old : List ℕ) → Some txn ≡ missing_attempt its wanted.txns
    → GrewBy old old (λ written. AreAttemptsShown wanted transactions numbers its written (e.Missing txn))
without wanted transactions numbers its txn old missing =
    nothing old (λ written. AreAttemptsShown wanted transactions numbers its written (e.Missing txn))
    (subst (λ found. AreAttemptsShownIf found wanted transactions numbers its [] (e.Missing txn)) missing (refl, refl))

-- ---- of the files that were read

pub shown : (old new : List ℕ) (audit : Audit) (attempts : List Attempt) (wanted : ShownFilter) (ending : AttemptsEnd) → (texts : List (List ℕ)) × IsAuditOf texts audit → (others : List (List ℕ)) × AreAttempts (length audit.transactions) others attempts
    → GrewBy old new (λ written. AreAttemptsShown wanted audit.transactions audit.order attempts written ending) → GrewBy old new (λ written. (texts : List (List ℕ)) × (others : List (List ℕ)) × AreAttemptsShownOf wanted texts others written ending)
shown old new audit attempts wanted ending read tried grew =
    grew_more old new (λ written. AreAttemptsShown wanted audit.transactions audit.order attempts written ending) (λ written. (texts : List (List ℕ)) × (others : List (List ℕ)) × AreAttemptsShownOf wanted texts others written ending)
    (λ written are. (read.0, tried.0, (audit, attempts, read.1, tried.1, are))) grew

-- and how it ended, where the filter is the one that is asked for
pub ended : (old new : List ℕ) (it made : ShownFilter) (ending : AttemptsEnd) (whole : Bool) → made ≡ it → GrewBy old new (λ written. (texts : List (List ℕ)) × (others : List (List ℕ)) × AreAttemptsShownOf made texts others written ending) → whole ≡ is_all_shown ending
    → GrewBy old new (λ written. (texts : List (List ℕ)) × (others : List (List ℕ)) × (ending : AttemptsEnd) × AreAttemptsShownOf it texts others written ending × (whole ≡ is_all_shown ending))
ended old new it made ending whole is grew same =
    grew_more old new (λ written. (texts : List (List ℕ)) × (others : List (List ℕ)) × AreAttemptsShownOf made texts others written ending) (λ written. (texts : List (List ℕ)) × (others : List (List ℕ)) × (ending : AttemptsEnd) × AreAttemptsShownOf it texts others written ending × (whole ≡ is_all_shown ending))
    (λ written holds. (holds.0, holds.1, ending, subst (λ (filter : ShownFilter). AreAttemptsShownOf filter holds.0 holds.1 written ending) is holds.2, same)) grew

-- the answer
pub answered_attempts : (request : Request) (asked : Shown) (out : Bor (List ℕ)) (whole : Bool) (old new : List ℕ) → request ≡ q.ShownAttempts asked out
    → GrewBy old new (λ written. (texts : List (List ℕ)) × (others : List (List ℕ)) × (ending : AttemptsEnd) × AreAttemptsShownOf (filter_of asked.wanted) texts others written ending × (whole ≡ is_all_shown ending)) → GrewBy old new (λ written. Answers request written whole)
answered_attempts request asked out whole old new is grew =
    answered request (q.ShownAttempts asked out) whole old new
    (λ written. (texts : List (List ℕ)) × (others : List (List ℕ)) × (ending : AttemptsEnd) × AreAttemptsShownOf (filter_of asked.wanted) texts others written ending × (whole ≡ is_all_shown ending)) is (λ written holds. holds) grew
