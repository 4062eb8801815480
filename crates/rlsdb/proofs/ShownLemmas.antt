-- What `shown` writes, and what it answers.
use Rattle.std.proofs.Common.{◌≡◌, refl, ◌++◌, ◌∷◌, [], ℕ, suc, ◌<◌, Bool, true, false, List, Option, Some, None, inl, inr, sym, ap, subst, ◌∙◌, length, append_assoc, append-nil, arith}
use Rattle.std.specs.Prelude.{if◌then◌else◌}
use Rattle.std.proofs.lemmas.Bool.{true≢false}
use Rattle.rls_check.specs.declared.audit.Audit.{Audit}
use Rattle.rls_check.specs.declared.filtering.ShownFilter.{ShownFilter}
use Rattle.rls_check.specs.declared.finding.Finding.{Finding}
use Rattle.rls_check.specs.declared.finding.Finding.TheVariants as f
use Rattle.rls_check.specs.declared.shown_texts.Ending.{Ending}
use Rattle.rls_check.specs.declared.shown_texts.Ending.TheVariants as e
use Rattle.rls_check.specs.declared.transaction.Transaction.{Transaction}
use Rattle.rls_check.specs.declared.walking.{Turn.Turn, Walk.Walk}
use Rattle.rls_check.specs.Checking.{IsNoOrder}
use Rattle.rls_check.specs.ShownAudits.{FirstDiffers, IsShown, IsShownAlong, missing_txn}
use Rattle.rls_check.specs.ShownTexts.{block_text, shown_text, turn_text}
use Rattle.rls_check.specs.Walking.{IsNext, IsTurn, IsWalk, Standing, left}
use Rattle.rls_check.specs.Wholes.{IsAuditOf}
use Rattle.rls_session.specs.rls_script.specs.Streams.{GrewBy}
use Rattle.rls_command_line.specs.declared.words.Request.{Request}
use Rattle.rls_command_line.specs.declared.words.Request.TheVariants as q
use Rattle.rls_command_line.specs.declared.words.Shown.{Shown}
use Rattle.rlsdb.specs.Answers.{Answers, IsShownOf, filter_of, found_first, is_whole}
use Rattle.rlsdb.specs.AuditLines.{Reads}
use Rattle.rlsdb.proofs.AnswerLemmas.{grew_more, nothing, reads_more}
use Rattle.rlsdb.proofs.CommandLemmas.{answered}

-- ---- along the order

-- all statements were walked
pub along : (it : ShownFilter) (transactions : List Transaction) (numbers : List ℕ) (walk : Walk) (found : Option Finding) (old new : List ℕ) → IsWalk transactions numbers (Some walk) → None ≡ missing_txn transactions it.txns
    → new ≡ old ++ shown_text it (left walk) → FirstDiffers (left walk) found → GrewBy old new (λ written. IsShown it transactions numbers written (e.Walked found))
along it transactions numbers walk found old new walks missing grew differs = record {
  more = shown_text it (left walk);
  grew = grew;
  fact = inl (walks.0, walks.1, subst (λ txn. IsShownAlong it transactions walks.0 txn (shown_text it (left walk)) (e.Walked found)) missing (ap (shown_text it) walks.2, (found, subst (λ standings. FirstDiffers standings found) walks.2 differs, refl)));
}

-- a transaction that is asked for isn't there
pub without : (it : ShownFilter) (transactions : List Transaction) (numbers : List ℕ) (walk : Walk) (txn : ℕ) (old : List ℕ) → IsWalk transactions numbers (Some walk) → Some txn ≡ missing_txn transactions it.txns
    → GrewBy old old (λ written. IsShown it transactions numbers written (e.Missing txn))
without it transactions numbers walk txn old walks missing =
    nothing old (λ written. IsShown it transactions numbers written (e.Missing txn)) (inl (walks.0, walks.1, subst (λ found. IsShownAlong it transactions walks.0 found [] (e.Missing txn)) missing (refl, refl)))

-- the numbers are no order
pub unordered : (it : ShownFilter) (transactions : List Transaction) (numbers old : List ℕ) → IsNoOrder transactions numbers → GrewBy old old (λ written. IsShown it transactions numbers written e.NoOrder)
unordered it transactions numbers old none = nothing old (λ written. IsShown it transactions numbers written e.NoOrder) (inr (none, refl, refl))

-- ---- statement by statement

-- what was found, or else this
abbrev pub first_or : Option Finding → Option Finding → Option Finding
first_or (Some found) other = Some found
first_or None other = other

-- what a turn writes is what its statement does
turn_told : (it : ShownFilter) (standing : Standing) (turn : Turn) → IsTurn standing turn
    → block_text None it standing.number standing.before standing.ctx standing.shown.statement standing.effect standing.reads ≡ turn_text it turn
turn_told it standing turn is = λ i. block_text None it (sym is.number i) (sym is.before i) (sym is.ctx i) (sym is.statement i) (sym is.effect i) (sym is.reads i)

next_told : (it : ShownFilter) (turn : Turn) (before after : List Standing) → IsNext before turn after → shown_text it before ≡ turn_text it turn ++ shown_text it after
next_told it turn [] after is = absurd is
next_told it turn (standing ∷ others) after is = λ i. turn_told it standing turn is.0 i ++ shown_text it (sym is.1 i)

-- what is written, and what is written of the statements that are left, make the whole
pub written_on : (it : ShownFilter) (turn : Turn) (before after : List Standing) (old new whole : List ℕ) → IsNext before turn after → new ≡ old ++ turn_text it turn → old ++ shown_text it before ≡ whole → new ++ shown_text it after ≡ whole
written_on it turn before after old new whole is grew so_far =
    ap (λ bytes. bytes ++ shown_text it after) grew ∙ append_assoc old (turn_text it turn) (shown_text it after) ∙ ap (λ bytes. old ++ bytes) (sym (next_told it turn before after is)) ∙ so_far

pub written_all : (it : ShownFilter) (left : List Standing) (bytes whole : List ℕ) → left ≡ [] → bytes ++ shown_text it left ≡ whole → bytes ≡ whole
written_all it left bytes whole none so_far = sym (append-nil bytes) ∙ ap (λ rest. bytes ++ shown_text it rest) (sym none) ∙ so_far

-- the statement comes to what the audit shows of it, and what differs among the others differs first; or it does
first_here : (so : Bool) (turn : Turn) (standing : Standing) (others : List Standing) (rest : Option Finding) → turn.agrees ≡ so → IsTurn standing turn → FirstDiffers others rest
    → FirstDiffers (standing ∷ others) (if so then rest else Some (f.Reply turn.ctx.txn turn.number))
first_here true turn standing others rest agrees is differs = inl (is.agrees.0 agrees, differs)
first_here false turn standing others rest agrees is differs =
    inr ((λ answers. true≢false (sym (is.agrees.1 answers) ∙ agrees)), λ i. Some (f.Reply (is.ctx i).txn (is.number i)))

-- so what was found before stays first, else this
found_by : (so : Bool) (turn : Turn) (found rest : Option Finding) (P : Option Finding → Type 0) → turn.agrees ≡ so → P (first_or found (if so then rest else Some (f.Reply turn.ctx.txn turn.number))) → P (first_or (found_first found turn) rest)
found_by so turn (Some found) rest P agrees holds = holds
found_by true turn None rest P agrees holds = subst (λ b. P (first_or (if b then None else Some (f.Reply turn.ctx.txn turn.number)) rest)) (sym agrees) holds
found_by false turn None rest P agrees holds = subst (λ b. P (first_or (if b then None else Some (f.Reply turn.ctx.txn turn.number)) rest)) (sym agrees) holds

-- what is found of the statements that are left leads to what is found of all
pub found_on : (turn : Turn) (before after whole : List Standing) (found again : Option Finding) → IsNext before turn after → again ≡ found_first found turn
    → ((rest : Option Finding) → FirstDiffers before rest → FirstDiffers whole (first_or found rest)) → (rest : Option Finding) → FirstDiffers after rest → FirstDiffers whole (first_or again rest)
found_on turn [] after whole found again is first so_far rest differs = absurd is
found_on turn (standing ∷ others) after whole found again is first so_far rest differs =
    subst (λ it. FirstDiffers whole (first_or it rest)) (sym first)
    (found_by turn.agrees turn found rest (FirstDiffers whole) refl
    (so_far (if turn.agrees then rest else Some (f.Reply turn.ctx.txn turn.number)) (first_here turn.agrees turn standing others rest refl is.0 (subst (λ standings. FirstDiffers standings rest) is.1 differs))))

or_none : (found : Option Finding) → first_or found None ≡ found
or_none (Some found) = refl
or_none None = refl

pub found_all : (left whole : List Standing) (found : Option Finding) → left ≡ [] → ((rest : Option Finding) → FirstDiffers left rest → FirstDiffers whole (first_or found rest)) → FirstDiffers whole found
found_all left whole found none so_far = subst (FirstDiffers whole) (or_none found) (so_far None (subst (λ standings. FirstDiffers standings None) (sym none) refl))

-- one statement fewer is left
pub fewer_left : (turn : Turn) (before after : List Standing) → IsNext before turn after → length after < length before
fewer_left turn [] after is = absurd is
fewer_left turn (standing ∷ others) after is = subst (λ standings. length standings < suc (length others)) (sym is.1) (omega arith)

-- ---- of the lines that were read

pub shown : (before after old new : List ℕ) (audit : Audit) (it : ShownFilter) (ending : Ending) → Reads before after (λ texts. IsAuditOf texts audit) → GrewBy old new (λ written. IsShown it audit.transactions audit.order written ending)
    → Reads before after (λ texts. GrewBy old new (λ written. IsShownOf it texts written ending))
shown before after old new audit it ending reads grew =
    reads_more before after (λ texts. IsAuditOf texts audit) (λ texts. GrewBy old new (λ written. IsShownOf it texts written ending))
    (λ texts is. grew_more old new (λ written. IsShown it audit.transactions audit.order written ending) (λ written. IsShownOf it texts written ending) (λ written holds. (audit, is, holds)) grew) reads

-- and how it ended, where the filter is the one that is asked for
pub ended : (old new : List ℕ) (it made : ShownFilter) (ending : Ending) (whole : Bool) → made ≡ it → GrewBy old new (λ written. (texts : List (List ℕ)) × IsShownOf made texts written ending) → whole ≡ is_whole ending
    → GrewBy old new (λ written. (texts : List (List ℕ)) × (ending : Ending) × IsShownOf it texts written ending × (whole ≡ is_whole ending))
ended old new it made ending whole is grew same =
    grew_more old new (λ written. (texts : List (List ℕ)) × IsShownOf made texts written ending) (λ written. (texts : List (List ℕ)) × (ending : Ending) × IsShownOf it texts written ending × (whole ≡ is_whole ending))
    (λ written holds. (holds.0, ending, subst (λ (filter : ShownFilter). IsShownOf filter holds.0 written ending) is holds.1, same)) grew

-- the answer
pub answered_shown : (request : Request) (asked : Shown) (whole : Bool) (old new : List ℕ) → request ≡ q.Shown asked → GrewBy old new (λ written. (texts : List (List ℕ)) × (ending : Ending) × IsShownOf (filter_of asked.wanted) texts written ending × (whole ≡ is_whole ending))
    → GrewBy old new (λ written. Answers request written whole)
answered_shown request asked whole old new is grew =
    answered request (q.Shown asked) whole old new (λ written. (texts : List (List ℕ)) × (ending : Ending) × IsShownOf (filter_of asked.wanted) texts written ending × (whole ≡ is_whole ending)) is (λ written holds. holds) grew
