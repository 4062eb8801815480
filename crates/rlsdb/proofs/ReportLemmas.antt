-- What `report` writes, and what it answers.
use Rattle.std.proofs.Common.{◌≡◌, refl, ◌++◌, ◌∷◌, [], ℕ, Bool, true, false, List, Option, Some, None, Result, Ok, Err, IfOk, inl, inr, sym, ap, subst, ◌∙◌, append_assoc}
use Rattle.rls_check.specs.declared.audit.Audit.{Audit}
use Rattle.rls_check.specs.declared.filtering.ShownFilter.{ShownFilter}
use Rattle.rls_check.specs.declared.finding.Finding.{Finding}
use Rattle.rls_check.specs.declared.page.Page.{Page}
use Rattle.rls_check.specs.declared.shown_texts.Ending.{Ending}
use Rattle.rls_check.specs.declared.shown_texts.Ending.TheVariants as e
use Rattle.rls_check.specs.declared.transaction.Transaction.{Transaction}
use Rattle.rls_check.specs.declared.walking.Turn.{Turn}
use Rattle.rls_check.specs.Checking.{IsNoOrder}
use Rattle.rls_check.specs.PageStatements.{open_behind, sections_from, told_of, told_turn, turn_pieces}
use Rattle.rls_check.specs.Pages.{IsPage, behind_turn, foot_pieces, found_of, head_of, page_together, rest_of, statements_of, turn_of}
use Rattle.rls_check.specs.Pieces.{Piece, page_text, text_of}
use Rattle.rls_check.specs.ShownAudits.{missing_txn}
use Rattle.rls_check.specs.Tallies.{rows_asked, rows_of_turn, rows_with}
use Rattle.rls_check.specs.Walking.{IsNext, IsTurn, Standing}
use Rattle.rls_check.specs.Wholes.{IsAuditOf}
use Rattle.rls_session.specs.rls_script.specs.Streams.{GrewBy}
use Rattle.rls_command_line.specs.declared.words.Request.{Request}
use Rattle.rls_command_line.specs.declared.words.Request.TheVariants as q
use Rattle.rls_command_line.specs.declared.words.Reported.{Reported}
use Rattle.rls_command_line.specs.Words.{is_output}
use Rattle.rlsdb.specs.declared.fault.Fault.{Fault}
use Rattle.rlsdb.specs.Answers.{Answers, answered_part, filter_of, is_whole}
use Rattle.rlsdb.specs.AuditLines.{Reads}
use Rattle.rlsdb.specs.Reporting.{IsReportAlong, IsReportOf, IsReported}
use Rattle.rlsdb.proofs.AnswerLemmas.{all_of, grew_more, nothing, reads_more}
use Rattle.rlsdb.proofs.CommandLemmas.{answered}

-- ---- along the order

-- the page was written
pub along : (name : List ℕ) (it : ShownFilter) (most : ℕ) (transactions : List Transaction) (numbers : List ℕ) (page later : Page) (found : Option Finding) (old new : List ℕ) → IsPage name it most transactions numbers (Some page) → None ≡ missing_txn transactions it.txns
    → new ≡ old ++ page_text (head_of page ++ rest_of page (statements_of page)) → found_of later ≡ found_of page → found ≡ found_of later → GrewBy old new (λ written. IsReported name it most transactions numbers written (e.Walked found))
along name it most transactions numbers page later found old new is missing grew same says = record {
  more = page_text (head_of page ++ rest_of page (statements_of page));
  grew = grew;
  fact = inl (
    is.0,
    is.1,
    subst (λ txn. IsReportAlong name it most transactions is.0 txn (page_text (head_of page ++ rest_of page (statements_of page))) (e.Walked found)) missing
        (page.look, found_of page, is.2.differs, ap page_text (page_together name it most transactions is.0 page is.2), ap e.Walked (says ∙ same)),
  );
}

-- a transaction that is asked for isn't there
pub without : (name : List ℕ) (it : ShownFilter) (most : ℕ) (transactions : List Transaction) (numbers : List ℕ) (page : Page) (txn : ℕ) (old : List ℕ) → IsPage name it most transactions numbers (Some page) → Some txn ≡ missing_txn transactions it.txns
    → GrewBy old old (λ written. IsReported name it most transactions numbers written (e.Missing txn))
without name it most transactions numbers page txn old is missing =
    nothing old (λ written. IsReported name it most transactions numbers written (e.Missing txn)) (inl (is.0, is.1, subst (λ found. IsReportAlong name it most transactions is.0 found [] (e.Missing txn)) missing (refl, refl)))

-- the numbers are no order
pub unordered : (name : List ℕ) (it : ShownFilter) (most : ℕ) (transactions : List Transaction) (numbers old : List ℕ) → IsNoOrder transactions numbers → GrewBy old old (λ written. IsReported name it most transactions numbers written e.NoOrder)
unordered name it most transactions numbers old none = nothing old (λ written. IsReported name it most transactions numbers written e.NoOrder) (inr (none, refl, refl))

-- ---- statement by statement

page_both : (one other : List Piece) → page_text (one ++ other) ≡ page_text one ++ page_text other
unfolding page_text
page_both [] other = refl
page_both (piece ∷ one) other = ap (λ it. text_of piece ++ it) (page_both one other) ∙ sym (append_assoc (text_of piece) (page_text one) (page_text other))

-- a turn is told as its statement
told_is : (standing : Standing) (turn : Turn) → IsTurn standing turn → told_of standing ≡ told_turn turn
told_is standing turn is = λ i. record { before = sym is.before i; ctx = sym is.ctx i; asked = sym is.statement i; effect = sym is.effect i }

rows_are : (it : ShownFilter) (standing : Standing) (turn : Turn) → IsTurn standing turn → rows_asked it standing ≡ rows_of_turn it turn
rows_are it standing turn is = λ i. rows_with it (sym is.before i) (sym is.ctx i) (sym is.statement i) (sym is.effect i) (sym is.reads i)

-- what the page has of a statement and of those behind it
next_told : (page : Page) (turn : Turn) (before after : List Standing) → IsNext before turn after → rest_of page before ≡ turn_of page turn ++ rest_of (behind_turn page turn) after
next_told page turn [] after is = absurd is
next_told page turn (standing ∷ others) after is =
    let it = page.wanted.now in
    let ts = page.transactions.now in
    let conflicts = page.survey.conflicts.items in
    (λ i. (turn_pieces it ts conflicts page.most page.section (sym is.0.place i) (told_is standing turn is.0 i) (rows_are it standing turn is.0 i)
    ++ sections_from it ts conflicts page.most (open_behind it page.section (sym is.0.place i) (sym is.0.ctx i) (rows_are it standing turn is.0 i)) (sym is.1 i)) ++ foot_pieces page.look)
    ∙ append_assoc (turn_of page turn) (sections_from it ts conflicts page.most (open_behind it page.section turn.place turn.ctx (rows_of_turn it turn)) after) (foot_pieces page.look)

-- what is written, with what is written of the statements that are left, is the whole
pub turn_written : (page later : Page) (turn : Turn) (before after : List Standing) (old new whole : List ℕ) → later ≡ behind_turn page turn → IsNext before turn after → new ≡ old ++ page_text (turn_of page turn) → old ++ page_text (rest_of page before) ≡ whole
    → new ++ page_text (rest_of later after) ≡ whole
turn_written page later turn before after old new whole goes_on is grew so_far =
    ap (λ (it : Page). new ++ page_text (rest_of it after)) goes_on
    ∙ ap (λ bytes. bytes ++ page_text (rest_of (behind_turn page turn) after)) grew
    ∙ append_assoc old (page_text (turn_of page turn)) (page_text (rest_of (behind_turn page turn) after))
    ∙ ap (λ bytes. old ++ bytes) (sym (page_both (turn_of page turn) (rest_of (behind_turn page turn) after)) ∙ sym (ap page_text (next_told page turn before after is)))
    ∙ so_far

pub none_left : (page : Page) (left : List Standing) (bytes whole : List ℕ) → left ≡ [] → bytes ++ page_text (rest_of page left) ≡ whole → bytes ++ page_text (rest_of page []) ≡ whole
none_left page left bytes whole none so_far = ap (λ rest. bytes ++ page_text (rest_of page rest)) (sym none) ∙ so_far

-- above the statements, the statements, and below them
pub page_written : (page later : Page) (old above behind new : List ℕ) (standings : List Standing) → above ≡ old ++ page_text (head_of page) → standings ≡ statements_of page → behind ++ page_text (rest_of later []) ≡ above ++ page_text (rest_of page standings)
    → new ≡ behind ++ page_text (rest_of later []) → new ≡ old ++ page_text (head_of page ++ rest_of page (statements_of page))
page_written page later old above behind new standings first are statements last =
    last ∙ statements ∙ (λ i. first i ++ page_text (rest_of page (are i)))
    ∙ append_assoc old (page_text (head_of page)) (page_text (rest_of page (statements_of page)))
    ∙ ap (λ bytes. old ++ bytes) (sym (page_both (head_of page) (rest_of page (statements_of page))))

-- ---- of the lines that were read

pub reported : (name : List ℕ) (most : ℕ) (before after old new : List ℕ) (audit : Audit) (it : ShownFilter) (ending : Ending) → Reads before after (λ texts. IsAuditOf texts audit) → GrewBy old new (λ written. IsReported name it most audit.transactions audit.order written ending)
    → Reads before after (λ texts. GrewBy old new (λ written. IsReportOf name it most texts written ending))
reported name most before after old new audit it ending reads grew =
    reads_more before after (λ texts. IsAuditOf texts audit) (λ texts. GrewBy old new (λ written. IsReportOf name it most texts written ending))
    (λ texts is. grew_more old new (λ written. IsReported name it most audit.transactions audit.order written ending) (λ written. IsReportOf name it most texts written ending) (λ written holds. (audit, is, holds)) grew) reads

-- and how it ended, where the filter is the one that is asked for
pub ended : (name : List ℕ) (most : ℕ) (old new : List ℕ) (it made : ShownFilter) (ending : Ending) (whole : Bool) → made ≡ it → GrewBy old new (λ written. (texts : List (List ℕ)) × IsReportOf name made most texts written ending) → whole ≡ is_whole ending
    → GrewBy old new (λ written. (texts : List (List ℕ)) × (ending : Ending) × IsReportOf name it most texts written ending × (whole ≡ is_whole ending))
ended name most old new it made ending whole is grew same =
    grew_more old new (λ written. (texts : List (List ℕ)) × IsReportOf name made most texts written ending) (λ written. (texts : List (List ℕ)) × (ending : Ending) × IsReportOf name it most texts written ending × (whole ≡ is_whole ending))
    (λ written holds. (holds.0, ending, subst (λ (filter : ShownFilter). IsReportOf name filter most holds.0 written ending) is holds.1, same)) grew

-- ---- into a file

-- of what a file took from the first byte on
pub taken_all : (name : List ℕ) (it : ShownFilter) (most : ℕ) (transactions : List Transaction) (numbers : List ℕ) (old new : List ℕ) (ending : Ending) → GrewBy old new (λ written. IsReported name it most transactions numbers written ending) → old ≡ []
    → (taken : List ℕ) × IsReported name it most transactions numbers taken ending
taken_all name it most transactions numbers old new ending grew none =
    (new, all_of new (λ written. IsReported name it most transactions numbers written ending) (subst (λ bytes. GrewBy bytes new (λ written. IsReported name it most transactions numbers written ending)) none grew))

pub filed_of : (name : List ℕ) (most : ℕ) (before after : List ℕ) (audit : Audit) (it : ShownFilter) (ending : Ending) → Reads before after (λ texts. IsAuditOf texts audit) → ((taken : List ℕ) × IsReported name it most audit.transactions audit.order taken ending)
    → Reads before after (λ texts. (taken : List ℕ) × IsReportOf name it most texts taken ending)
filed_of name most before after audit it ending reads made =
    reads_more before after (λ texts. IsAuditOf texts audit) (λ texts. (taken : List ℕ) × IsReportOf name it most texts taken ending) (λ texts is. (made.0, (audit, is, made.1))) reads

pub some_filed : (before after : List ℕ) (Fact : List (List ℕ) → Type 0) → Reads before after Fact → (texts : List (List ℕ)) × Fact texts
some_filed before after Fact it = (it.lines, it.holds)

pub filed : (name : List ℕ) (most : ℕ) (it made : ShownFilter) (ending : Ending) (whole : Bool) → made ≡ it → ((texts : List (List ℕ)) × (taken : List ℕ) × IsReportOf name made most texts taken ending) → whole ≡ is_whole ending
    → (texts : List (List ℕ)) × (taken : List ℕ) × (ending : Ending) × IsReportOf name it most texts taken ending × (whole ≡ is_whole ending)
filed name most it made ending whole is holds same = (holds.0, holds.1, ending, subst (λ (filter : ShownFilter). IsReportOf name filter most holds.0 holds.1 ending) is holds.2, same)

-- ---- the answer

-- a file of its own took the page, where it was written
pub reported_apart : (asked : Reported) (wanted : Bool) (bytes : List ℕ) (came : Result Bool Fault) → wanted ≡ is_output asked.out.now → wanted ≡ false
    → IfOk came (λ whole. (texts : List (List ℕ)) × (taken : List ℕ) × (ending : Ending) × IsReportOf asked.audit.now (filter_of asked.wanted) asked.most texts taken ending × (whole ≡ is_whole ending)) → IfOk came (λ whole. GrewBy bytes bytes (λ written. Answers (q.Report asked) written whole))
reported_apart asked wanted bytes (Ok whole) same is it =
    nothing bytes (λ written. Answers (q.Report asked) written whole) (it.0, it.1, it.2, it.3, ap (λ (b : Bool). answered_part b it.1) (sym is ∙ same), it.4)
reported_apart asked wanted bytes (Err fault) same is it = tt

-- it is the answer
pub reported_together : (asked : Reported) (wanted : Bool) (old new : List ℕ) (whole : Bool) → wanted ≡ is_output asked.out.now → wanted ≡ true
    → GrewBy old new (λ written. (texts : List (List ℕ)) × (ending : Ending) × IsReportOf asked.audit.now (filter_of asked.wanted) asked.most texts written ending × (whole ≡ is_whole ending)) → GrewBy old new (λ written. Answers (q.Report asked) written whole)
reported_together asked wanted old new whole same is grew =
    grew_more old new (λ written. (texts : List (List ℕ)) × (ending : Ending) × IsReportOf asked.audit.now (filter_of asked.wanted) asked.most texts written ending × (whole ≡ is_whole ending)) (λ written. Answers (q.Report asked) written whole)
    (λ written it. (it.0, written, it.1, it.2, ap (λ (b : Bool). answered_part b written) (sym is ∙ same), it.3)) grew

pub answered_report : (request : Request) (asked : Reported) (whole : Bool) (old new : List ℕ) → request ≡ q.Report asked → GrewBy old new (λ written. Answers (q.Report asked) written whole) → GrewBy old new (λ written. Answers request written whole)
answered_report request asked whole old new is grew =
    answered request (q.Report asked) whole old new (λ written. Answers (q.Report asked) written whole) is (λ written it. it) grew
