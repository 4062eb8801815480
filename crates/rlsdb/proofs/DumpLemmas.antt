-- What `dump` writes, and what it answers.
use Rattle.std.proofs.Common.{◌≡◌, refl, ◌++◌, ◌+◌, ◌<◌, ◌≤◌, arith, ℕ, suc, Bool, true, false, List, [], length, get_or, Option, Some, None, Result, Ok, Err, IfOk, OnOk, inl, inr, sym, ap, subst, ◌∙◌}
use Rattle.std.specs.Prelude.{◌↔◌}
use Rattle.std.specs.Str.{bytes_eq}
use Rattle.std.proofs.lemmas.List.{get_or_default}
use Rattle.std.proofs.lemmas.Slice.Eq.{bytes_eq-Decides}
use Rattle.rls_check.specs.rls_audit.specs.rls_core.specs.Records.{Record, nobody, state_after}
use Rattle.rls_check.specs.rls_meaning.specs.rls_guard.specs.rls_catalog.specs.Changed.{changed_all, opening}
use Rattle.rls_check.specs.rls_meaning.specs.rls_guard.specs.rls_catalog.specs.State.{State}
use Rattle.rls_check.specs.declared.audit.Audit.{Audit}
use Rattle.rls_check.specs.declared.finding.Finding.{Finding}
use Rattle.rls_check.specs.declared.transaction.Transaction.{Transaction}
use Rattle.rls_check.specs.declared.walking.Walk.{Walk}
use Rattle.rls_check.specs.Checking.{IsNoOrder}
use Rattle.rls_check.specs.Walking.{IsWalk, left, standings_along, state_left}
use Rattle.rls_check.specs.Wholes.{IsAuditOf}
use Rattle.rls_check.specs.rls_meaning.specs.rls_guard.specs.rls_catalog.specs.declared.change.Change.{Change}
use Rattle.rls_lint.specs.declared.named.Named.{Named}
use Rattle.rls_lint.specs.{Contents.HaveSameContents, Naming.IsNamed}
use Rattle.rls_session.specs.Scripts.{IsScriptText, RunsScript}
use Rattle.rls_session.specs.rls_engine.specs.Views.{Closed}
use Rattle.rls_session.specs.rls_script.specs.Streams.{GrewBy}
use Rattle.rls_transcript.specs.Memory.{given_of, is_ended}
use Rattle.rls_command_line.specs.declared.words.Request.{Request}
use Rattle.rls_command_line.specs.declared.words.Request.TheVariants as q
use Rattle.rls_command_line.specs.declared.words.AuditState.{AuditState}
use Rattle.rlsdb.specs.declared.linting.StateEnd.{StateEnd}
use Rattle.rlsdb.specs.declared.linting.StateEnd.TheVariants as e
use Rattle.rlsdb.specs.Answers.{Answers}
use Rattle.rlsdb.specs.AuditLines.{Reads}
use Rattle.rlsdb.specs.Dumping.{IsDumpOf, IsDumped, IsDumpedAlong, IsRebuilding, Leaves, Rebuilds}
use Rattle.rlsdb.specs.Linting.{FirstDiffers, asked_txn, is_all_right, later_of, state_before}
use Rattle.rlsdb.proofs.AnswerLemmas.{grew_more, nothing, reads_more}
use Rattle.rlsdb.proofs.AnsweringLemmas.{text_given}
use Rattle.rlsdb.proofs.CommandLemmas.{answered}

-- ---- a run of the script

-- what is answered to the script, and what its transactions are
abbrev pub IsRun : List ℕ → List Record → Type 0
IsRun script history = (answers : List ℕ) × IsScriptText false script answers history

some_text : {E : Type 0} (r : Result Closed E) (script old new : List ℕ) → IfOk r (λ book. GrewBy old new (λ written. IsScriptText false script written book.seen.committed)) → IfOk r (λ book. IsRun script book.seen.committed)
some_text (Ok book) script old new text = (text.more, text.fact)
some_text (Err e) script old new text = tt

-- of the script that the input has
pub ran_input : {E : Type 0} (r : Result Closed E) (script_old script_new old new : List ℕ) (place_old place_new : Option ℕ) → given_of script_old place_old ≡ [] → IfOk r (λ book. RunsScript false (given_of script_old place_old) (given_of script_new place_new) old new book.seen.committed) → OnOk r (is_ended place_new ≡ true) → IfOk r (λ book. IsRun script_new book.seen.committed)
ran_input r script_old script_new old new place_old place_new fresh runs is = some_text r script_new old new (text_given r false script_old script_new old new place_old place_new fresh runs is)

-- which is the one that it was given
pub ran_script : {E : Type 0} (r : Result Closed E) (same : Bool) (given shown script : List ℕ) → shown ≡ given → same ≡ bytes_eq shown script → same ≡ true → IfOk r (λ book. IsRun given book.seen.committed) → IfOk r (λ book. IsRun script book.seen.committed)
ran_script (Ok book) same given shown script all compared is run = subst (λ it. IsRun it book.seen.committed) (sym all ∙ (bytes_eq-Decides shown script).0 (sym compared ∙ is)) run
ran_script (Err e) same given shown script all compared is run = tt

-- what it leaves tells whether it rebuilds the state
pub rebuilt_by : (script : List ℕ) (s : State) (book : Closed) (records : List Record) (r : Bool) → IsRun script book.seen.committed → records ≡ book.seen.committed → ((r ≡ true) ↔ Leaves records s) → r ≡ true → Rebuilds script s
rebuilt_by script s book records r run are decides is = (run.0, book.seen.committed, run.1, subst (λ history. Leaves history s) are (decides.0 is))

-- the script itself is what was run
pub script_rebuilds : (shown script : List ℕ) (s : State) (r : Bool) → shown ≡ script → (r ≡ true → Rebuilds shown s) → r ≡ true → Rebuilds script s
script_rebuilds shown script s r same rebuilds is = subst (λ it. Rebuilds it s) same (rebuilds is)

-- the contents of the state behind all transactions decide
pub leaves_decide : (records : List Record) (s other : State) (r : Bool) → other ≡ state_after records (length records) → ((r ≡ true) ↔ HaveSameContents s other) → ((r ≡ true) ↔ Leaves records s)
leaves_decide records s other r is decides = subst (λ state. (r ≡ true) ↔ HaveSameContents s state) is decides

-- the state behind one more of the transactions
pub behind_more : (records : List Record) (index : ℕ) (it : Record) (s s1 : State) → index < length records → it ≡ get_or records index it → s ≡ state_after records index → s1 ≡ changed_all s it.changes → s1 ≡ state_after records (index + 1)
behind_more records index it s s1 within at is with =
    let next : suc index ≡ index + 1 = omega arith in
    subst (λ n. s1 ≡ state_after records n) next (with ∙ (λ i. changed_all (is i) (((at ∙ get_or_default records index it nobody within) i).changes)))

-- behind the last one it is that behind all
pub behind_all : (records : List Record) (index : ℕ) (s : State) → index ≤ length records → length records ≤ index → s ≡ state_after records index → s ≡ state_after records (length records)
behind_all records index s within over is =
    let all : index ≡ length records = omega (arith, within, over) in
    subst (λ n. s ≡ state_after records n) all is

-- with its roles and tables
pub named_more : (s s1 : State) (changes : List Change) (old new : Named) → IsNamed s old → s1 ≡ changed_all s changes → ((state : State) → IsNamed state old → IsNamed (changed_all state changes) new) → IsNamed s1 new
named_more s s1 changes old new are with followed = subst (λ state. IsNamed state new) (sym with) (followed s are)

-- ---- along the order

-- a script that rebuilds the state was written
pub rebuilding : (s : State) (script old new : List ℕ) (found : Option Finding) → Rebuilds script s → new ≡ old ++ script → (rebuilt : Bool) × GrewBy old new (IsRebuilding s rebuilt) × (e.Walked true found ≡ e.Walked rebuilt found)
rebuilding s script old new found is grew = (true, record { more = script; grew = grew; fact = is }, refl)

-- there is none
pub not_rebuilt : (s : State) (old : List ℕ) (found : Option Finding) → (rebuilt : Bool) × GrewBy old old (IsRebuilding s rebuilt) × (e.Walked false found ≡ e.Walked rebuilt found)
not_rebuilt s old found = (false, nothing old (IsRebuilding s false) refl, refl)

-- all was walked up to the later transactions
pub along : (after : Option ℕ) (transactions : List Transaction) (numbers later : List ℕ) (walk : Walk) (s : State) (found : Option Finding) (ending : StateEnd) (old new : List ℕ) → IsWalk transactions numbers (Some walk) → Some later ≡ later_of numbers after
    → s ≡ state_before later (state_left walk) (left walk) → FirstDiffers later (left walk) found → ((rebuilt : Bool) × GrewBy old new (IsRebuilding s rebuilt) × (ending ≡ e.Walked rebuilt found))
    → GrewBy old new (λ written. IsDumped after transactions numbers written ending)
along after transactions numbers later walk s found ending old new walks is reached differs it =
    let same : s ≡ state_before later opening (standings_along transactions opening walks.0) = reached ∙ (λ i. state_before later (walks.3 i) (walks.2 i)) in
    grew_more old new (IsRebuilding s it.0) (λ written. IsDumped after transactions numbers written ending)
    (λ written rebuilt. inl (
      walks.0,
      walks.1,
      subst (λ numbered. IsDumpedAlong numbered (asked_txn after) (standings_along transactions opening walks.0) written ending) is
          (it.0, found, subst (λ state. IsRebuilding state it.0 written) same rebuilt, subst (λ standings. FirstDiffers later standings found) walks.2 differs, it.2),
    )) it.1

-- the transaction isn't there
pub without : (after : Option ℕ) (transactions : List Transaction) (numbers : List ℕ) (walk : Walk) (txn : ℕ) (old : List ℕ) → IsWalk transactions numbers (Some walk) → None ≡ later_of numbers after → txn ≡ asked_txn after
    → GrewBy old old (λ written. IsDumped after transactions numbers written (e.Missing txn))
without after transactions numbers walk txn old walks is asked =
    nothing old (λ written. IsDumped after transactions numbers written (e.Missing txn))
    (inl (walks.0, walks.1, subst (λ numbered. IsDumpedAlong numbered (asked_txn after) (standings_along transactions opening walks.0) [] (e.Missing txn)) is (refl, ap e.Missing asked)))

-- the numbers are no order
pub unordered : (after : Option ℕ) (transactions : List Transaction) (numbers old : List ℕ) → IsNoOrder transactions numbers → GrewBy old old (λ written. IsDumped after transactions numbers written e.NoOrder)
unordered after transactions numbers old none = nothing old (λ written. IsDumped after transactions numbers written e.NoOrder) (inr (none, refl, refl))

-- ---- of the lines that were read

pub dumped : (before after old new : List ℕ) (audit : Audit) (asked : Option ℕ) (ending : StateEnd) → Reads before after (λ texts. IsAuditOf texts audit) → GrewBy old new (λ written. IsDumped asked audit.transactions audit.order written ending)
    → Reads before after (λ texts. GrewBy old new (λ written. IsDumpOf asked texts written ending))
dumped before after old new audit asked ending reads grew =
    reads_more before after (λ texts. IsAuditOf texts audit) (λ texts. GrewBy old new (λ written. IsDumpOf asked texts written ending))
    (λ texts is. grew_more old new (λ written. IsDumped asked audit.transactions audit.order written ending) (λ written. IsDumpOf asked texts written ending) (λ written holds. (audit, is, holds)) grew) reads

-- and how it ended
pub ended : (old new : List ℕ) (asked : Option ℕ) (ending : StateEnd) (done : Bool) → GrewBy old new (λ written. (texts : List (List ℕ)) × IsDumpOf asked texts written ending) → done ≡ is_all_right ending
    → GrewBy old new (λ written. (texts : List (List ℕ)) × (ending : StateEnd) × IsDumpOf asked texts written ending × (done ≡ is_all_right ending))
ended old new asked ending done grew same =
    grew_more old new (λ written. (texts : List (List ℕ)) × IsDumpOf asked texts written ending) (λ written. (texts : List (List ℕ)) × (ending : StateEnd) × IsDumpOf asked texts written ending × (done ≡ is_all_right ending))
    (λ written holds. (holds.0, ending, holds.1, same)) grew

-- the answer
pub answered_dump : (request : Request) (asked : AuditState) (done : Bool) (old new : List ℕ) → request ≡ q.Dump asked → GrewBy old new (λ written. (texts : List (List ℕ)) × (ending : StateEnd) × IsDumpOf asked.after texts written ending × (done ≡ is_all_right ending))
    → GrewBy old new (λ written. Answers request written done)
answered_dump request asked done old new is grew =
    answered request (q.Dump asked) done old new (λ written. (texts : List (List ℕ)) × (ending : StateEnd) × IsDumpOf asked.after texts written ending × (done ≡ is_all_right ending)) is (λ written holds. holds) grew
