-- Refusals, and what they are as events.
use Rattle.std.specs.Prelude.{◌≡◌, refl, ℕ, suc, Bool, true, false, cond, [], ◌∷◌, ◌++◌, length, List, Option, Some, None, Result, Ok, Err, IfOk, OnOk, OnErr, IfErr}
use Rattle.std.proofs.Common.{ap, sym, ◌∙◌}
use Rattle.std.proofs.lemmas.Bool.{true≢false}
use Rattle.rls_value.specs.declared.refusal.Refusal.{Refusal}
use Rattle.rls_value.specs.declared.refusal.Refusal.TheVariants.{NoMemory, NoLogin, Limit, TxnState, Serial}
use Rattle.rls_value.specs.declared.refusal.TxnState.TheVariants.{NoneInProgress}
use Rattle.rls_value.specs.declared.refusal.Cause.{Cause}
use Rattle.rls_value.specs.declared.refusal.Cause.TheVariants as cause
use Rattle.rls_statement.specs.declared.statement.Statement.{Statement}
use Rattle.rls_meaning.specs.rls_access.specs.Transactions.{Begin}
use Rattle.rls_core.specs.Events.{Event, Running, World}
use Rattle.rls_core.specs.Seen.{Seen, runs_at, world_of, Happens}
use Rattle.rls_core.specs.Calls.{NotBegun, NotWorked, NotPosted, NotReady, NotCommitted, NotRunning, is_serial, MayCommit}
use Rattle.rls_core.specs.Happening.{IsAnswered, IsStopped, is_stop, stops}
use Rattle.rls_core.proofs.EventLemmas.{begin_refused, post_refused, commit_refused, commit_ends, commit_is}
use Rattle.rls_core.proofs.AdmittedLemmas.{long_push}

pub begin_goes : (old new : Seen) (who : Begin) (why : Refusal) → NotBegun old who why → new ≡ old → OnOk (stops why) (Happens (Event.Begins who) old new)
begin_goes old new who NoMemory is same = tt
begin_goes old new who (NoLogin login) is same = begin_refused old new who is.1 same
begin_goes old new who (Limit limit) is same = tt
begin_goes old new who _ is same = absurd is

pub begin_same : (old new : Seen) (why : Refusal) → new ≡ old → OnErr (stops why) (new ≡ old)
begin_same old new NoMemory same = same
begin_same old new (Limit limit) same = same
begin_same old new _ same = tt

pub begin_answer : (old new : Seen) (who : Begin) (why : Refusal) → NotBegun old who why → IfOk (stops why) (IsAnswered (Event.Begins who) old new)
begin_answer old new who NoMemory is = tt
begin_answer old new who (NoLogin login) is = (refl, is)
begin_answer old new who (Limit what) is = tt
begin_answer old new who _ is = absurd is

pub begin_stops : (old : Seen) (who : Begin) (why : Refusal) → NotBegun old who why → IfErr (stops why) (IsStopped (world_of old) (Event.Begins who))
begin_stops old who NoMemory is = tt
begin_stops old who (Limit what) is = is
begin_stops old who _ is = tt

pub post_goes : (old new : Seen) (txn : ℕ) (asked : Statement) (why : Refusal) → NotPosted txn asked old new why → OnOk (stops why) (Happens (Event.Posts txn asked) old new)
post_goes old new txn asked NoMemory is = tt
post_goes old new txn asked (TxnState NoneInProgress) is = post_refused old new txn asked is.1 is.0
post_goes old new txn asked (Serial (cause.Written object other)) is = is.happens
post_goes old new txn asked (Limit limit) is = tt
post_goes old new txn asked _ is = absurd is

pub post_same : (old new : Seen) (txn : ℕ) (asked : Statement) (why : Refusal) → NotPosted txn asked old new why → OnErr (stops why) (new ≡ old)
post_same old new txn asked NoMemory is = is
post_same old new txn asked (Limit limit) is = absurd is
post_same old new txn asked _ is = tt

pub post_answer : (old new : Seen) (txn : ℕ) (asked : Statement) (why : Refusal) → NotPosted txn asked old new why → IfOk (stops why) (IsAnswered (Event.Posts txn asked) old new)
post_answer old new txn asked NoMemory is = tt
post_answer old new txn asked (TxnState NoneInProgress) is = (refl, is)
post_answer old new txn asked (Serial (cause.Written object other)) is = (refl, is)
post_answer old new txn asked (Limit what) is = tt
post_answer old new txn asked _ is = absurd is

pub post_stops : (old new : Seen) (txn : ℕ) (asked : Statement) (why : Refusal) → NotPosted txn asked old new why → IfErr (stops why) (IsStopped (world_of old) (Event.Posts txn asked))
post_stops old new txn asked NoMemory is = tt
post_stops old new txn asked (Limit what) is = absurd is
post_stops old new txn asked _ is = tt

pub commit_goes : (old new : Seen) (txn : ℕ) (why : Refusal) → NotCommitted txn old new why → OnOk (stops why) (Happens (Event.Commits txn) old new)
commit_goes old new txn NoMemory is = tt
commit_goes old new txn (TxnState NoneInProgress) is = commit_refused old new txn is.1 is.0
commit_goes old new txn (Serial why) is = is.0
commit_goes old new txn (Limit limit) is = tt
commit_goes old new txn _ is = absurd is

pub commit_same : (old new : Seen) (txn : ℕ) (why : Refusal) → NotCommitted txn old new why → OnErr (stops why) (new ≡ old)
commit_same old new txn NoMemory is = is
commit_same old new txn (Limit limit) is = absurd is
commit_same old new txn _ is = tt

pub commit_answer : (old new : Seen) (txn : ℕ) (why : Refusal) → NotCommitted txn old new why → IfOk (stops why) (IsAnswered (Event.Commits txn) old new)
commit_answer old new txn NoMemory is = tt
commit_answer old new txn (TxnState NoneInProgress) is = (refl, is)
commit_answer old new txn (Serial why) is = (refl, is)
commit_answer old new txn (Limit what) is = tt
commit_answer old new txn _ is = absurd is

pub commit_stops : (old new : Seen) (txn : ℕ) (why : Refusal) → NotCommitted txn old new why → IfErr (stops why) (IsStopped (world_of old) (Event.Commits txn))
commit_stops old new txn NoMemory is = tt
commit_stops old new txn (Limit what) is = absurd is
commit_stops old new txn _ is = tt

-- a refused rollback stops nothing
pub not_ended : (seen : Seen) (txn : ℕ) (why : Refusal) → NotRunning seen txn why → is_stop why ≡ false
not_ended seen txn (TxnState NoneInProgress) is = refl
not_ended seen txn _ is = absurd is

-- without work there is no post
pub not_worked : (seen : Seen) (txn : ℕ) (asked : Statement) (why : Refusal) → NotWorked seen txn why → NotPosted txn asked seen seen why
not_worked seen txn asked NoMemory is = refl
not_worked seen txn asked (TxnState NoneInProgress) is = (refl, is)
not_worked seen txn asked _ is = absurd is

-- a commit that is refused for a structure ends the transaction
pub serial_ends : (old new : Seen) (txn : ℕ) (why : Refusal) → is_serial why ≡ true → NotReady old txn why → Happens (Event.RollsBack txn) old new → NotCommitted txn old new why
serial_ends old new txn (Serial why) serial is ended = (commit_ends old new txn is.it is.runs is.danger ended, is)
serial_ends old new txn _ serial is ended = absurd (true≢false (sym serial))

pub not_ready : (old new : Seen) (txn : ℕ) (why : Refusal) → is_serial why ≡ false → NotReady old txn why → new ≡ old → NotCommitted txn old new why
not_ready old new txn NoMemory serial is same = same
not_ready old new txn (TxnState NoneInProgress) serial is same = (same, is)
not_ready old new txn (Serial why) serial is same = absurd (true≢false serial)
not_ready old new txn _ serial is same = absurd is

-- a commit adds one
pub commit_adds : (old new : Seen) (txn : ℕ) (it : Running) → MayCommit old txn it → Happens (Event.Commits txn) old new → length new.committed ≡ suc (length old.committed)
commit_adds old new txn it may happens =
    ap (λ (w : World). length w.committed) (happens ∙ commit_is old txn it may.runs)
    ∙ ap (λ (b : Bool). length (cond b old.committed (old.committed ++ it.so_far ∷ []))) may.safe
    ∙ long_push old.committed it.so_far
