-- Events as they are asked for, and what they are answered.
use Rattle.std.specs.Prelude.{◌≡◌, suc, Bool, true, false, List, [], ◌∷◌, ◌++◌, length, Result, Ok, Err, if◌then◌else◌}
use Rattle.std.specs.Option.{is_some}
use Rattle.rls_value.specs.declared.refusal.Refusal.{Refusal}
use Rattle.rls_value.specs.declared.refusal.Refusal.TheVariants.{NoMemory, Limit}
use Rattle.rls_meaning.specs.rls_access.specs.Transactions.{may_begin}
use Rattle.rls_core.specs.{declared.event.Event.Event as Asked, declared.answer.Answer.Answer}
use Rattle.rls_core.specs.declared.event.Event.TheVariants as asked
use Rattle.rls_core.specs.declared.answer.Answer.TheVariants as answer
use Rattle.rls_core.specs.Events.{Event, Running, World, after}
use Rattle.rls_core.specs.Seen.{Seen, runs_at, newest_state, core_rules, Happens}
use Rattle.rls_core.specs.Calls.{MayCommit, NotBegun, NotPosted, NotCommitted, NotRunning, IsFull}

-- the event that is asked for
abbrev pub event_of : Asked → Event
event_of (asked.Begins begin) = Event.Begins begin
event_of (asked.Posts txn statement) = Event.Posts txn statement
event_of (asked.Commits txn) = Event.Commits txn
event_of (asked.RollsBack txn) = Event.RollsBack txn

-- want of memory, or a limit: there no event happened
abbrev pub is_stop : Refusal → Bool
is_stop NoMemory = true
is_stop (Limit what) = true
is_stop _ = false

-- every other refusal is an event too, and its answer
abbrev pub stops : Refusal → Result Answer Refusal
stops why = if is_stop why then Err why else Ok (answer.Refused why)

-- why an event doesn't happen: want of memory, or that no transaction can begin
abbrev pub IsStopped : World → Event → Refusal → Type 0
IsStopped world event NoMemory = Unit {0}
IsStopped world (Event.Begins begin) (Limit what) = IsFull world what
IsStopped world event why = ⊥

-- why an event is refused
abbrev pub IsRefused : Event → Seen → Seen → Refusal → Type 0
IsRefused (Event.Begins begin) old new why = NotBegun old begin why
IsRefused (Event.Posts txn asked) old new why = NotPosted txn asked old new why
IsRefused (Event.Commits txn) old new why = NotCommitted txn old new why
IsRefused (Event.RollsBack txn) old new why = NotRunning old txn why

-- What an event is answered: who begins is admitted, and has the next number; who posted runs on; who commits was in no dangerous
-- structure, and is as many commits as there are then; who is rolled back ran. Or the event is refused.
abbrev pub IsAnswered : Event → Seen → Seen → Answer → Type 0
IsAnswered event old new (answer.Refused why) = (is_stop why ≡ false) × IsRefused event old new why
IsAnswered (Event.Begins begin) old new (answer.Begun txn) = (txn ≡ old.next) × (may_begin (newest_state old.committed) begin ≡ true)
IsAnswered (Event.Posts txn asked) old new answer.Posted = is_some (runs_at new txn) ≡ true
IsAnswered (Event.Commits txn) old new (answer.Committed commits) = (commits ≡ suc (length old.committed)) × ((it : Running) × MayCommit old txn it)
IsAnswered (Event.RollsBack txn) old new answer.RolledBack = is_some (runs_at old txn) ≡ true
IsAnswered event old new it = ⊥

-- the event happened, and was answered so
pub record HappensAs (event : Event) (old new : Seen) (it : Answer) : Type 0 where
  pub happens : Happens event old new
  pub answered : IsAnswered event old new it

-- the event happened, and its answer stands behind the others
pub record GoesOn (event : Event) (old new : Seen) (before now : List Answer) : Type 0 where
  pub it : Answer
  pub happens : HappensAs event old new it
  pub behind : now ≡ before ++ it ∷ []

-- the events happened one after another, each answered so
abbrev pub Runs : Seen → List Event → List Answer → Seen → Type 0
Runs old [] [] new = new ≡ old
Runs old (event ∷ events) (it ∷ answers) new = (between : Seen) × HappensAs event old between it × Runs between events answers new
Runs old events answers new = ⊥

-- the first events of the list lead to where the next one doesn't happen
pub record StopsAmong (events : List Event) (why : Refusal) : Type 0 where
  pub before : List Event
  pub event : Event
  pub behind : List Event
  pub split : events ≡ before ++ event ∷ behind
  pub stops : IsStopped (after core_rules before) event why

-- why a list of events isn't run: want of memory, or what one of them meets
abbrev pub StopsRun : List Event → Refusal → Type 0
StopsRun events NoMemory = Unit {0}
StopsRun events (Limit what) = StopsAmong events (Limit what)
StopsRun events why = ⊥
