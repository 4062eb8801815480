-- What stops the calls of a session.
use Rattle.std.specs.Prelude.{◌≡◌, ◌⊎◌, ℕ, List, [], ◌∷◌, Some, Result, IfOk, IfSome}
use Rattle.rls_value.specs.declared.refusal.Refusal.{Refusal}
use Rattle.rls_value.specs.declared.refusal.Refusal.TheVariants.{NoMemory, Foreign, Serial}
use Rattle.rls_value.specs.declared.refusal.Cause.{Cause}
use Rattle.rls_script.specs.rls_guard.specs.declared.effect.Effect.{Effect}
use Rattle.rls_script.specs.rls_guard.specs.declared.reply.Reply.{Reply}
use Rattle.rls_statement.specs.declared.statement.Statement.{Statement}
use Rattle.rls_engine.specs.rls_access.specs.Transactions.{Begin}
use Rattle.rls_engine.specs.Drafts.{RefusesBegin, told_of}
use Rattle.rls_script.specs.declared.answer.Answer.{Answer}
use Rattle.rls_script.specs.declared.answer.Answer.TheVariants as a
use Rattle.rls_session.specs.Parts.{Block, Notes, Session, noted, part_by, unanswered, with_ended}
use Rattle.rls_session.specs.Blocks.{RefusesLogin, Ticket, outside, shows, started, with_statement}
use Rattle.rls_session.specs.declared.open.Stopped.{Stopped}
use Rattle.rls_session.specs.declared.open.Stopped.TheVariants as stop

-- a block that has just begun
abbrev pub IsStarted : (newest : ℕ) → Begin → Block → Type 0
IsStarted newest begin block = block ≡ started newest begin (record { txn = block.part.txn; snap = block.part.snap })

-- with one statement more, of which this is told
pub record HasPosted (old : Block) (asked : Statement) (new : Block) (told : Result Reply Refusal) : Type 0 where
  pub effect : Effect
  pub block : new ≡ with_statement old asked effect
  pub told_is : told ≡ told_of effect

-- it was committed, and is noted so; its role lasts
pub record HasCommitted (block : Block) (old new : Notes) (role : List ℕ) : Type 0 where
  pub number : ℕ
  pub notes : new ≡ noted old (shows block number ∷ [])
  pub role_is : role ≡ block.role

-- it was committed: the answer is given, and its role lasts
pub record Ended (block : Block) (answer : Answer) (old : Notes) (before : Session) (said : Answer) (new : Notes) (session : Session) : Type 0 where
  pub role : List ℕ
  pub done : HasCommitted block old new role
  pub said_is : said ≡ answer
  pub session_is : session ≡ outside before.login role

-- for want of memory the block comes back as it was; else it was so when it ended
abbrev pub WhenStopped : {X : Type 0} → Block → Stopped X → Type 0
WhenStopped block (stop.Over why ended) = IfSome ended (λ it. part_by it ≡ block.part)
WhenStopped block (stop.NoMemory left) = left ≡ block
WhenStopped block stop.Foreign = Unit {0}

-- what refused a begin is answered, unless it is a fault
abbrev pub AnswersRefused : Refusal → Result Answer Refusal → Type 0
AnswersRefused refusal result = (begin : Begin) → RefusesBegin begin refusal → IfOk result (λ answer. (answer ≡ a.Refused refusal) × RefusesLogin (Some begin.login) refusal)

-- 40001 is answered
pub record IsConflictAnswer (answer : Answer) : Type 0 where
  pub why : Cause
  pub is : answer ≡ a.Refused (Serial why)

-- what comes of the commit of a statement outside a block: it is answered, or 40001 is
abbrev pub CommitsAlone : Block → (answer : Answer) → (old : Notes) → (before : Session) → (said : Answer) → (new : Notes) → (session : Session) → Type 0
CommitsAlone block answer old before said new session = Ended block answer old before said new session ⊎ (IsConflictAnswer said × (new ≡ with_ended old (Some (unanswered block.part))) × (session ≡ before))

-- a fault that ends the run
abbrev pub IsFault : Refusal → Type 0
IsFault NoMemory = Unit {0}
IsFault Foreign = Unit {0}
IsFault _ = ⊥
