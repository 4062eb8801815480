-- A label's session with transaction blocks, without an engine: given what came of what a command requests, what it is answered,
-- which session the label has then, and which transaction it shows as committed (PostgreSQL manual, 3.4, "Transactions", and SET
-- ROLE).
use Rattle.std.specs.Prelude.{◌≡◌, ℕ, Bool, true, false, List, [], ◌∷◌, ◌++◌, Option, Some, None, option_map, Result, Ok, Err, IfErr}
use Rattle.rls_value.specs.{declared.refusal.Refusal.Refusal, declared.refusal.TxnState.TxnState, declared.tag.Tag.Tag}
use Rattle.rls_value.specs.declared.refusal.Refusal.TheVariants.{NoLogin, Limit, Serial}
use Rattle.rls_value.specs.declared.refusal.Limit.TheVariants as limit
use Rattle.rls_statement.specs.{Tags.tag_of, declared.statement.Statement.Statement}
use Rattle.rls_script.specs.rls_guard.specs.{declared.context.Mode.Mode, declared.effect.Effect.Effect}
use Rattle.rls_script.specs.rls_guard.specs.declared.context.Mode.TheVariants as m
use Rattle.rls_script.specs.rls_guard.specs.declared.effect.Effect.TheVariants as e
use Rattle.rls_script.specs.rls_guard.specs.declared.reply.Reply.TheVariants as p
use Rattle.rls_engine.specs.rls_access.specs.{Statements.role_after, Transactions.Begin}
use Rattle.rls_script.specs.{Requests.Requests, Requests.AsksOf, Requests.as_request, declared.answer.Answer.Answer, declared.requesting.Ask.Ask, declared.requesting.Request.Request, declared.requesting.Status.Status}
use Rattle.rls_script.specs.declared.answer.Answer.TheVariants as a
use Rattle.rls_script.specs.declared.requesting.Ask.TheVariants as ask
use Rattle.rls_script.specs.declared.requesting.Request.TheVariants as q
use Rattle.rls_script.specs.declared.requesting.Status.TheVariants as st
use Rattle.rls_session.specs.{Parts.Part, Parts.Block, Parts.Session, Parts.Shown, Parts.Notes, Parts.noted, Parts.with_ended}

-- how a session stands: its block is over, or open, or it has none
abbrev pub status_in : Bool → Option Block → Status
status_in true block = st.Over
status_in false None = st.Outside
status_in false (Some block) = st.Open

-- how a label stands
abbrev pub status_of : Option Session → Status
status_of None = st.Nobody
status_of (Some session) = status_in session.over session.block

-- what a statement's effect is answered
abbrev pub answer_to : Tag → Effect → Answer
answer_to tag (e.Done reply decisions changes sets) = a.Replied tag reply
answer_to tag (e.Refused refusal decisions) = a.Refused refusal

-- the number of a transaction that began, and how many had committed then
pub record Ticket : Type 0 where
  pub txn : ℕ
  pub snap : ℕ

-- what came of a begin, a post and a commit, where a command requests one: a ticket, what the statement comes to, the number of the
-- commit. A post or a commit that is refused has ended its transaction.
pub record Came : Type 0 where
  pub begin : Result Ticket Refusal
  pub post : Result Effect Refusal
  pub commit : Result ℕ Refusal

-- 40001
abbrev pub IsConflict : Refusal → Type 0
IsConflict (Serial why) = Unit {0}
IsConflict _ = ⊥

-- for its login, which is named, or a limit
abbrev pub RefusesLogin : Option (List ℕ) → Refusal → Type 0
RefusesLogin login (NoLogin who) = who ≡ login
RefusesLogin login (Limit limit.Transactions) = Unit {0}
RefusesLogin login (Limit limit.Numbers) = Unit {0}
RefusesLogin login _ = ⊥

-- the login of a transaction that a request begins: who connects, or whose session it is
abbrev pub login_of : Option Session → Request → Option (List ℕ)
login_of session (q.Connect role) = Some role
login_of session request = option_map (λ it. it.login) session

-- only so can they be refused
pub record CanCome (login : Option (List ℕ)) (came : Came) : Type 0 where
  pub begin : IfErr came.begin (RefusesLogin login)
  pub post : IfErr came.post IsConflict
  pub commit : IfErr came.commit IsConflict

-- what a command gives; and of the transaction that it ended without a commit, if it did
pub record Given : Type 0 where
  pub answer : Answer
  pub session : Option Session
  pub shown : List Shown
  pub ended : Option Part

-- this answer, with this session; no transaction is shown as committed, and none ends
abbrev pub says : Answer → Session → Given
says answer session = record { answer = answer; session = Some session; shown = []; ended = None }

-- the same where a transaction ends without a commit
abbrev pub ends : Answer → Session → Option Part → Given
ends answer session part = record { answer = answer; session = Some session; shown = []; ended = part }

-- the open block's
abbrev pub open_part : Option Session → Option Part
open_part None = None
open_part (Some session) = option_map (λ block. block.part) session.block

-- outside a block, where the next transaction begins as this role
abbrev pub outside : (login role : List ℕ) → Session
outside login role = record { login = login; role = role; block = None; over = false }

-- in an open block
abbrev pub inside : (login role : List ℕ) → Block → Session
inside login role block = record { login = login; role = role; block = Some block; over = false }

-- a block is over
abbrev pub over_in : (login role : List ℕ) → Session
over_in login role = record { login = login; role = role; block = None; over = true }

-- what a transaction of the session begins with
abbrev pub begin_of : Session → Mode → Begin
begin_of session mode = record { login = session.login; role = session.role; mode = mode }

-- a transaction that began
abbrev pub started : (newest : ℕ) → Begin → Ticket → Block
started newest begin ticket = record { heard = newest; role = begin.role; part = record { txn = ticket.txn; begin = begin; snap = ticket.snap; statements = []; effects = [] } }

-- with a statement, and what it comes to, behind the others; SET ROLE holds at once
abbrev pub with_statement : Block → Statement → Effect → Block
with_statement block asked effect = record {
  heard = block.heard;
  role = role_after block.role effect;
  part = record { txn = block.part.txn; begin = block.part.begin; snap = block.part.snap; statements = block.part.statements ++ asked ∷ []; effects = block.part.effects ++ effect ∷ [] };
}

-- a block that was committed under the number
abbrev pub shows : Block → ℕ → Shown
shows block number = record { heard = block.heard; commit = number; part = block.part }

-- a connect, which ends an open block; refused, nobody is connected
abbrev pub connected : Option Part → List ℕ → Result Ticket Refusal → Given
connected ended role (Ok ticket) = ends (a.Replied Tag.Connect p.Done) (outside role role) ended
connected ended role (Err refusal) = record { answer = a.Refused refusal; session = None; shown = []; ended = ended }

-- BEGIN; refused, the session stays as it is
abbrev pub begun : (newest : ℕ) → Session → Mode → Result Ticket Refusal → Given
begun newest session mode (Ok ticket) = says (a.Replied Tag.Begin p.Done) (inside session.login session.role (started newest (begin_of session mode) ticket))
begun newest session mode (Err refusal) = says (a.Refused refusal) session

-- a statement in a block, which goes on behind a statement that can't be done, and is over behind 40001
abbrev pub posted : Session → Block → Statement → Result Effect Refusal → Given
posted session block asked (Ok effect) = says (answer_to (tag_of asked) effect) (inside session.login session.role (with_statement block asked effect))
posted session block asked (Err refusal) = ends (a.Refused refusal) (over_in session.login session.role) (Some block.part)

-- COMMIT, from which on the block's role lasts; refused, the session is outside, in the role that it had before the block
abbrev pub committed : Session → Block → Result ℕ Refusal → Given
committed session block (Ok number) = record { answer = a.Replied Tag.Commit p.Done; session = Some (outside session.login block.role); shown = shows block number ∷ []; ended = None }
committed session block (Err refusal) = ends (a.Refused refusal) (outside session.login session.role) (Some block.part)

-- ROLLBACK, and COMMIT of a block that is over: the role that the block set is gone with it
abbrev pub rolled_back : Session → Given
rolled_back session = ends (a.Replied Tag.Rollback p.Done) (outside session.login session.role) (open_part (Some session))

-- a statement outside a block: a transaction that may write, answered once it is committed, also where the statement can't be done;
-- 40001 is answered, the transaction ends without the statement, and this isn't run again
abbrev pub ran : (newest : ℕ) → Session → Statement → Result Ticket Refusal → Result Effect Refusal → Result ℕ Refusal → Given
ran newest session asked (Err refusal) post commit = says (a.Refused refusal) session
ran newest session asked (Ok ticket) (Err refusal) commit = ends (a.Refused refusal) session (Some (started newest (begin_of session m.Write) ticket).part)
ran newest session asked (Ok ticket) (Ok effect) (Err refusal) = ends (a.Refused refusal) session (Some (started newest (begin_of session m.Write) ticket).part)
ran newest session asked (Ok ticket) (Ok effect) (Ok number) = record {
  answer = answer_to (tag_of asked) effect;
  session = Some (outside session.login (role_after session.role effect));
  shown = shows (with_statement (started newest (begin_of session m.Write) ticket) asked effect) number ∷ [];
  ended = None;
}

-- in the session's open block; without one there is none in progress
abbrev pub in_block : Session → Option Block → (Block → Given) → Given
in_block session (Some block) gives = gives block
in_block session None gives = says (a.Refused (Refusal.TxnState TxnState.NoneInProgress)) session

-- what is asked of a session
abbrev pub given_in : (newest : ℕ) → Session → Ask → Came → Given
given_in newest session (ask.Begin mode) came = begun newest session mode came.begin
given_in newest session (ask.Post statement) came = in_block session session.block (λ block. posted session block statement came.post)
given_in newest session (ask.Run statement) came = ran newest session statement came.begin came.post came.commit
given_in newest session ask.Commit came = in_block session session.block (λ block. committed session block came.commit)
given_in newest session ask.Rollback came = rolled_back session

-- the same, in the label's session, if it has one
abbrev pub given_as : (newest : ℕ) → Option Session → Ask → Came → Given
given_as newest (Some session) asked came = given_in newest session asked came
given_as newest None asked came = record { answer = a.Refused (Refusal.NoLogin None); session = None; shown = []; ended = None }

-- a command by what it requests
abbrev pub given : (newest : ℕ) → Option Session → Request → Came → Given
given newest session (q.Nothing refusal) came = record { answer = a.Refused refusal; session = session; shown = []; ended = None }
given newest session (q.Connect role) came = connected (open_part session) role came.begin
given newest session (q.Ask asked) came = given_as newest session asked came

-- what it shows is noted
abbrev pub noted_given : Notes → Given → Notes
noted_given notes it = with_ended (noted notes it.shown) it.ended

-- what came of a request, and what it is answered, with what was shown and the label's session then
pub record Carries (old : Notes) (session : Option Session) (request : Request) (answer : Answer) (new : Notes) (session_then : Option Session) : Type 0 where
  pub came : Came
  pub can : CanCome (login_of session request) came
  pub answered : answer ≡ (given old.newest session request came).answer
  pub becomes : session_then ≡ (given old.newest session request came).session
  pub notes : new ≡ noted_given old (given old.newest session request came)

-- a command under its label, a `\connect` or another
pub record Executes (old : Notes) (session : Option Session) (command : List ℕ) (answer : Answer) (new : Notes) (session_then : Option Session) : Type 0 where
  pub request : Request
  pub requests : Requests (status_of session) command request
  pub carries : Carries old session request answer new session_then

-- a command of a session, which is no `\connect`
pub record ExecutesIn (old : Notes) (session : Session) (command : List ℕ) (answer : Answer) (new : Notes) (session_then : Session) : Type 0 where
  pub given : Result Ask Refusal
  pub asks : AsksOf (status_of (Some session)) command given
  pub carries : Carries old (Some session) (as_request given) answer new (Some session_then)

-- ---- whole blocks

-- the block behind statements, each with what it comes to
abbrev pub behind : Block → List (Statement × Effect) → Block
behind block [] = block
behind block (post ∷ more) = behind (with_statement block post.0 post.1) more

-- the role that they leave
abbrev pub role_behind : List ℕ → List (Statement × Effect) → List ℕ
role_behind role [] = role
role_behind role (post ∷ more) = role_behind (role_after role post.1) more
