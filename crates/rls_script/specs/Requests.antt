-- What a command requests of its label's session (PostgreSQL manual, 3.4, "Transactions"; there BEGIN in a block, and COMMIT or
-- ROLLBACK outside one, are warnings).
use Rattle.std.specs.Prelude.{◌≡◌, ℕ, nat_lt, cond, Bool, true, false, List, length, None, Result, Ok, Err}
use Rattle.rls_value.specs.{declared.refusal.Refusal.Refusal, declared.refusal.Limit.Limit, declared.refusal.TxnState.TxnState}
use Rattle.rls_text.specs.{Commands.AnswersCommand, Words.words_of}
use Rattle.rls_statement.specs.{declared.command.AccessMode.AccessMode, declared.command.Command.Command}
use Rattle.rls_statement.specs.declared.command.AccessMode.TheVariants as access
use Rattle.rls_statement.specs.declared.command.Command.TheVariants as c
use Rattle.rls_guard.specs.declared.context.Mode.{Mode}
use Rattle.rls_guard.specs.declared.context.Mode.TheVariants as m
use Rattle.rls_script.specs.{Connects.IsConnect, Connects.role_named, declared.requesting.Ask.Ask, declared.requesting.Request.Request, declared.requesting.Status.Status}
use Rattle.rls_script.specs.declared.requesting.Ask.TheVariants as ask
use Rattle.rls_script.specs.declared.requesting.Request.TheVariants as q
use Rattle.rls_script.specs.declared.requesting.Status.TheVariants as st

-- a command of over 65,536 bytes is refused before it is read
abbrev pub within_line : {A : Type 0} → List ℕ → Result A Refusal → Result A Refusal
within_line command read = cond (nat_lt 65536 (length command)) (Err (Refusal.Limit Limit.Line)) read

-- READ ONLY only reads
abbrev pub mode_of : AccessMode → Mode
mode_of access.ReadWrite = m.Write
mode_of access.ReadOnly = m.Read

-- what a command is read as; one that is too long isn't read
abbrev pub IsReadAs : (is_long : Bool) → List ℕ → Result Command Refusal → Type 0
IsReadAs true command read = read ≡ Err (Refusal.Limit Limit.Line)
IsReadAs false command read = AnswersCommand (words_of command) read

-- outside a block BEGIN begins one, and a statement is a transaction of its own
abbrev pub asked_outside : Command → Result Ask Refusal
asked_outside (c.Begin mode) = Ok (ask.Begin (mode_of mode))
asked_outside c.Commit = Err (Refusal.TxnState TxnState.NoneInProgress)
asked_outside c.Rollback = Err (Refusal.TxnState TxnState.NoneInProgress)
asked_outside (c.Run statement) = Ok (ask.Run statement)

-- in an open block all goes to its transaction, and BEGIN is refused
abbrev pub asked_inside : Command → Result Ask Refusal
asked_inside (c.Begin mode) = Err (Refusal.TxnState TxnState.AlreadyInProgress)
asked_inside c.Commit = Ok ask.Commit
asked_inside c.Rollback = Ok ask.Rollback
asked_inside (c.Run statement) = Ok (ask.Post statement)

-- in a block that is over COMMIT and ROLLBACK end it; all else is refused as such, whether it could be read or not
abbrev pub asked_over : Result Command Refusal → Result Ask Refusal
asked_over (Ok c.Commit) = Ok ask.Rollback
asked_over (Ok c.Rollback) = Ok ask.Rollback
asked_over _ = Err (Refusal.TxnState TxnState.Over)

-- what isn't read is refused at once
abbrev pub or_refused : (Command → Result Ask Refusal) → Result Command Refusal → Result Ask Refusal
or_refused asks (Ok command) = asks command
or_refused asks (Err refusal) = Err refusal

-- what is asked of a session that stands so; where nobody is connected no command but a connect is done
abbrev pub asked : Status → Result Command Refusal → Result Ask Refusal
asked st.Nobody read = Err (Refusal.NoLogin None)
asked st.Outside read = or_refused asked_outside read
asked st.Open read = or_refused asked_inside read
asked st.Over read = asked_over read

-- a command of a session, or why it is refused at once
pub record AsksOf (status : Status) (command : List ℕ) (given : Result Ask Refusal) : Type 0 where
  pub read : Result Command Refusal
  pub reads : IsReadAs (nat_lt 65536 (length command)) command read
  pub asks : given ≡ asked status read

-- the same, whoever asks: where nobody is connected it isn't even read
abbrev pub AsksAs : Status → List ℕ → Result Ask Refusal → Type 0
AsksAs st.Nobody command given = given ≡ Err (Refusal.NoLogin None)
AsksAs st.Outside command given = AsksOf st.Outside command given
AsksAs st.Open command given = AsksOf st.Open command given
AsksAs st.Over command given = AsksOf st.Over command given

-- what that requests
abbrev pub as_request : Result Ask Refusal → Request
as_request (Ok it) = q.Ask it
as_request (Err refusal) = q.Nothing refusal

-- some command of a session requests this
pub record RequestsAs (status : Status) (command : List ℕ) (request : Request) : Type 0 where
  pub given : Result Ask Refusal
  pub asks : AsksAs status command given
  pub requests : request ≡ as_request given

-- a connect names its role; one that can't be read ends nothing
abbrev pub requested_connect : Result (List ℕ) Refusal → Request
requested_connect (Ok role) = q.Connect role
requested_connect (Err refusal) = q.Nothing refusal

-- a command is a `\connect`, or else what the grammar calls a command
pub record Requests (status : Status) (command : List ℕ) (request : Request) : Type 0 where
  pub connect : (behind : List ℕ) → IsConnect command behind → request ≡ requested_connect (within_line command (role_named behind))
  pub other : ((behind : List ℕ) → ¬ IsConnect command behind) → RequestsAs status command request

-- it is refused at once
abbrev pub IsAtOnce : Request → Type 0
IsAtOnce (q.Nothing refusal) = Unit {0}
IsAtOnce _ = ⊥
