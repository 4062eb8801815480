-- What is asked for was spelled by the command.
use Rattle.std.specs.Prelude.{◌≡◌, List, Result, Ok, Err, IfOk}
use Rattle.std.proofs.Common.{sym, subst}
use Rattle.rls_value.specs.declared.refusal.Refusal.{Refusal}
use Rattle.rls_statement.specs.{declared.command.Command.Command, declared.statement.Statement.Statement}
use Rattle.rls_statement.specs.declared.command.Command.TheVariants as c
use Rattle.rls_text.specs.{ParseResults.limited, Commands.IfRun, Commands.IsCommandSpelled, Commands.run, Commands.run_is_spelled, declared.token.Token.Token}
use Rattle.rls_script.specs.{Requests.asked, Spelled.AsksTexts, Spelled.IfAsked, Spelled.IfRequested, Spelled.IsSpellable, declared.requesting.Ask.Ask, declared.requesting.Request.Request, declared.requesting.Status.Status}
use Rattle.rls_script.specs.declared.requesting.Ask.TheVariants as ask
use Rattle.rls_script.specs.declared.requesting.Request.TheVariants as q
use Rattle.rls_script.specs.declared.requesting.Status.TheVariants as st

run_within : (r : Result Statement Refusal) (x : Statement) → run r ≡ Ok (c.Run x) → r ≡ Ok x
run_within (Ok y) x is = cc is
run_within (Err refusal) x is = cc is

-- a statement that is run
pub run_spelled : (tokens : List Token) (command : Command) → IsCommandSpelled tokens command → IfRun command IsSpellable
run_spelled tokens (c.Run x) is = (tokens, record { spelled = run_is_spelled tokens x is.spelled; words = is.words; within = run_within (limited x) x is.within })
run_spelled tokens _ is = tt

outside_spelled : (command : Command) → IfRun command IsSpellable → IfOk (asked st.Outside (Ok command)) (IfAsked IsSpellable)
outside_spelled (c.Run x) is = is
outside_spelled (c.Begin mode) is = tt
outside_spelled c.Commit is = tt
outside_spelled c.Rollback is = tt

inside_spelled : (command : Command) → IfRun command IsSpellable → IfOk (asked st.Open (Ok command)) (IfAsked IsSpellable)
inside_spelled (c.Run x) is = is
inside_spelled (c.Begin mode) is = tt
inside_spelled c.Commit is = tt
inside_spelled c.Rollback is = tt

over_spelled : (read : Result Command Refusal) → IfOk (asked st.Over read) (IfAsked IsSpellable)
over_spelled (Ok (c.Run x)) = tt
over_spelled (Ok (c.Begin mode)) = tt
over_spelled (Ok c.Commit) = tt
over_spelled (Ok c.Rollback) = tt
over_spelled (Err refusal) = tt

asks_spelled : (status : Status) (read : Result Command Refusal) → IfOk read (λ command. IfRun command IsSpellable) → IfOk (asked status read) (IfAsked IsSpellable)
asks_spelled st.Nobody read is = tt
asks_spelled st.Outside (Ok command) is = outside_spelled command is
asks_spelled st.Outside (Err refusal) is = tt
asks_spelled st.Open (Ok command) is = inside_spelled command is
asks_spelled st.Open (Err refusal) is = tt
asks_spelled st.Over read is = over_spelled read

-- what a session that stands so is asked for
pub asked_spelled : (status : Status) (read : Result Command Refusal) (given : Result Ask Refusal) → given ≡ asked status read → IfOk read (λ command. IfRun command IsSpellable) → IfOk given (IfAsked IsSpellable)
asked_spelled status read given same is = subst (λ (r : Result Ask Refusal). IfOk r (IfAsked IsSpellable)) (sym same) (asks_spelled status read is)

module _ (asks : Statement → Type 0) (texts : AsksTexts asks) where
  -- so it may be asked for
  pub may_ask : (it : Ask) → IfAsked IsSpellable it → IfAsked asks it
  may_ask (ask.Post statement) is = texts statement is
  may_ask (ask.Run statement) is = texts statement is
  may_ask _ is = tt

  pub may_request : (it : Request) → IfRequested IsSpellable it → IfRequested asks it
  may_request (q.Ask it) is = may_ask it is
  may_request _ is = tt
