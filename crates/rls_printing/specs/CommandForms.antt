-- The words of which a command is printed, and what a printed command is read as.
use Rattle.std.specs.Prelude.{◌≡◌, List, Result, Ok, Err}
use Rattle.rls_value.specs.declared.refusal.Refusal.{Refusal}
use Rattle.rls_value.specs.declared.refusal.Refusal.TheVariants as refusal
use Rattle.rls_statement.specs.declared.command.Command.{Command}
use Rattle.rls_statement.specs.declared.command.TransactionCommand.TheVariants as tc
use Rattle.rls_statement.specs.declared.command.Command.TheVariants as c
use Rattle.rls_printing.specs.OutputTokens.{OutputToken}
use Rattle.rls_printing.specs.StatementForms as form

-- what begins or ends a block, or a statement
abbrev pub command : Command → List OutputToken
command (c.Begin mode) = form.transaction (tc.Begin mode)
command c.Commit = form.transaction tc.Commit
command c.Rollback = form.transaction tc.Rollback
command (c.Run x) = form.statement x

-- the answer is the command, or a limit that its statement passes
abbrev pub IsCommandReadAs : Command → Result Command Refusal → Type 0
IsCommandReadAs x (Ok y) = y ≡ x
IsCommandReadAs x (Err (refusal.Limit limit)) = Unit {0}
IsCommandReadAs x (Err _) = ⊥
