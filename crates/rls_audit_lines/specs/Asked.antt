-- Statements as audits have them: what begins or ends a block is one too, which every transaction refuses.
use Rattle.std.specs.Prelude.{◌≡◌, List}
use Rattle.rls_statement.specs.{declared.command.Command.Command, declared.statement.Statement.Statement, Commands.statement_of}
use Rattle.rls_text.specs.{Commands.IsCommandSpelled, declared.token.Token.Token}

-- the words spell a command of the grammar, within the limits, which is the statement
pub record IsAsked (words : List Token) (x : Statement) : Type 0 where
  pub command : Command
  pub spelled : IsCommandSpelled words command
  pub same : statement_of command ≡ x
