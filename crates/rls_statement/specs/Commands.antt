-- Commands that are handed in as statements.
use Rattle.rls_statement.specs.declared.command.Command.{Command}
use Rattle.rls_statement.specs.declared.command.Command.TheVariants as c
use Rattle.rls_statement.specs.declared.command.TransactionCommand.TheVariants as tc
use Rattle.rls_statement.specs.declared.statement.Statement.{Statement}
use Rattle.rls_statement.specs.declared.statement.Statement.TheVariants as s

-- the statement that a command is: what begins or ends a block, or the one that it runs
abbrev pub statement_of : Command → Statement
statement_of (c.Begin mode) = s.Transaction (tc.Begin mode)
statement_of c.Commit = s.Transaction tc.Commit
statement_of c.Rollback = s.Transaction tc.Rollback
statement_of (c.Run x) = x
