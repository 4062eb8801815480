-- What is written for a statement.
use Rattle.std.specs.Prelude.{◌≡◌, ℕ, List, Some}
use Rattle.rls_statement.specs.declared.statement.Statement.{Statement}
use Rattle.rls_text.specs.declared.token.Token.{Token}
use Rattle.rls_text.specs.Grammar.{statement}

-- The tokens are written for the statement, at some depth of parentheses.
pub record IsWritten (tokens : List Token) (x : Statement) : Type 0 where
  pub depth : ℕ
  pub written : (statement depth).rule.prints.writes x ≡ Some tokens
