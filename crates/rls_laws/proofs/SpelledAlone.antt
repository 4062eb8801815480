-- What is printed for a statement or a command spells it alone.
use Rattle.std.specs.Prelude.{◌≡◌, List, Some}
use Rattle.rls_statement.specs.declared.command.Command.{Command}
use Rattle.rls_statement.specs.declared.statement.Statement.{Statement}
use Rattle.rls_audit.specs.rls_audit_lines.specs.rls_text.specs.{Commands.SpellsCommand, Grammar.Spells, declared.token.Token.Token}
use Rattle.rls_audit.specs.rls_audit_lines.specs.rls_text.proofs.{Laws.one_statement, CommandLaws.one_command}
use Rattle.rls_audit.specs.rls_printing.specs.{OutputTokens.tokens_of, StatementForms.statement, CommandForms.command}
use Rattle.rls_audit.specs.rls_printing.proofs.{Printed.tokens_spell, PrintedCommands.words_spell}

-- A statement that some text spells is spelled by its printed words,
pub statement_spelled : (x : Statement) (original tokens : List Token) → Spells original x → tokens_of (statement x) ≡ Some tokens → Spells tokens x
statement_spelled x original tokens h e = tokens_spell x original tokens h e

-- which spell no other.
pub statement_alone : (x y : Statement) (original tokens : List Token) → Spells original x → tokens_of (statement x) ≡ Some tokens → Spells tokens y → y ≡ x
statement_alone x y original tokens h e k = one_statement tokens y x k (tokens_spell x original tokens h e)

-- A command that some text spells is spelled by its printed words,
pub command_spelled : (x : Command) (original tokens : List Token) → SpellsCommand original x → tokens_of (command x) ≡ Some tokens → SpellsCommand tokens x
command_spelled x original tokens h e = words_spell x original tokens h e

-- which spell no other.
pub command_alone : (x y : Command) (original tokens : List Token) → SpellsCommand original x → tokens_of (command x) ≡ Some tokens → SpellsCommand tokens y → y ≡ x
command_alone x y original tokens h e k = one_command tokens y x k (words_spell x original tokens h e)
