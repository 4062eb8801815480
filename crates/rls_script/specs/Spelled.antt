-- What a command asks for is spelled by some text.
use Rattle.std.specs.Prelude.{List}
use Rattle.rls_text.specs.{ParseResults.IsSpelled, declared.token.Token.Token}
use Rattle.rls_statement.specs.declared.statement.Statement.{Statement}
use Rattle.rls_script.specs.{declared.requesting.Ask.Ask, declared.requesting.Request.Request}
use Rattle.rls_script.specs.declared.requesting.Ask.TheVariants as ask
use Rattle.rls_script.specs.declared.requesting.Request.TheVariants as q

-- some text within the limits spells the statement
abbrev pub IsSpellable : Statement → Type 0
IsSpellable x = (tokens : List Token) × IsSpelled tokens x

-- each statement that some text spells may be asked so
abbrev pub AsksTexts : (Statement → Type 0) → Type 0
AsksTexts asks = (x : Statement) → IsSpellable x → asks x

-- the statement of the transaction, if there is one, is asked so
abbrev pub IfAsked : (Statement → Type 0) → Ask → Type 0
IfAsked asks (ask.Post statement) = asks statement
IfAsked asks (ask.Run statement) = asks statement
IfAsked asks _ = Unit {0}

-- the same of what is requested
abbrev pub IfRequested : (Statement → Type 0) → Request → Type 0
IfRequested asks (q.Ask it) = IfAsked asks it
IfRequested asks _ = Unit {0}
