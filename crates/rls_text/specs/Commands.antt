-- Commands: which lists of tokens spell which, and what a text is answered with that holds one.
use Rattle.std.specs.Prelude.{◌≡◌, Bool, true, false, List, Option, Some, None, Result, Ok, Err, refl}
use Rattle.std.proofs.Common.{inl, inr, subst}
use Rattle.rls_value.specs.{declared.refusal.Limit.Limit, declared.refusal.Refusal.Refusal}
use Rattle.rls_value.specs.declared.refusal.Refusal.TheVariants as refusal
use Rattle.rls_statement.specs.{declared.command.Command.Command, declared.statement.Statement.Statement}
use Rattle.rls_statement.specs.declared.command.Command.TheVariants as c
use Rattle.rls_text.specs.{declared.token.Token.Token, Heads.sees, Lang.Either, Lang.Mapped, Grammar.Spells, Printing.IsWritten, Transactions.transaction, Transactions.transaction_heads, Transactions.bare_transaction, Transactions.begin, Transactions.commit, Transactions.rollback, ParseResults.first_limit, ParseResults.limited, Gives.finished, Gives.whole_of, Gives.answered, Gives.unless_over}

-- The tokens spell the command: what begins or ends a block, or a statement.
abbrev pub SpellsCommand : List Token → Command → Type 0
SpellsCommand = Either transaction.spells (Mapped c.Run Spells)

-- The tokens are written for the command.
abbrev pub IsCommandWritten : List Token → Command → Type 0
IsCommandWritten tokens (c.Run x) = IsWritten tokens x
IsCommandWritten tokens x = transaction.prints.writes x ≡ Some tokens

-- it runs a statement
abbrev pub runs : Command → Bool
runs (c.Run x) = true
runs _ = false

-- what begins or ends a block runs none,
pub runs_none : (ts : List Token) (x : Command) → transaction.spells ts x → runs x ≡ false
unfolding transaction bare_transaction begin commit rollback
runs_none ts x h = rw (h.value) (elim h.spelled.one [ inl y ↦ rw (y.value) refl | inr y ↦ elim y [ inl z ↦ rw (z.value) refl | inr z ↦ rw (z.value) refl ] ])

-- so that a statement that is run is spelled as one
pub run_is_spelled : (ts : List Token) (x : Statement) → SpellsCommand ts (c.Run x) → Spells ts x
run_is_spelled ts x h = elim h [
  | inl y ↦ (let none : ⊥ = cc (runs_none ts (c.Run x) y) in absurd none)
  | inr y ↦ (let e : y.source ≡ x = cc (y.value) in subst (λ z. Spells ts z) e y.spelled)
]

-- this holds of the statement, where one is run
abbrev pub IfRun : Command → (Statement → Type 0) → Type 0
IfRun (c.Run x) p = p x
IfRun _ p = Unit {0}

-- a statement that is run
abbrev pub run : Result Statement Refusal → Result Command Refusal
run (Ok x) = Ok (c.Run x)
run (Err refusal) = Err refusal

-- a statement has the limits that it has alone; what begins or ends a block has none
abbrev pub limited_command : Command → Result Command Refusal
limited_command (c.Run x) = run (limited x)
limited_command x = Ok x

-- The tokens are answered with this: the limits on words come first, then what isn't in the grammar, then the limits
-- on the statement.
pub record AnswersCommand (tokens : List Token) (r : Result Command Refusal) : Type 0 where
  pub over : (limit : Limit) → first_limit tokens ≡ Some limit → r ≡ Err (refusal.Limit limit)
  pub spelled : (x : Command) → first_limit tokens ≡ None → SpellsCommand tokens x → r ≡ limited_command x
  pub unspelled : first_limit tokens ≡ None → ((x : Command) → SpellsCommand tokens x → ⊥) → r ≡ Err refusal.Syntax

-- The tokens spell the command, and are within the limits.
pub record IsCommandSpelled (tokens : List Token) (x : Command) : Type 0 where
  pub spelled : SpellsCommand tokens x
  pub words : first_limit tokens ≡ None
  pub within : limited_command x ≡ Ok x

-- ---- the same by readers

-- what begins or ends a block, and takes up all of the tokens
unfoldable pub whole_transaction : List Token → Option Command
whole_transaction tokens = finished (transaction.parses.read tokens)

-- what such tokens are answered with
abbrev pub answered_command : Option Command → Result Command Refusal
answered_command None = Err refusal.Syntax
answered_command (Some x) = Ok x

-- the first word tells what begins or ends a block from a statement
abbrev pub command_by : Bool → List Token → Result Command Refusal
command_by true tokens = answered_command (whole_transaction tokens)
command_by false tokens = run (answered (whole_of tokens))

-- what the tokens are answered with
abbrev pub command_of : List Token → Result Command Refusal
command_of tokens = unless_over (first_limit tokens) (command_by (sees transaction_heads tokens) tokens)
