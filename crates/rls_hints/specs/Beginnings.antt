-- What a line stops at: words that no command begins with.
use Rattle.std.specs.Prelude.{◌≡◌, ◌+◌, ◌<◌, ℕ, List, ◌++◌, length, take}
use Rattle.rls_statement.specs.declared.command.Command.{Command}
use Rattle.rls_text.specs.declared.token.Token.{Token as TextToken}
use Rattle.rls_text.specs.declared.token.Token.TheVariants as w
use Rattle.rls_text.specs.declared.token.Symbol.{Symbol}
use Rattle.rls_text.specs.declared.token.Symbol.TheVariants as s
use Rattle.rls_text.specs.Commands.{SpellsCommand}
use Rattle.rls_hints.specs.declared.token.Token.{Token}
use Rattle.rls_hints.specs.declared.token.Token.TheVariants as t
use Rattle.rls_hints.specs.declared.token.Mark.{Mark}
use Rattle.rls_hints.specs.declared.token.Mark.TheVariants as m

-- a sign
abbrev pub mark_of : Symbol → Mark
mark_of s.LParen = m.Open
mark_of s.RParen = m.Close
mark_of s.Comma = m.Comma
mark_of s.Dot = m.Dot
mark_of s.Semicolon = m.Semicolon
mark_of s.Star = m.Star
mark_of s.Plus = m.Plus
mark_of s.Minus = m.Minus
mark_of s.Equal = m.Equal
mark_of s.NotEqual = m.NotEqual
mark_of s.Less = m.Less
mark_of s.LessOrEqual = m.LessOrEqual
mark_of s.Greater = m.Greater
mark_of s.GreaterOrEqual = m.GreaterOrEqual

-- a word of the grammar, as a hint sees it
abbrev pub seen : TextToken → Token
seen (w.Word word) = t.Word word
seen (w.Number number) = t.Number
seen (w.Text content) = t.Text
seen (w.Symbol symbol) = t.Sign (mark_of symbol)
seen w.Bad = t.Bad

-- no command begins with the words up to and with this one
abbrev pub IsNoBeginning : List TextToken → ℕ → Type 0
IsNoBeginning words place = (rest : List TextToken) (command : Command) → SpellsCommand (take (place + 1) words ++ rest) command → ⊥

-- The word at the place is rightly blamed: no command begins so; or, where it is the end, the words are none.
pub record IsBlamed (words : List TextToken) (place : ℕ) : Type 0 where
  pub inside : place < length words → IsNoBeginning words place
  pub end : place ≡ length words → (command : Command) → SpellsCommand words command → ⊥
