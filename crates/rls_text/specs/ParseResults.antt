-- What a text is answered with: its statement, or a refusal.
use Rattle.std.specs.Prelude.{◌≡◌, ℕ, ◌+◌, ◌-◌, nat_lt, nat_le, if◌then◌else◌, List, [], ◌∷◌, length, Option, Some, None, Result, Ok, Err}
use Rattle.rls_value.specs.{declared.refusal.Limit.Limit, declared.refusal.Refusal.Refusal}
use Rattle.rls_value.specs.declared.refusal.Limit.TheVariants as l
use Rattle.rls_value.specs.declared.refusal.Refusal.TheVariants as refusal
use Rattle.rls_text.specs.declared.token.Symbol.TheVariants as s
use Rattle.rls_text.specs.{declared.token.Token.Token, Heights.height_of, Nested.subqueries_of, Grammar.Spells}
use Rattle.rls_text.specs.declared.token.Token.TheVariants as t
use Rattle.rls_statement.specs.declared.statement.Statement.{Statement}
use Rattle.rls_statement.specs.declared.statement.Statement.TheVariants as st

-- how many parentheses are open behind the token
abbrev pub open_behind : ℕ → Token → ℕ
open_behind unclosed (t.Symbol s.LParen) = unclosed + 1
open_behind unclosed (t.Symbol s.RParen) = unclosed - 1
open_behind unclosed _ = unclosed

-- a word of over 63 bytes, or a 257th parenthesis open at one time
abbrev pub limit_at : ℕ → Token → Option Limit
limit_at unclosed (t.Word w) = if nat_lt 63 (length w) then Some l.Name else None
limit_at unclosed (t.Symbol s.LParen) = if nat_le 256 unclosed then Some l.Parentheses else None
limit_at unclosed _ = None

-- the first that there is
abbrev pub or_next : Option Limit → Option Limit → Option Limit
or_next (Some limit) further = Some limit
or_next None further = further

-- the first limit that is passed, where so many parentheses are open
abbrev pub limit_from : ℕ → List Token → Option Limit
limit_from unclosed [] = None
limit_from unclosed (token ∷ tokens) = or_next (limit_at unclosed token) (limit_from (open_behind unclosed token) tokens)

-- from the left, where none is open
abbrev pub first_limit : List Token → Option Limit
first_limit tokens = limit_from 0 tokens

-- how many columns it defines
abbrev pub columns_of : Statement → ℕ
columns_of (st.CreateTable table) = length table.columns
columns_of _ = 0

-- over 64 columns, a height of over 64, or more than 8 subqueries one inside another are refused, in this order
abbrev pub limited : Statement → Result Statement Refusal
limited x = if nat_lt 64 (columns_of x) then Err (refusal.Limit l.Columns) else (if nat_lt 64 (height_of x) then Err (refusal.Limit l.Nesting) else (if nat_lt 8 (subqueries_of x) then Err (refusal.Limit l.Subqueries) else Ok x))

-- The tokens are answered with this: the limits on words come first, then what isn't in the grammar, then the limits
-- on the statement.
pub record IsParseResult (tokens : List Token) (r : Result Statement Refusal) : Type 0 where
  pub over : (limit : Limit) → first_limit tokens ≡ Some limit → r ≡ Err (refusal.Limit limit)
  pub spelled : (x : Statement) → first_limit tokens ≡ None → Spells tokens x → r ≡ limited x
  pub unspelled : first_limit tokens ≡ None → ((x : Statement) → Spells tokens x → ⊥) → r ≡ Err refusal.Syntax

-- The tokens spell the statement, and are within the limits.
pub record IsSpelled (tokens : List Token) (x : Statement) : Type 0 where
  pub spelled : Spells tokens x
  pub words : first_limit tokens ≡ None
  pub within : limited x ≡ Ok x
