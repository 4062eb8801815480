use Rattle.std.proofs.Common.{◌≡◌, ◌≤◌, ◌-◌, [], ◌∷◌}
use Rattle.std.specs.Prelude.{codes}
use Rattle.rls_text.specs.Gives.{counted, added}
use Rattle.rls_text.specs.Parses.{read_many, read_token}
use Rattle.rls_text.specs.declared.token.Token.TheVariants.{Word}
use Rattle.rls_text.specs.Heads.{Keyword}
use Rattle.rls_text.specs.Grammar as g
use Rattle.rls_text.proofs.expression.nots.Given as goal

-- those that were counted, and those that are left, are all
abbrev pub invariant-loop-turn : goal.invariant-loop-turn
invariant-loop-turn l = (l.count ≤ l._turn) × (g.nots.parses.read l.tokens ≡ added l.count (counted (read_many (Keyword (codes "not") ∷ []) (read_token (Word (codes "not"))) (l._turn-end - l._turn) l.rest)))
