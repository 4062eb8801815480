use Rattle.std.proofs.Common.{◌≡◌, ◌-◌, length, [], ◌∷◌}
use Rattle.rls_text.specs.Parses.{read_many}
use Rattle.rls_text.specs.Gives.{folded}
use Rattle.rls_text.specs.declared.token.Symbol.TheVariants as s
use Rattle.rls_text.specs.Heads.{Sign}
use Rattle.rls_text.specs.Rule.{with_comma}
use Rattle.rls_text.specs.Elements.{with_element}
use Rattle.rls_text.specs.Grammar as g
use Rattle.rls_text.proofs.tables.more_elements.Given as goal

-- what is read next is put into what was read
abbrev pub invariant-loop-turn : goal.invariant-loop-turn
invariant-loop-turn l = folded with_element l.fn.first (read_many (Sign s.Comma ∷ []) (with_comma g.table_element).parses.read (length l.tokens) l.tokens) ≡ folded with_element l.all (read_many (Sign s.Comma ∷ []) (with_comma g.table_element).parses.read (l._turn-end - l._turn) l.rest)
