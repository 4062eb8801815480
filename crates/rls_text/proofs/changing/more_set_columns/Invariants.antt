use Rattle.std.proofs.Common.{◌≡◌, ◌-◌, length, [], ◌∷◌}
use Rattle.rls_text.specs.Parses.{read_many}
use Rattle.rls_text.specs.Gives.{folded}
use Rattle.rls_text.specs.declared.token.Symbol.TheVariants as s
use Rattle.rls_text.specs.Heads.{Sign}
use Rattle.rls_text.specs.Cut as cut
use Rattle.rls_text.specs.Trees.{with_set_column}
use Rattle.rls_text.specs.Grammar as g
use Rattle.rls_text.proofs.changing.more_set_columns.Given as goal

-- what is read next is put into what was read
abbrev pub invariant-loop-turn : goal.invariant-loop-turn
invariant-loop-turn l = folded with_set_column l.fn.first (read_many (Sign s.Comma ∷ []) (cut.with_comma (g.set_column (g.expr l.depth))).read (length l.tokens) l.tokens) ≡ folded with_set_column l.all (read_many (Sign s.Comma ∷ []) (cut.with_comma (g.set_column (g.expr l.depth))).read (l._turn-end - l._turn) l.rest)
