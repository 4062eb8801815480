use Rattle.std.proofs.Common.{◌≡◌, ◌-◌, length, [], ◌∷◌}
use Rattle.rls_text.specs.Parses.{read_many}
use Rattle.rls_text.specs.Gives.{folded}
use Rattle.std.specs.Prelude.{codes}
use Rattle.rls_text.specs.Trees.{null_test_of}
use Rattle.rls_text.specs.Heads.{Keyword}
use Rattle.rls_text.specs.Grammar as g
use Rattle.rls_text.proofs.expression.null_tests.Given as goal

-- what is read next is put into what was read
abbrev pub invariant-loop-turn : goal.invariant-loop-turn
invariant-loop-turn l = folded null_test_of l.fn.tested (read_many (Keyword (codes "is") ∷ []) g.null_test.parses.read (length l.tokens) l.tokens) ≡ folded null_test_of l.tested (read_many (Keyword (codes "is") ∷ []) g.null_test.parses.read (l._turn-end - l._turn) l.rest)
