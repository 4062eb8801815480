use Rattle.std.proofs.Common.{◌≡◌, ◌-◌}
use Rattle.rls_text.specs.Trees as trees
use Rattle.rls_text.proofs.expression.negated.Given as goal

-- what is left to negate leads to the whole
abbrev pub invariant-loop-turn : goal.invariant-loop-turn
invariant-loop-turn l = trees.negated (l.count - l._turn) l.operand ≡ trees.negated l.count l.fn.operand
