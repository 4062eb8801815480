use Rattle.std.proofs.Common.{◌≡◌, length}
use Rattle.rls_text.specs.Ahead as ahead
use Rattle.rls_text.proofs.granting.on_comes_first.Given as goal

-- what is left says what the whole says
abbrev pub invariant-loop-tokens : goal.invariant-loop-tokens
invariant-loop-tokens l = ahead.on_comes_first l.tokens ≡ ahead.on_comes_first l.initial.tokens

abbrev pub decreases-loop-tokens : goal.decreases-loop-tokens
decreases-loop-tokens l = length l.tokens
