use Rattle.std.proofs.Common.{◌≡◌, length, map}
use Rattle.rls_text.specs.Heads.{sees, Exact}
use Rattle.rls_text.specs.declared.token.Token.TheVariants.{Word}
use Rattle.rls_text.proofs.reading.sees_one_of.Given as goal

-- what is left is seen as the whole is
abbrev pub invariant-loop-words : goal.invariant-loop-words
invariant-loop-words l = sees (map (λ w. Exact (Word w.now)) l.initial.words) l.tokens ≡ sees (map (λ w. Exact (Word w.now)) l.words) l.tokens

abbrev pub decreases-loop-words : goal.decreases-loop-words
decreases-loop-words l = length l.words
