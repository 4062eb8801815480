use Rattle.std.proofs.Common.{◌≡◌, length}
use Rattle.rls_codec.specs.Looking.{worded}
use Rattle.rls_codec.proofs.words.find_word.Given as goal

-- what is left has the word as the whole has it
abbrev pub invariant-loop-values : goal.invariant-loop-values
invariant-loop-values g l = worded g.T.Worded.word l.fn.values l.text ≡ worded g.T.Worded.word l.values l.text

abbrev pub decreases-loop-values : goal.decreases-loop-values
decreases-loop-values g l = length l.values
