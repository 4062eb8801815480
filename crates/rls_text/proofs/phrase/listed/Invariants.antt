use Rattle.std.proofs.Common.{◌≡◌, ◌-◌}
use Rattle.rls_text.specs.Parses.{read_listed}
use Rattle.rls_text.proofs.Lists.{goes_on}
use Rattle.rls_text.proofs.phrase.listed.Given as goal

-- what was read stands before what is read next
abbrev pub invariant-loop-turn : goal.invariant-loop-turn
invariant-loop-turn g l = read_listed g.P.Phrase.reader l.tokens ≡ goes_on g.P.Phrase.reader l.all (l._turn-end - l._turn) l.rest
