use Rattle.std.proofs.Common.{◌≡◌, ◌++◌, drop, map}
use Rattle.rls_explain.specs.Explaining.{said_as}
use Rattle.rls_explain.proofs.judging.said_by_each.Given as goal

-- what was said so far, and what those say that are left, is all
abbrev pub invariant-loop-judgement : goal.invariant-loop-judgement
invariant-loop-judgement l = l.said.items ++ map said_as (drop l.judgement-index l.judgements) ≡ map said_as l.judgements
