use Rattle.std.proofs.Common.{◌≡◌, drop}
use Rattle.rls_explain.specs.Outcomes.{denial_of}
use Rattle.rls_explain.proofs.fates.denial_among.Given as goal

-- what is left leads to the whole
abbrev pub invariant-loop-one : goal.invariant-loop-one
invariant-loop-one l = denial_of (drop l.one-index l.decided) ≡ denial_of l.decided
