use Rattle.std.proofs.Common.{◌≡◌, drop}
use Rattle.rls_explain.specs.Outcomes.{denial_of, for_select}
use Rattle.rls_explain.proofs.fates.denial_for_select.Given as goal

-- what is left leads to the whole
abbrev pub invariant-loop-one : goal.invariant-loop-one
invariant-loop-one l = denial_of (for_select (drop l.one-index l.decided)) ≡ denial_of (for_select l.decided)
