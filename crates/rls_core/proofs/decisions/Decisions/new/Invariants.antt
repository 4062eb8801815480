use Rattle.std.proofs.Common.{◌≡◌, take}
use Rattle.rls_core.specs.Decided.{decisions_by, rows_of, AreSpans, AreSaid}
use Rattle.rls_core.proofs.decisions.Decisions.new.Given as goal

-- the first are kept, each with its place
abbrev pub invariant-loop-decision : goal.invariant-loop-decision
invariant-loop-decision l = record {
  kept : decisions_by l.said.items (rows_of l.spans.items) ≡ take l.decision-index l.decisions;
  places : AreSaid l.said.items (rows_of l.spans.items);
  spans : AreSpans l.spans.items;
}
