use Rattle.std.proofs.Common.{◌≡◌, drop}
use Rattle.rls_dml.specs.Writing.{first_denial}
use Rattle.rls_dml.proofs.writing.first_denial.Given as goal

-- what is left has the first denial of the whole
abbrev pub invariant-loop-decision : goal.invariant-loop-decision
invariant-loop-decision l = first_denial l.decisions ≡ first_denial (drop l.decision-index l.decisions)
