use Rattle.std.proofs.Common.{take}
use Rattle.std.specs.List.{All}
use Rattle.rls_audit_lines.specs.Reading.{HasPolicies}
use Rattle.rls_audit_lines.proofs.reading.policies_parse.Given as goal

-- those before are such
abbrev pub invariant-loop-changed : goal.invariant-loop-changed
invariant-loop-changed l = All HasPolicies (take l.changed-index l.changes)
