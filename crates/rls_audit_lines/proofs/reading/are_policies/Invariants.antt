use Rattle.std.proofs.Common.{take}
use Rattle.std.specs.List.{All}
use Rattle.rls_audit_lines.specs.Reading.{IsPolicyText}
use Rattle.rls_audit_lines.proofs.reading.are_policies.Given as goal

-- those before are such
abbrev pub invariant-loop-text : goal.invariant-loop-text
invariant-loop-text l = All (IsPolicyText l.table) (take l.text-index l.texts)
