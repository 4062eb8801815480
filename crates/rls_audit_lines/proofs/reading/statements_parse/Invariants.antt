use Rattle.std.proofs.Common.{take}
use Rattle.std.specs.List.{All}
use Rattle.rls_audit_lines.specs.Reading.{HasStatement}
use Rattle.rls_audit_lines.proofs.reading.statements_parse.Given as goal

-- those before are such
abbrev pub invariant-loop-answered : goal.invariant-loop-answered
invariant-loop-answered l = All HasStatement (take l.answered-index l.statements)
