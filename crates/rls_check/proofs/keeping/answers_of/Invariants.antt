use Rattle.std.specs.List.{All, AllZip}
use Rattle.rls_audit.specs.rls_audit_lines.specs.Reading.{HasStatement}
use Rattle.rls_check.specs.Keeping.{KeepsAnswer}
use Rattle.rls_check.proofs.keeping.answers_of.Given as goal

-- those so far are kept, and those that are left are statements
abbrev pub invariant-loop-answered : goal.invariant-loop-answered
invariant-loop-answered l = record {
  kept : AllZip KeepsAnswer l.yielded l.answers;
  are : All HasStatement l.answered-iterator.rest.items;
}
