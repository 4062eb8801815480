use Rattle.std.specs.Prelude.{IfOk}
use Rattle.std.specs.List.{All}
use Rattle.std.proofs.Common.{subst, sym}
use Rattle.rls_audit_lines.specs.Reading.{TellsWhether, HasStatement}
use Rattle.rls_audit_lines.specs.AttemptReading.{AttemptsParse}
use Rattle.rls_audit_lines.proofs.attempts.attempts_parse.Goals as goal

pub returns-in-Attempt : goal.returns-in-Attempt
returns-in-Attempt c =
    subst (λ x. IfOk c.statements_parse.result (λ all. TellsWhether all (AttemptsParse x))) (sym c.in-Attempt.is)
    (subst (λ statements. IfOk c.statements_parse.result (λ all. TellsWhether all (All HasStatement statements))) c.as_slice.ensures c.statements_parse.ensures)
