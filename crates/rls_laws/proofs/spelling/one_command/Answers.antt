use Rattle.rls_audit.specs.rls_audit_lines.specs.rls_text.proofs.CommandLaws.{one_command}
use Rattle.rls_laws.proofs.spelling.one_command.Goals as goal

pub returns : goal.returns
returns c = λ tokens x y one other. one_command tokens x y one other
