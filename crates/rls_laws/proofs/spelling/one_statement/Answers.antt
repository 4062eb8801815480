use Rattle.rls_audit.specs.rls_audit_lines.specs.rls_text.proofs.Laws.{one_statement}
use Rattle.rls_laws.proofs.spelling.one_statement.Goals as goal

pub returns : goal.returns
returns c = λ tokens x y one other. one_statement tokens x y one other
