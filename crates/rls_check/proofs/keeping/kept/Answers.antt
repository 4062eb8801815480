use Rattle.std.specs.List.{All}
use Rattle.std.proofs.Common.{sym, subst}
use Rattle.rls_audit.specs.rls_audit_lines.specs.Reading.{HasStatement}
use Rattle.rls_check.proofs.keeping.kept.Goals as goal

pub answers_of-requires : goal.answers_of-requires
answers_of-requires c = subst (All HasStatement) (sym c.into_vec.ensures) c.requires.statements
