use Rattle.std.specs.List.{All}
use Rattle.std.proofs.Common.{sym, subst}
use Rattle.rls_audit.specs.rls_audit_lines.specs.Reading.{HasStatement}
use Rattle.rls_audit.specs.rls_audit_lines.specs.declared.lines.Shown.{Shown}
use Rattle.rls_check.proofs.attempts.keep.Goals as goal

-- the statements are those of the attempt
pub kept-requires-clause-statements : goal.kept-requires-clause-statements
kept-requires-clause-statements c = subst (λ (shown : Shown). All HasStatement shown.statements) (sym c.as_shown.ensures) c.requires
