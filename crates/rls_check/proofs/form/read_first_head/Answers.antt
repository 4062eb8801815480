use Rattle.std.specs.Prelude.{◌≡◌, false}
use Rattle.std.proofs.Common.{subst}
use Rattle.rls_audit.specs.rls_audit_lines.specs.declared.lines.Line.TheVariants.{Head}
use Rattle.rls_audit.specs.rls_audit_lines.specs.Reading.{TellsWhether}
use Rattle.rls_check.specs.Forms.{HeadOf}
use Rattle.rls_check.proofs.FormLemmas.{first_head, no_first_head, line_refused}
use Rattle.rls_check.proofs.form.read_first_head.Goals as goal

pub returns-else-is_head : goal.returns-else-is_head
returns-else-is_head c =
    no_first_head c.args.number c.args.text.now c.in-Ok.line c.in-Ok.ensures (subst (λ b. TellsWhether b (c.in-Ok.line ≡ Head)) c.if-is_head.false c.is_head.ensures)

pub returns-in-Err : goal.returns-in-Err
returns-in-Err c =
    line_refused c.args.number c.in-Err.refusal c.args.text.now false (λ it second. HeadOf c.args.text.now it second × (second ≡ false)) (first_head c.args.text.now) c.in-Err.ensures
