use Rattle.std.proofs.Common.{rules, subst, ◌≡◌, true}
use Rattle.rls_audit_lines.specs.Texts.{are_digits, number_found}
use Rattle.rls_audit_lines.specs.TextLaws.{IsNumberRead, number_read}
use Rattle.rls_audit_lines.proofs.texts.read_number.Goals as goal

pub returns-in-Ok : goal.returns-in-Ok
returns-in-Ok c =
    let digits : are_digits c.args.text.now ≡ true = search rules in
    subst (λ r. IsNumberRead r (number_found c.args.text.now)) c.in-Ok.is (number_read c.args.text.now c.parse.result c.parse.ensures.value.0 digits)

pub returns-in-Err : goal.returns-in-Err
returns-in-Err c =
    let digits : are_digits c.args.text.now ≡ true = search rules in
    subst (λ r. IsNumberRead r (number_found c.args.text.now)) c.in-Err.is (number_read c.args.text.now c.parse.result c.parse.ensures.value.0 digits)
