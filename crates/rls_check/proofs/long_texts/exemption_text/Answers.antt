use Rattle.std.proofs.Common.{◌≡◌, IfOk, string_bytes, subst, sym}
use Rattle.rls_explain.specs.declared.details.Exemption.{Exemption}
use Rattle.rls_check.specs.LongTexts.{exemption_text}
use Rattle.rls_check.proofs.long_texts.exemption_text.Goals as goal

-- the text of that reason
pub returns-in-OwnersPrivileges : goal.returns-in-OwnersPrivileges
returns-in-OwnersPrivileges c =
    subst (λ (reason : Exemption). IfOk c.format-in-OwnersPrivileges.result (λ text. string_bytes text ≡ exemption_text c.args.role.now c.args.table.now c.args.owner.now reason)) (sym c.in-OwnersPrivileges.is) c.format-in-OwnersPrivileges.ensures.ok
