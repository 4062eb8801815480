use Rattle.std.specs.Prelude.{OnOk}
use Rattle.std.proofs.Common.{sym, subst}
use Rattle.rls_audit_lines.specs.ChangeCodecs.{FitsContent}
use Rattle.rls_audit_lines.proofs.changes.write_content.Goals as goal

pub returns-in-Grants-clause-fits : goal.returns-in-Grants-clause-fits
returns-in-Grants-clause-fits g c =
    subst (λ changed. OnOk c.json_of-in-Grants.result (FitsContent g.F.Format.second changed)) (sym c.in-Grants.is) c.json_of-in-Grants.ensures.fits
