use Rattle.std.proofs.Common.{sym, subst}
use Rattle.rls_audit.specs.ShownParts.{ShowsChange}
use Rattle.rls_audit_lines.specs.declared.changes.Changed.TheVariants as changed
use Rattle.rls_audit.proofs.ShowingLemmas.{policies_written, table_written}
use Rattle.rls_audit.proofs.showing.changed_by.Goals as goal

pub returns-in_ok-copy-in-Ok : goal.returns-in_ok-copy-in-Ok
returns-in_ok-copy-in-Ok c =
    let copied = c.in_ok-copy-in-Ok.field-0 in
    subst (ShowsChange (changed.Table copied c.in-Ok.shape)) (sym c.in-Table.is)
    (table_written c.in-Table.name copied c.in-Table.def c.in-Ok.shape c.in_ok-copy-in-Ok.ensures c.in-Ok.ensures)

pub returns-in_ok-policy_texts-in-Policies : goal.returns-in_ok-policy_texts-in-Policies
returns-in_ok-policy_texts-in-Policies c =
    let copied = c.in_ok-copy-in-Policies.field-0 in
    let texts = c.in_ok-policy_texts-in-Policies.field-0 in
    subst (ShowsChange (changed.Policies copied texts)) (sym c.in-Policies.is)
    (policies_written c.in-Policies.table copied c.in-Policies.content texts c.in_ok-copy-in-Policies.ensures c.in_ok-policy_texts-in-Policies.ensures)
