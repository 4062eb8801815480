use Rattle.std.proofs.Common.{◌≡◌, ap, ◌∙◌}
use Rattle.rls_verdict.specs.rls_catalog.specs.State.{grants_of}
use Rattle.rls_grant.specs.Missing.{missing_in}
use Rattle.rls_grant.proofs.lacking.missing.Goals as goal

pub returns-clause-missing : goal.returns-clause-missing
returns-clause-missing g c =
    let there : c.in_ok-grants.grants.now ≡ grants_of (g.S.RowSource.state c.args.source.now) c.args.table.now =
    c.in_ok-grants.ensures.found ∙ ap (λ s. grants_of s c.args.table.now) c.effective_roles_over.ensures.state in
    c.in_ok-missing.ensures
    ∙ (λ i. missing_in (c.in_ok-effective_roles.ensures.superuser i) (c.in_ok-effective_roles.ensures.names i) (there i) c.args.privilege c.args.table.now c.args.columns.now)
