use Rattle.std.proofs.Common.{◌∙◌, ap₂}
use Rattle.clap.specs.Words.{with_rule}
use Rattle.rls_command_line.proofs.report_line.report_command.Goals as goal

pub returns-clause-app : goal.returns-clause-app
returns-clause-app c =
    c.in_ok-command-8.ensures.shape c.rows.ensures.local
    ∙ ap₂ with_rule (c.in_ok-command-7.ensures.shape c.denied.ensures.local
    ∙ ap₂ with_rule (c.in_ok-command-6.ensures.shape c.table.ensures.local
    ∙ ap₂ with_rule (c.in_ok-command-5.ensures.shape c.txn.ensures.local
    ∙ ap₂ with_rule (c.in_ok-command-4.ensures.shape c.login.ensures.local
    ∙ ap₂ with_rule (c.in_ok-command-3.ensures.shape c.role.ensures.local
    ∙ ap₂ with_rule (c.in_ok-command-2.ensures.shape c.out.ensures.local
    ∙ ap₂ with_rule (c.in_ok-command.ensures.shape c.audit.ensures.local ∙ ap₂ with_rule c.named-command.ensures.app c.audit.ensures.rule) c.out.ensures.rule) c.role.ensures.rule) c.login.ensures.rule) c.txn.ensures.rule) c.table.ensures.rule) c.denied.ensures.rule) c.rows.ensures.rule
