use Rattle.std.proofs.Common.{◌∙◌, ap₂}
use Rattle.clap.specs.Words.{with_rule}
use Rattle.rls_command_line.proofs.shown_line.shown_command.Goals as goal

pub returns-clause-app : goal.returns-clause-app
returns-clause-app c =
    c.in_ok-command-10.ensures.shape c.attempts.ensures.local
    ∙ ap₂ with_rule (c.in_ok-command-9.ensures.shape c.json.ensures.local
    ∙ ap₂ with_rule (c.in_ok-command-8.ensures.shape c.all.ensures.local
    ∙ ap₂ with_rule (c.in_ok-command-7.ensures.shape c.denied.ensures.local
    ∙ ap₂ with_rule (c.in_ok-command-6.ensures.shape c.row.ensures.local
    ∙ ap₂ with_rule (c.in_ok-command-5.ensures.shape c.table.ensures.local
    ∙ ap₂ with_rule (c.in_ok-command-4.ensures.shape c.txn.ensures.local
    ∙ ap₂ with_rule (c.in_ok-command-3.ensures.shape c.login.ensures.local
    ∙ ap₂ with_rule (c.in_ok-command-2.ensures.shape c.role.ensures.local
    ∙ ap₂ with_rule (c.in_ok-command.ensures.shape c.audit.ensures.local ∙ ap₂ with_rule c.named-command.ensures.app c.audit.ensures.rule) c.role.ensures.rule) c.login.ensures.rule) c.txn.ensures.rule) c.table.ensures.rule) c.row.ensures.rule) c.denied.ensures.rule) c.all.ensures.rule) c.json.ensures.rule) c.attempts.ensures.rule
