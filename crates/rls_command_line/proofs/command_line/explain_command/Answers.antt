use Rattle.std.proofs.Common.{◌∙◌, ap₂}
use Rattle.clap.specs.Words.{with_rule}
use Rattle.rls_command_line.proofs.command_line.explain_command.Goals as goal

pub returns-clause-app : goal.returns-clause-app
returns-clause-app c =
    c.in_ok-command-5.ensures.shape c.long_reasons.ensures.local
    ∙ ap₂ with_rule (c.in_ok-command-4.ensures.shape c.row_argument.ensures.local
    ∙ ap₂ with_rule (c.in_ok-command-3.ensures.shape c.file-statement.ensures.local
    ∙ ap₂ with_rule (c.in_ok-command-2.ensures.shape c.file-txn.ensures.local
    ∙ ap₂ with_rule (c.in_ok-command.ensures.shape c.audit.ensures.local ∙ ap₂ with_rule c.named-command.ensures.app c.audit.ensures.rule) c.file-txn.ensures.rule) c.file-statement.ensures.rule) c.row_argument.ensures.rule) c.long_reasons.ensures.rule
