use Rattle.std.proofs.Common.{◌∙◌, ap₂}
use Rattle.clap.specs.Words.{with_rule}
use Rattle.rls_command_line.proofs.command_line.order_command.Goals as goal

pub returns-clause-app : goal.returns-clause-app
returns-clause-app c =
    c.in_ok-command-2.ensures.shape c.long.ensures.local
    ∙ ap₂ with_rule (c.in_ok-command.ensures.shape c.audit.ensures.local ∙ ap₂ with_rule c.named-command.ensures.app c.audit.ensures.rule) c.long.ensures.rule
