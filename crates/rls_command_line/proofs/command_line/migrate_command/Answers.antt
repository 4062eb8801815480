use Rattle.std.proofs.Common.{◌∙◌, ap₂}
use Rattle.clap.specs.Words.{with_rule}
use Rattle.rls_command_line.proofs.command_line.migrate_command.Goals as goal

pub returns-clause-app : goal.returns-clause-app
returns-clause-app c =
    c.in_ok-command-2.ensures.shape c.out-out.ensures.local
    ∙ ap₂ with_rule (c.in_ok-command.ensures.shape c.file-old.ensures.local ∙ ap₂ with_rule c.named-command.ensures.app c.file-old.ensures.rule) c.out-out.ensures.rule
