use Rattle.std.proofs.Common.{◌∙◌, ap₂}
use Rattle.clap.specs.Words.{with_rule}
use Rattle.rls_command_line.proofs.command_line.parse_command.Goals as goal

pub returns-clause-app : goal.returns-clause-app
returns-clause-app c = c.in_ok-command.ensures.shape c.script-script.ensures.local ∙ ap₂ with_rule c.named-command.ensures.app c.script-script.ensures.rule
