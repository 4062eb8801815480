use Rattle.std.proofs.Common.{◌∙◌, ap₂}
use Rattle.clap.specs.Words.{with_rule}
use Rattle.rls_command_line.proofs.graph_line.graph_command.Goals as goal

pub returns-clause-app : goal.returns-clause-app
returns-clause-app c =
    c.in_ok-command-4.ensures.shape c.every.ensures.local
    ∙ ap₂ with_rule (c.in_ok-command-3.ensures.shape c.dot.ensures.local
    ∙ ap₂ with_rule (c.in_ok-command-2.ensures.shape c.mermaid.ensures.local
    ∙ ap₂ with_rule (c.in_ok-command.ensures.shape c.audit.ensures.local ∙ ap₂ with_rule c.named-command.ensures.app c.audit.ensures.rule) c.mermaid.ensures.rule) c.dot.ensures.rule) c.every.ensures.rule
