use Rattle.std.proofs.Common.{◌∙◌, ap₂}
use Rattle.clap.specs.Words.{with_rule}
use Rattle.rls_command_line.proofs.command_line.run_command.Goals as goal

pub returns-clause-app : goal.returns-clause-app
returns-clause-app c =
    c.in_ok-command-8.ensures.shape c.attempts_out.ensures.local
    ∙ ap₂ with_rule (c.in_ok-command-7.ensures.shape c.numbers.ensures.local
    ∙ ap₂ with_rule (c.in_ok-command-6.ensures.shape c.stop.ensures.local
    ∙ ap₂ with_rule (c.in_ok-command-5.ensures.shape c.hints.ensures.local
    ∙ ap₂ with_rule (c.in_ok-command-4.ensures.shape c.terse_conflicts.ensures.local
    ∙ ap₂ with_rule (c.in_ok-command-3.ensures.shape c.audit_out.ensures.local
    ∙ ap₂ with_rule (c.in_ok-command-2.ensures.shape c.threads.ensures.local
    ∙ ap₂ with_rule (c.in_ok-command.ensures.shape c.script-script.ensures.local ∙ ap₂ with_rule c.named-command.ensures.app c.script-script.ensures.rule) c.threads.ensures.rule) c.audit_out.ensures.rule) c.terse_conflicts.ensures.rule) c.hints.ensures.rule) c.stop.ensures.rule) c.numbers.ensures.rule) c.attempts_out.ensures.rule
