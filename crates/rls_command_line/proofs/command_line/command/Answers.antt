use Rattle.std.proofs.Common.{◌∙◌, ap, ap₂}
use Rattle.clap.specs.Words.{App, with_subcommand}
use Rattle.rls_command_line.proofs.command_line.command.Goals as goal

pub returns : goal.returns
returns c = record {
  app =
      c.in_ok-program-12.ensures.shape c.in_ok-parse_command.ensures.local
      ∙ ap₂ with_subcommand (c.in_ok-program-11.ensures.shape c.in_ok-migrate_command.ensures.local
      ∙ ap₂ with_subcommand (c.in_ok-program-10.ensures.shape c.in_ok-report_command.ensures.local
      ∙ ap₂ with_subcommand (c.in_ok-program-9.ensures.shape c.in_ok-graph_command.ensures.local
      ∙ ap₂ with_subcommand (c.in_ok-program-8.ensures.shape c.in_ok-dump_command.ensures.local
      ∙ ap₂ with_subcommand (c.in_ok-program-7.ensures.shape c.in_ok-lint_command.ensures.local
      ∙ ap₂ with_subcommand (c.in_ok-program-6.ensures.shape c.in_ok-shown_command.ensures.local
      ∙ ap₂ with_subcommand (c.in_ok-program-5.ensures.shape c.in_ok-explain_command.ensures.local
      ∙ ap₂ with_subcommand (c.in_ok-program-4.ensures.shape c.in_ok-check_command.ensures.local
      ∙ ap₂ with_subcommand (c.in_ok-program-3.ensures.shape c.in_ok-order_command.ensures.local
      ∙ ap₂ with_subcommand (c.in_ok-program-2.ensures.shape c.in_ok-test_command.ensures.local
      ∙ ap₂ with_subcommand (c.in_ok-program.ensures.shape c.in_ok-run_command.ensures.local ∙ ap₂ with_subcommand c.program-program.ensures (ap (λ (a : App). a.top) c.in_ok-run_command.ensures.app))
      (ap (λ (a : App). a.top) c.in_ok-test_command.ensures.app)) (ap (λ (a : App). a.top) c.in_ok-order_command.ensures.app)) (ap (λ (a : App). a.top) c.in_ok-check_command.ensures.app)) (ap (λ (a : App). a.top) c.in_ok-explain_command.ensures.app)) (ap (λ (a : App). a.top) c.in_ok-shown_command.ensures.app)) (ap (λ (a : App). a.top) c.in_ok-lint_command.ensures.app)) (ap (λ (a : App). a.top) c.in_ok-dump_command.ensures.app)) (ap (λ (a : App). a.top) c.in_ok-graph_command.ensures.app)) (ap (λ (a : App). a.top) c.in_ok-report_command.ensures.app)) (ap (λ (a : App). a.top) c.in_ok-migrate_command.ensures.app)) (ap (λ (a : App). a.top) c.in_ok-parse_command.ensures.app);
}
