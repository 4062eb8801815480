use Rattle.std.proofs.Common.{true, ◌∙◌, ap}
use Rattle.clap.specs.Words.{Shape}
use Rattle.clap.specs.Simple.{app_of_fields, on_top}
use Rattle.rls_command_line.proofs.command_line.program.Goals as goal

pub returns : goal.returns
returns c =
    ap app_of_fields c.subcommand_required.ensures
    ∙ (ap (on_top (λ (s : Shape). record s { subcommand_required = true })) (ap app_of_fields c.version.ensures)
    ∙ ap (on_top (λ (s : Shape). record s { has_version = true; subcommand_required = true })) c.named.ensures.app)
