use Rattle.std.proofs.Common.{◌∙◌}
use Rattle.clap.proofs.WalkLemmas.{one_text-rows}
use Rattle.clap.specs.Words.{found_of}
use Rattle.rls_command_line.proofs.command_line.flag.Goals as goal

pub returns : goal.returns
returns c =
    let rows = one_text-rows (found_of c.args.words.now) c.args.name.now in
    record {
      given = λ is. c.get_flag.ensures.value (rows ∙ is);
      none = λ is. c.get_flag.ensures.other (rows ∙ is);
      absent = λ is. c.get_flag.ensures.none (rows ∙ is);
    }
