use Rattle.std.proofs.Common.{map}
use Rattle.rls_command_line.specs.CommandLine.{IsNumberOf}
use Rattle.rls_command_line.proofs.ShownLineLemmas.{none_left, zip_all}
use Rattle.rls_command_line.proofs.shown_line.numbers_of.Goals as goal

-- none is left
pub returns-clause-ok : goal.returns-clause-ok
returns-clause-ok c =
    zip_all IsNumberOf (map (λ text. text.now) c.loop-texts.texts.now) (map (λ text. text.now) c.args.texts.now) c.loop-texts.numbers (none_left (λ text. text.now) c.loop-texts.texts.now c.in_default.len_below) c.loop-texts.invariant
