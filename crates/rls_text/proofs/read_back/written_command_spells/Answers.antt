use Rattle.rls_text.proofs.CommandLaws.{command_spelled}
use Rattle.rls_text.proofs.read_back.written_command_spells.Goals as goal

pub returns : goal.returns
returns c = command_spelled
