use Rattle.rls_text.proofs.CommandLaws.{statement_answered}
use Rattle.rls_text.proofs.read_back.statement_answers.Goals as goal

pub returns : goal.returns
returns c = statement_answered
