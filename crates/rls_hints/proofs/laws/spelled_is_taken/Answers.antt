use Rattle.rls_hints.proofs.Spelled.{spelled_taken}
use Rattle.rls_hints.proofs.laws.spelled_is_taken.Goals as goal

pub returns : goal.returns
returns c = spelled_taken
