use Rattle.rls_session.proofs.BlockLemmas.{over_ends}
use Rattle.rls_session.proofs.block_laws.over_until_ended.Goals as goal

pub returns : goal.returns
returns c = over_ends
