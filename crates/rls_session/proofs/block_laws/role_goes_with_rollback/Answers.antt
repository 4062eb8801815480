use Rattle.rls_session.proofs.BlockLemmas.{role_gone}
use Rattle.rls_session.proofs.block_laws.role_goes_with_rollback.Goals as goal

pub returns : goal.returns
returns c = role_gone
