use Rattle.rls_session.proofs.BlockLemmas.{role_taken}
use Rattle.rls_session.proofs.block_laws.role_lasts_from_commit.Goals as goal

pub returns : goal.returns
returns c = role_taken
