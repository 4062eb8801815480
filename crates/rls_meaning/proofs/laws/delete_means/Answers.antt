use Rattle.rls_meaning.proofs.Deleting.{delete_told}
use Rattle.rls_meaning.proofs.laws.delete_means.Goals as goal

pub returns : goal.returns
returns c = delete_told c.expansion_means.ensures
