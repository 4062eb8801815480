use Rattle.rls_meaning.proofs.Updating.{update_told}
use Rattle.rls_meaning.proofs.laws.update_means.Goals as goal

pub returns : goal.returns
returns c = update_told c.expansion_means.ensures
