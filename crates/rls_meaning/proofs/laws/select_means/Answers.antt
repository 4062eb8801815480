use Rattle.rls_meaning.proofs.Selecting.{select_told}
use Rattle.rls_meaning.proofs.laws.select_means.Goals as goal

pub returns : goal.returns
returns c = select_told c.expansion_means.ensures
