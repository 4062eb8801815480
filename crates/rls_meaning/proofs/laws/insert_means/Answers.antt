use Rattle.rls_meaning.proofs.Inserting.{insert_told}
use Rattle.rls_meaning.proofs.laws.insert_means.Goals as goal

pub returns : goal.returns
returns c = insert_told c.expansion_means.ensures
