use Rattle.rls_catalog.specs.Changed.{opening}
use Rattle.rls_rows.proofs.FoldLemmas.{one_more}
use Rattle.rls_rows.proofs.folds.states_are_folds.Goals as goal

pub returns-clause-more : goal.returns-clause-more
returns-clause-more c = one_more opening
