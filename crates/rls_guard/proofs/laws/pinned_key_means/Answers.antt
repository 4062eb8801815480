use Rattle.rls_guard.proofs.OneRowLaws.{one_row}
use Rattle.rls_guard.proofs.laws.pinned_key_means.Goals as goal

pub returns-clause-one_row : goal.returns-clause-one_row
returns-clause-one_row c = one_row
