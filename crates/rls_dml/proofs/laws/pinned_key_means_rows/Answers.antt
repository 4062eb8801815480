use Rattle.rls_dml.proofs.PinnedLemmas.{pinned_rows}
use Rattle.rls_dml.proofs.laws.pinned_key_means_rows.Goals as goal

pub returns : goal.returns
returns c s sees user name table condition rows carry given = pinned_rows s sees user name table condition rows carry given
