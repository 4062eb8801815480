use Rattle.rls_conflict.proofs.JoiningLemmas as joining
use Rattle.rls_conflict.proofs.changes.sound_rows_join.Goals as goal

pub returns : goal.returns
returns c = joining.sound_rows_join
