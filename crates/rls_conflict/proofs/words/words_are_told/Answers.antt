use Rattle.std.specs.Prelude.{refl}
use Rattle.rls_conflict.proofs.CoverageLemmas.{agrees_is_shown}
use Rattle.rls_conflict.proofs.HistoryLemmas.{histories_told, reads_covered, common_written}
use Rattle.rls_conflict.proofs.words.words_are_told.Goals as goal

pub returns-clause-antidependencies : goal.returns-clause-antidependencies
returns-clause-antidependencies c transactions one other = refl

pub returns-clause-histories : goal.returns-clause-histories
returns-clause-histories c = histories_told

pub returns-clause-coverage : goal.returns-clause-coverage
returns-clause-coverage c = reads_covered

pub returns-clause-agreement : goal.returns-clause-agreement
returns-clause-agreement c s other object a b = agrees_is_shown s other a b object

pub returns-clause-common : goal.returns-clause-common
returns-clause-common c = common_written
