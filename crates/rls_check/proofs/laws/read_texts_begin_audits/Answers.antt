use Rattle.rls_check.proofs.BegunLemmas.{converted_begins, read_begins}
use Rattle.rls_check.proofs.laws.read_texts_begin_audits.Goals as goal

pub returns-clause-read : goal.returns-clause-read
returns-clause-read c = read_begins

pub returns-clause-converted : goal.returns-clause-converted
returns-clause-converted c = converted_begins
