use Rattle.rls_check.proofs.OneAuditLemmas.{lines_one, texts_are}
use Rattle.rls_check.proofs.laws.meant_lines_are_read.Goals as goal

pub returns-clause-lines : goal.returns-clause-lines
returns-clause-lines c = lines_one

pub returns-clause-texts : goal.returns-clause-texts
returns-clause-texts c = texts_are
