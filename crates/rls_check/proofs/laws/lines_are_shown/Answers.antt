use Rattle.rls_check.proofs.ReadLemmas.{read_show, texts_show, key_kept}
use Rattle.rls_check.proofs.laws.lines_are_shown.Goals as goal

pub returns-clause-lines : goal.returns-clause-lines
returns-clause-lines c = read_show

pub returns-clause-texts : goal.returns-clause-texts
returns-clause-texts c = texts_show

pub returns-clause-key : goal.returns-clause-key
returns-clause-key c = key_kept
