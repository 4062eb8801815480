use Rattle.rls_check.proofs.PieceLemmas.{marks_are}
use Rattle.rls_check.proofs.laws.pages_have_their_own_marks.Goals as goal

pub returns : goal.returns
returns c = marks_are c.texts_open_nothing.ensures.marks
