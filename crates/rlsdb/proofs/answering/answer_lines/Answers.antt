use Rattle.rlsdb.proofs.AnsweringLemmas.{texts_by}
use Rattle.rlsdb.proofs.answering.answer_lines.Goals as goal

-- the book is the run's
pub returns-in-Ok-clause-texts : goal.returns-in-Ok-clause-texts
returns-in-Ok-clause-texts g c = texts_by c.answers_in.result c.in-Ok.book c.in-Ok.ensures.texts c.answers_in.ensures.book
