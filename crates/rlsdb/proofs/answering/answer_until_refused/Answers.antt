use Rattle.std.proofs.Common.{map}
use Rattle.rlsdb.proofs.AnsweringLemmas.{texts_until_all, until_all}
use Rattle.rlsdb.proofs.answering.answer_until_refused.Goals as goal

-- all lines were run, and none was refused
pub returns-in-Ok-clause-answered : goal.returns-in-Ok-clause-answered
returns-in-Ok-clause-answered g c = until_all c.all_answers.result c.args.terse (map (λ line. line.now) c.args.lines.now) c.in-Ok.book c.new-held.result.bytes.items c.run_marked.new.held.bytes.items c.new-held.ensures.fresh c.in-Ok.ensures.text c.all_answers.ensures.cut c.all_answers.ensures.book c.all_answers.ensures.done c.all_answers.ensures.none

-- the book is the run's
pub returns-in-Ok-clause-texts : goal.returns-in-Ok-clause-texts
returns-in-Ok-clause-texts g c = texts_until_all c.all_answers.result c.in-Ok.book c.in-Ok.ensures.texts c.all_answers.ensures.book
