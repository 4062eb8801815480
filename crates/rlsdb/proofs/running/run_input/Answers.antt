use Rattle.rlsdb.proofs.AnswerLemmas.{run_text}
use Rattle.rlsdb.proofs.running.run_input.Goals as goal

pub returns-clause-text : goal.returns-clause-text
returns-clause-text g c = run_text c.args.run.threads c.args.run.terse c.args.keeps _ _ _ _ _ _ _ c.in_ok-ran.ensures.text c.finish-finished.ensures.taken
