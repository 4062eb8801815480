use Rattle.rlsdb.proofs.TestLemmas.{stopped_with_audit}
use Rattle.rlsdb.proofs.stopping.run_stopping_with_audit.Goals as goal

-- the answers, and behind them the audit of the same run
pub returns : goal.returns
returns g c = stopped_with_audit c.args.run.terse c.in_ok-answered.done c.in_ok-answered.answered.tolds.items c.as_slice.result.now c.in_ok-answered.answered.book.seen.committed c.args.output.now.taken.bytes c.write_answers.new.output.taken.bytes c.write_book.new.output.taken.bytes c.in_ok-answered.ensures.answered c.as_slice.ensures.value c.in_ok-write_answers.ensures c.in_ok-write_book.ensures
