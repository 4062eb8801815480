use Rattle.rlsdb.proofs.AnswerLemmas.{with_audit}
use Rattle.rlsdb.proofs.running.run_with_audit.Goals as goal

-- the answers, and behind them the audit of the same run
pub returns : goal.returns
returns g c = with_audit c.args.run.threads c.args.run.terse c.in_ok-book.book.seen.committed c.args.output.now.taken.bytes c.run_file.new.output.taken.bytes c.write_book.new.output.taken.bytes c.in_ok-book.ensures.text c.in_ok-write_book.ensures
