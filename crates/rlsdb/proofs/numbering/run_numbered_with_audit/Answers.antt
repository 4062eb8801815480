use Rattle.rlsdb.proofs.NumberLemmas.{numbered_with_audit}
use Rattle.rlsdb.proofs.numbering.run_numbered_with_audit.Goals as goal

-- the answers, and behind them the audit of the same run
pub returns : goal.returns
returns g c = numbered_with_audit c.args.run.terse c.in_ok-it.it.answered.tolds.items c.in_ok-it.it.wheres.items c.in_ok-it.it.answered.book.seen.committed c.args.output.now.taken.bytes c.write_answers.new.output.taken.bytes c.write_book.new.output.taken.bytes c.in_ok-it.ensures.answers c.in_ok-write_answers.ensures c.in_ok-write_book.ensures
