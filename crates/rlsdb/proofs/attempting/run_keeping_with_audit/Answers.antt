use Rattle.std.proofs.Common.{◌≡◌}
use Rattle.rlsdb.proofs.AttemptLemmas.{kept_together}
use Rattle.rlsdb.proofs.attempting.run_keeping_with_audit.Goals as goal

-- the answers, behind them the audit of the same run, and its attempts in a file
pub returns : goal.returns
returns g c =
    let shown : c.as_slice.result.now ≡ c.in_ok-book.field-0.attempts.items = search in
    kept_together c.args.run.threads c.args.run.terse c.in_ok-book.field-0.book.seen.committed c.in_ok-book.field-0.attempts.items c.as_slice.result.now c.in_ok-kept.kept.taken.bytes c.args.output.now.taken.bytes c.run_kept.new.output.taken.bytes c.write_book.new.output.taken.bytes c.in_ok-book.ensures.text c.in_ok-write_book.ensures shown c.in_ok-kept.ensures.attempts
