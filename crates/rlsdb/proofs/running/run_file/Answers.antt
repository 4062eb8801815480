use Rattle.std.specs.Prelude.{false, map}
use Rattle.rls_session.specs.Parts.{tried_by}
use Rattle.rlsdb.proofs.AttemptLemmas.{run_kept}
use Rattle.rlsdb.proofs.running.run_file.Goals as goal

pub returns-clause-text : goal.returns-clause-text
returns-clause-text g c =
    run_kept c.args.run.threads c.args.run.terse false c.in_ok-book.field-0.book.seen.committed (map tried_by c.in_ok-book.field-0.attempts.items) c.args.output.now.taken.bytes c.run_kept.new.output.taken.bytes c.in_ok-book.ensures.text
