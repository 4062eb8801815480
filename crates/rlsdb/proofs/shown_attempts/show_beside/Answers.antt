use Rattle.std.proofs.Common.{subst}
use Rattle.rls_check.specs.Snapshots.{AreBegun}
use Rattle.rlsdb.proofs.ShownAttemptLemmas.{unordered}
use Rattle.rlsdb.proofs.shown_attempts.show_beside.Goals as goal

-- nothing is written where the numbers are no order
pub returns-in_default : goal.returns-in_default
returns-in_default g c =
    let audit = c.args.audit.now in
    unordered c.args.wanted.now audit.transactions audit.order c.args.attempts (g.O.ScriptOut.taken c.args.output.now) (subst (AreBegun audit.transactions audit.order c.args.attempts) c.in_default.is c.in_ok-begun.ensures)
