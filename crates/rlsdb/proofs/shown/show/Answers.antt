use Rattle.std.proofs.Common.{ap, subst, ◌∙◌}
use Rattle.rls_check.specs.ShownAudits.{missing_txn}
use Rattle.rls_check.specs.Walking.{IsWalk}
use Rattle.rlsdb.proofs.ShownLemmas.{unordered, without}
use Rattle.rlsdb.proofs.shown.show.Goals as goal

-- nothing is written where the numbers are no order
pub returns-in_default : goal.returns-in_default
returns-in_default g c =
    let audit = c.args.audit.now in
    unordered c.args.wanted.now audit.transactions audit.order (g.O.ScriptOut.taken c.args.output.now) (subst (IsWalk audit.transactions audit.order) c.in_default.is c.in_ok-walk.ensures)

-- nor where a transaction that is asked for isn't there
pub returns-in-Some-missing : goal.returns-in-Some-missing
returns-in-Some-missing g c =
    let audit = c.args.audit.now in
    without c.args.wanted.now audit.transactions audit.order c.in-Some.walk c.in-Some-missing.txn (g.O.ScriptOut.taken c.args.output.now) (subst (IsWalk audit.transactions audit.order) c.in-Some.is c.in_ok-walk.ensures)
    (c.in-Some-missing.ensures ∙ ap (missing_txn audit.transactions) c.as_slice.ensures)
