use Rattle.std.proofs.Common.{ap, subst, ◌∙◌}
use Rattle.rls_check.specs.Walking.{IsWalk}
use Rattle.rlsdb.specs.Linting.{later_of}
use Rattle.rlsdb.proofs.DumpLemmas.{unordered, without}
use Rattle.rlsdb.proofs.dumping.dump_audit.Goals as goal

-- nothing is written where the numbers are no order
pub returns-in_default : goal.returns-in_default
returns-in_default g c =
    let audit = c.args.audit.now in
    unordered c.args.after audit.transactions audit.order (g.O.ScriptOut.taken c.args.output.now) (subst (IsWalk audit.transactions audit.order) c.in_default.is c.in_ok-walk.ensures)

-- nor where the transaction isn't there
pub returns-in-None : goal.returns-in-None
returns-in-None g c =
    let audit = c.args.audit.now in
    without c.args.after audit.transactions audit.order c.in-Some.walk c.asked_txn.result (g.O.ScriptOut.taken c.args.output.now) (subst (IsWalk audit.transactions audit.order) c.in-Some.is c.in_ok-walk.ensures)
    (c.in-None.ensures ∙ ap (λ numbers. later_of numbers c.args.after) c.order.ensures) c.asked_txn.ensures
