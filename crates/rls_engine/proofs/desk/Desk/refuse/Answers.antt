use Rattle.std.proofs.Common.{ℕ, ap, subst}
use Rattle.rls_core.specs.Attempts.{Leaves}
use Rattle.rls_core.specs.Seen.{Seen, runs_at}
use Rattle.rls_engine.specs.Views.{Hold}
use Rattle.rls_engine.proofs.AttemptLemmas.{left_on}
use Rattle.rls_engine.proofs.desk.Desk.refuse.Goals as goal

pub returns-in-Serial-clause-left : goal.returns-in-Serial-clause-left
returns-in-Serial-clause-left g c =
    let seen : Seen = c.args.self.now.seen in
    left_on seen c.args.held.now c.rollback.result c.requires.fits c.recorded.ensures
    (subst (λ (n : ℕ). Leaves n (runs_at seen n) c.rollback.result) (ap (λ (h : Hold). h.txn) c.held.view_is) c.rollback.ensures.left)
