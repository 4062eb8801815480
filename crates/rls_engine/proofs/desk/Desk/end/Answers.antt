use Rattle.std.proofs.Common.{ℕ, ap, subst}
use Rattle.rls_core.specs.Attempts.{Leaves}
use Rattle.rls_core.specs.Seen.{Seen, runs_at}
use Rattle.rls_engine.specs.Views.{Hold}
use Rattle.rls_engine.proofs.AttemptLemmas.{left_on}
use Rattle.rls_engine.proofs.desk.Desk.end.Goals as goal

pub returns-then-fits-clause-left : goal.returns-then-fits-clause-left
returns-then-fits-clause-left g c =
    let seen : Seen = c.args.self.now.seen in
    left_on seen c.args.held.now c.rollback-left.result (c.fits-fits.ensures c.if-fits.true) c.recorded.ensures
    (subst (λ (n : ℕ). Leaves n (runs_at seen n) c.rollback-left.result) (ap (λ (h : Hold). h.txn) c.held.view_is) c.rollback-left.ensures.left)
