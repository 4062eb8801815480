use Rattle.std.proofs.Common.{sym, subst}
use Rattle.rls_catalog.specs.State.{State}
use Rattle.rls_conflict.specs.Transactions.{Transaction}
use Rattle.rls_core.specs.Kept.{SeesNewest}
use Rattle.rls_core.proofs.machine.parts.Goals as goal

pub state_of-requires : goal.state_of-requires
state_of-requires c =
    subst (λ (txn : Transaction). SeesNewest c.view.result.now c.args.versions.now.states txn) (sym c.get.ensures)
    (subst (λ (view : State). SeesNewest view c.args.versions.now.states c.args.transaction.now) (sym c.view.ensures) c.requires)
