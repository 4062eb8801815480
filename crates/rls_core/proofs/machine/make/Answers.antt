use Rattle.std.proofs.Common.{sym, subst, ◌∙◌}
use Rattle.rls_conflict.specs.Transactions.{Transaction}
use Rattle.rls_core.specs.Kept.{SeesNewest}
use Rattle.rls_core.proofs.machine.make.Goals as goal

pub parts-requires : goal.parts-requires
parts-requires c =
    subst (λ (txn : Transaction). SeesNewest c.args.opened.now.view c.args.versions.now.states txn) (sym (c.transaction.ensures ∙ c.in_ok-commit.ensures.ok.transaction)) c.requires.view
