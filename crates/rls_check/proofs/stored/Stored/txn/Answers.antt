use Rattle.std.proofs.Common.{◌∙◌, ap}
use Rattle.rls_check.proofs.StoredLemmas.{told_txn}
use Rattle.rls_check.proofs.stored.Stored.txn.Goals as goal

pub returns : goal.returns
returns c =
    let it = c.self.inside in
    told_txn it.second it.text it.txn it.snap it.tells ∙ ap (λ t. t.txn) c.self.view_is
