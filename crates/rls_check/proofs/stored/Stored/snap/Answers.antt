use Rattle.std.proofs.Common.{◌∙◌, ap}
use Rattle.rls_check.proofs.StoredLemmas.{told_snap}
use Rattle.rls_check.proofs.stored.Stored.snap.Goals as goal

pub returns : goal.returns
returns c =
    let it = c.self.inside in
    told_snap it.second it.text it.txn it.snap it.tells ∙ ap (λ t. t.snap) c.self.view_is
