use Rattle.std.proofs.Common.{ap, sym, ◌∙◌}
use Rattle.rls_conflict.specs.Known.{Known, is_running}
use Rattle.rls_conflict.proofs.RunningLemmas.{runs}
use Rattle.rls_conflict.proofs.conflicts.Conflicts.is_running.Goals as goal

pub returns : goal.returns
returns c =
    c.contains_key.ensures
    ∙ sym (runs c.self.inside.committed.items c.self.inside.running.entries c.self.inside.sireads c.args.txn)
    ∙ ap (λ (known : Known). is_running known c.args.txn) c.self.view_is
