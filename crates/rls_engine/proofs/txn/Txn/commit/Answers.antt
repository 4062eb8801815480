use Rattle.std.proofs.Common.{◌∙◌, ap}
use Rattle.rls_engine.specs.Views.{Draft}
use Rattle.rls_engine.proofs.HoldLemmas.{failed_here, still_on}
use Rattle.rls_engine.proofs.txn.Txn.commit.Goals as goal

pub returns-in-None-clause-err : goal.returns-in-None-clause-err
returns-in-None-clause-err g c = failed_here _ c.args.self c.commit_held.result (still_on c.args.self _ _ _ _ c.self.inside.over c.in-None.is c.self.view_is) c.commit_held.ensures.err

pub returns-in-None-clause-fresh : goal.returns-in-None-clause-fresh
returns-in-None-clause-fresh g c over none = c.commit_held.ensures.fresh (ap (λ (d : Draft). d.stand.running.so_far.noted) c.self.view_is ∙ none)
