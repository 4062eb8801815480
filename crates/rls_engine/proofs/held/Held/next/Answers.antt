use Rattle.std.proofs.Common.{◌∙◌}
use Rattle.rls_engine.proofs.HoldLemmas.{next_view}
use Rattle.rls_engine.proofs.held.Held.next.Goals as goal

pub returns-in-Ok-told_of-clause-view : goal.returns-in-Ok-told_of-clause-view
returns-in-Ok-told_of-clause-view g c = c.in-Ok.ensures ∙ next_view c.args.self.now.stand c.args.work.now c.requires
