use Rattle.std.proofs.Common.{ap, ◌∙◌}
use Rattle.rls_core.specs.Posted.{Posted, decisions_of}
use Rattle.rls_core.proofs.PostedLemmas.{decisions_put}
use Rattle.rls_core.proofs.posted.Posted.decisions.Goals as goal

pub returns : goal.returns
returns c = decisions_put c.self.inside.decisions c.self.inside.bare ∙ ap (λ (p : Posted). decisions_of p.effect) c.self.view_is
