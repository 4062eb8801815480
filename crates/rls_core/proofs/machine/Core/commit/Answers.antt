use Rattle.std.proofs.Common.{◌∙◌}
use Rattle.rls_core.proofs.RefusalLemmas.{commit_adds}
use Rattle.rls_core.proofs.machine.Core.commit.Goals as goal

pub returns-in-Ok-clause-number : goal.returns-in-Ok-clause-number
returns-in-Ok-clause-number c = c.commits.ensures ∙ commit_adds c.args.self.now c.seal.new.self c.args.txn c.in-Ok.ensures.ok.it c.in-Ok.ensures.ok.may c.seal.ensures

pub returns-in-Ok-clause-may : goal.returns-in-Ok-clause-may
returns-in-Ok-clause-may c = (c.in-Ok.ensures.ok.it, c.in-Ok.ensures.ok.may)
