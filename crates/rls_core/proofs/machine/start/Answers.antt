use Rattle.std.proofs.Common.{◌≡◌, ◌∙◌, sym}
use Rattle.rls_core.proofs.CallLemmas.{goes_back}
use Rattle.rls_core.proofs.machine.start.Goals as goal

pub returns-in-Ok-clause-kept : goal.returns-in-Ok-clause-kept
returns-in-Ok-clause-kept c = goes_back c.args.conflicts.now c.begin.new.self c.rollback.new.self c.args.txn _ c.requires.fresh c.in-Ok.ensures.ok c.rollback.ensures
