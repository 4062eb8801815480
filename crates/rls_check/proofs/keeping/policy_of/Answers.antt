use Rattle.std.proofs.Common.{sym}
use Rattle.rls_value.specs.declared.refusal.Refusal.TheVariants.{Syntax}
use Rattle.rls_check.proofs.KeepingLemmas.{no_other}
use Rattle.rls_check.proofs.keeping.policy_of.Goals as goal

pub returns-in-None : goal.returns-in-None
returns-in-None c = no_other c.args.table.now c.args.text.now c.in_ok-statement.statement Syntax c.requires c.in_ok-statement.ensures.alone (sym c.in-None.ensures)
