use Rattle.rlsdb.proofs.CommandLemmas.{migrated_apart}
use Rattle.rlsdb.proofs.commands.migrate.Goals as goal

-- a file took the audit, and nothing is written
pub returns : goal.returns
returns g c = migrated_apart c.args.from c.args.to c.is_output.result c.args.output.now.taken.bytes c.in_ok-file.file.taken.bytes c.is_output.ensures c.if-is_output.false c.in_ok-file.ensures.audit
