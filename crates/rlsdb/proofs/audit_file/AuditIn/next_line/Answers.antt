use Rattle.rlsdb.proofs.LineLemmas.{line_read}
use Rattle.rlsdb.proofs.audit_file.AuditIn.next_line.Goals as goal

pub returns-in-Some-eq10-clause-line : goal.returns-in-Some-eq10-clause-line
returns-in-Some-eq10-clause-line g c = line_read _ _ _ _ _ _ c.loop.invariant c.in_ok-next_byte.ensures.byte c.in-Some-eq10.is c.in-Some-eq10.field-0-test
