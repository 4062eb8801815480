use Rattle.rls_conflict.proofs.WriterLemmas.{free_or_written, writer_named}
use Rattle.rls_conflict.proofs.writers.writers_are_named.Goals as goal

pub returns-clause-free : goal.returns-clause-free
returns-clause-free c = free_or_written

pub returns-clause-named : goal.returns-clause-named
returns-clause-named c = writer_named
