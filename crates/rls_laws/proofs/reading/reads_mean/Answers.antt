use Rattle.rls_laws.proofs.StatementReads.{footprint_told, reads_told}
use Rattle.rls_laws.proofs.reading.reads_mean.Goals as goal

pub returns-clause-reads : goal.returns-clause-reads
returns-clause-reads c = reads_told c.expansion_means.ensures

pub returns-clause-footprint : goal.returns-clause-footprint
returns-clause-footprint c = footprint_told c.expansion_means.ensures
