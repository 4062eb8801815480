use Rattle.rls_history.proofs.StructureLemmas.{dangerous_exactly, safe_exactly, dangerous_finds, reader_is_first, idle_is_safe}
use Rattle.rls_history.proofs.structures.structures_are_found.Goals as goal

pub returns-clause-exactly : goal.returns-clause-exactly
returns-clause-exactly c = dangerous_exactly

pub returns-clause-safe : goal.returns-clause-safe
returns-clause-safe c = safe_exactly

pub returns-clause-finds : goal.returns-clause-finds
returns-clause-finds c = dangerous_finds

pub returns-clause-reader : goal.returns-clause-reader
returns-clause-reader c h n is nothing it = reader_is_first h is n nothing it

pub returns-clause-idle : goal.returns-clause-idle
returns-clause-idle c h n is nothing unread it = idle_is_safe h is n nothing unread it
