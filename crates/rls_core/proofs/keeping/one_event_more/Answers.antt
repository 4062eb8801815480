use Rattle.rls_core.proofs.WorldLemmas.{one_more}
use Rattle.rls_core.proofs.keeping.one_event_more.Goals as goal

pub returns : goal.returns
returns c = one_more
