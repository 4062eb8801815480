use Rattle.rls_siread.proofs.WideningLaws.{notes_widen}
use Rattle.rls_siread.proofs.laws.notes_only_widen.Goals as goal

pub returns : goal.returns
returns c = notes_widen
