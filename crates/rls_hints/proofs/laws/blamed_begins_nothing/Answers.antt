use Rattle.rls_hints.proofs.Blaming.{rightly_blamed}
use Rattle.rls_hints.proofs.laws.blamed_begins_nothing.Goals as goal

pub returns : goal.returns
returns c = rightly_blamed
