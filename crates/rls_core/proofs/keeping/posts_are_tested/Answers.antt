use Rattle.rls_core.proofs.PostLemmas.{posts_tested}
use Rattle.rls_core.proofs.keeping.posts_are_tested.Goals as goal

pub returns : goal.returns
returns c = posts_tested c.words_are_told.ensures.common
