use Rattle.rls_recursion.proofs.SearchLaws.{recursion_means}
use Rattle.rls_recursion.proofs.laws.search_means.Goals as goal

pub returns-clause-recursion : goal.returns-clause-recursion
returns-clause-recursion c = recursion_means
