use Rattle.rls_guard.proofs.ResolvedLaws.{named_known, resolved_one}
use Rattle.rls_guard.proofs.laws.resolved_subquery_means.Goals as goal

pub returns-clause-known : goal.returns-clause-known
returns-clause-known c = named_known

pub returns-clause-one_row : goal.returns-clause-one_row
returns-clause-one_row c = resolved_one
