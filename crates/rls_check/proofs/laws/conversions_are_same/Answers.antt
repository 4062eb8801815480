use Rattle.rls_check.proofs.ConvertedLemmas.{audit_one, conversion_same}
use Rattle.rls_check.proofs.OneFindingLemmas.{finding_once}
use Rattle.rls_check.proofs.laws.conversions_are_same.Goals as goal

pub returns-clause-one : goal.returns-clause-one
returns-clause-one c = audit_one

pub returns-clause-converted : goal.returns-clause-converted
returns-clause-converted c = conversion_same

pub returns-clause-found : goal.returns-clause-found
returns-clause-found c = finding_once
