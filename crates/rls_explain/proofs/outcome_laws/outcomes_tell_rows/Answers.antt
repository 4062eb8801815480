use Rattle.rls_explain.proofs.OutcomeLawLemmas.{met_qualify, scans_qualify}
use Rattle.rls_explain.proofs.outcome_laws.outcomes_tell_rows.Goals as goal

pub returns-clause-met : goal.returns-clause-met
returns-clause-met c = met_qualify

pub returns-clause-scans : goal.returns-clause-scans
returns-clause-scans c = scans_qualify
