use Rattle.rls_laws.proofs.Ending.{effect_shown, refusal_audited}
use Rattle.rls_laws.proofs.Explained.{audit_first, audit_shown}
use Rattle.rls_laws.proofs.Recording.{after_shown}
use Rattle.rls_laws.proofs.refusing.effects_are_shown.Goals as goal

pub returns-clause-refused : goal.returns-clause-refused
returns-clause-refused c = refusal_audited c.statement_means.ensures

pub returns-clause-shown : goal.returns-clause-shown
returns-clause-shown c = effect_shown c.statement_means.ensures

pub returns-clause-events : goal.returns-clause-events
returns-clause-events c = after_shown c.statement_means.ensures

pub returns-clause-audits : goal.returns-clause-audits
returns-clause-audits c = audit_shown

pub returns-clause-keys : goal.returns-clause-keys
returns-clause-keys c = audit_first
