use Rattle.rls_laws.proofs.{Ending.stays_in_order, Fitting.opening_stands, Recording.after_in_order}
use Rattle.rls_laws.proofs.order.lists_stay_in_order.Goals as goal

pub returns-clause-opening : goal.returns-clause-opening
returns-clause-opening c = opening_stands.ordered

pub returns-clause-step : goal.returns-clause-step
returns-clause-step c = stays_in_order c.statement_means.ensures

pub returns-clause-events : goal.returns-clause-events
returns-clause-events c = after_in_order c.statement_means.ensures
