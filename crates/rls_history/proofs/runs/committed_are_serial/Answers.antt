use Rattle.rls_history.proofs.WorldLemmas.{order_after, explains_after, snapshots_after}
use Rattle.rls_history.proofs.runs.committed_are_serial.Goals as goal

pub returns-clause-order : goal.returns-clause-order
returns-clause-order g c setup first events set_up = order_after g.D.Database.conditions c.requires setup set_up first events

pub returns-clause-explains : goal.returns-clause-explains
returns-clause-explains g c setup first events set_up = explains_after g.D.Database.conditions c.requires setup set_up first events

pub returns-clause-snapshots : goal.returns-clause-snapshots
returns-clause-snapshots g c setup first events set_up = snapshots_after g.D.Database.conditions c.requires setup set_up first events
