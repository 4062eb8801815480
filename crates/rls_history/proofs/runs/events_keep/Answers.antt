use Rattle.rls_history.proofs.WorldLemmas.{after_holds, ordered_after}
use Rattle.rls_history.proofs.NumberLemmas.{after_numbered}
use Rattle.rls_history.proofs.runs.events_keep.Goals as goal

pub returns-clause-holds : goal.returns-clause-holds
returns-clause-holds g c setup first events set_up = after_holds g.D.Database.conditions c.requires setup set_up first events

pub returns-clause-ordered : goal.returns-clause-ordered
returns-clause-ordered g c setup first events set_up = ordered_after g.D.Database.conditions c.requires setup set_up first events

pub returns-clause-numbers : goal.returns-clause-numbers
returns-clause-numbers g c setup first events set_up = after_numbered setup g.D.Database.conditions.number_of c.requires.numbered first events
