use Rattle.rls_history.specs.Numbers.{setup}
use Rattle.rls_history.proofs.NumbersLemmas.{numbers_lawful, numbers_set_up}
use Rattle.rls_history.proofs.numbers.numbers_are_serial.Goals as goal

pub committed_are_serial-requires : goal.committed_are_serial-requires
committed_are_serial-requires c = numbers_lawful

pub returns-clause-lawful : goal.returns-clause-lawful
returns-clause-lawful c = numbers_lawful

pub returns-clause-set_up : goal.returns-clause-set_up
returns-clause-set_up c = numbers_set_up

-- by the law
pub returns-clause-order : goal.returns-clause-order
returns-clause-order c events = c.committed_are_serial.ensures.order setup 1 events numbers_set_up

pub returns-clause-explains : goal.returns-clause-explains
returns-clause-explains c events = c.committed_are_serial.ensures.explains setup 1 events numbers_set_up
