use Rattle.rls_history.proofs.OrderLemmas.{first_next, second_next, third_next, in_turn_push, placed_by_push, left_falls, order_exists}
use Rattle.rls_history.specs.Orders.{none_placed}
use Rattle.rls_history.proofs.orders.orders_are_made.Goals as goal

pub returns-clause-first : goal.returns-clause-first
returns-clause-first c h placed first is free left none = first_next h is free placed first left none

pub returns-clause-second : goal.returns-clause-second
returns-clause-second c h placed first second is free left reader none = second_next h is free placed first second left reader none

pub returns-clause-third : goal.returns-clause-third
returns-clause-third c h placed first second third is free left reader further = third_next h is free placed first second third left reader further

pub returns-clause-grows : goal.returns-clause-grows
returns-clause-grows c h order t turns next = in_turn_push h none_placed order t turns next

pub returns-clause-placed : goal.returns-clause-placed
returns-clause-placed c order t = placed_by_push none_placed order t

pub returns-clause-fewer : goal.returns-clause-fewer
returns-clause-fewer c h placed t next = left_falls placed t h.count next.within next.is_left

pub returns-clause-exists : goal.returns-clause-exists
returns-clause-exists c h is free = order_exists h is free
