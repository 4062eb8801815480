use Rattle.rls_history.proofs.OrderLemmas.{order_means, order_exactly}
use Rattle.rls_history.proofs.orders.orders_mean.Goals as goal

pub returns-clause-means : goal.returns-clause-means
returns-clause-means c = order_means

pub returns-clause-tested : goal.returns-clause-tested
returns-clause-tested c = order_exactly
