use Rattle.std.proofs.Common.{sym, subst}
use Rattle.shared_map.specs.Entries.{Ascend}
use Rattle.shared_map.proofs.Left.{left_at_first}
use Rattle.shared_map.proofs.map.SharedMap.iter.Goals as goal

pub invariant_of-result : goal.invariant_of-result
invariant_of-result g c = subst (Ascend g.K.Ord.cmp) (sym (left_at_first g.met.K.Ord.total _ c.first_run.ensures.ordered _ c.first_run.ensures.run)) c.first_run.ensures.ordered

pub returns-clause-left : goal.returns-clause-left
returns-clause-left g c = left_at_first g.met.K.Ord.total _ c.first_run.ensures.ordered _ c.first_run.ensures.run
