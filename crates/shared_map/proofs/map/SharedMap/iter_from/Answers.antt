use Rattle.std.proofs.Common.{sym, subst}
use Rattle.shared_map.specs.Entries.{Ascend}
use Rattle.shared_map.proofs.Left.{ascend_from, left_from}
use Rattle.shared_map.proofs.map.SharedMap.iter_from.Goals as goal

pub invariant_of-result : goal.invariant_of-result
invariant_of-result g c =
    subst (Ascend g.K.Ord.cmp) (sym (left_from g.met.K.Ord.total _ c.run_from.ensures.ordered _ _ c.run_from.ensures.run)) (ascend_from g.met.K.Ord.total _ c.run_from.ensures.ordered _)

pub returns-clause-left : goal.returns-clause-left
returns-clause-left g c = left_from g.met.K.Ord.total _ c.run_from.ensures.ordered _ _ c.run_from.ensures.run

pub returns-clause-left_ordered : goal.returns-clause-left_ordered
returns-clause-left_ordered g c =
    subst (Ascend g.K.Ord.cmp) (sym (left_from g.met.K.Ord.total _ c.run_from.ensures.ordered _ _ c.run_from.ensures.run)) (ascend_from g.met.K.Ord.total _ c.run_from.ensures.ordered _)
