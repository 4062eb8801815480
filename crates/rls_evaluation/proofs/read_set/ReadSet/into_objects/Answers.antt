use Rattle.std.proofs.Common.{sym, subst, ◌∙◌}
use Rattle.rls_source.specs.Footprints.{IsInOrder}
use Rattle.rls_source.proofs.FootprintOrderLaws.{footprint_ordered}
use Rattle.rls_evaluation.proofs.read_set.ReadSet.into_objects.Goals as goal

pub returns-then-ascend : goal.returns-then-ascend
returns-then-ascend c =
    c.into_vec.ensures ∙ sym (footprint_ordered c.self.inside.reads (subst IsInOrder c.as_slice.ensures (c.ascend.ensures c.if-ascend.true))) ∙ c.self.view_is
