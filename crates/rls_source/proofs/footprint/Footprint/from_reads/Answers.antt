use Rattle.std.proofs.Common.{rules, subst, ◌∙◌}
use Rattle.std.specs.BTreeSet.{IsFromIterResult}
use Rattle.std.proofs.IntoIterSteps.{All-taken}
use Rattle.rls_catalog.specs.rls_value.specs.Objects.{object_order}
use Rattle.rls_source.proofs.FootprintOrderLaws.{set_of_reads}
use Rattle.rls_source.proofs.footprint.Footprint.from_reads.Goals as goal

pub returns : goal.returns
returns c =
    let h = c.in_ok-from_iter.ensures.ran in
    let taken = All-taken h.0 h.1 ((h.3.2 tt).0, (h.3.0, h.3.1, (h.3.2 tt).1)) ∙ h.2.0 ∙ c.into_vec.ensures in
    set_of_reads c.args.reads c.in_ok-from_iter.field-0 (subst (λ reads. IsFromIterResult object_order reads c.in_ok-from_iter.field-0) taken h.4)
