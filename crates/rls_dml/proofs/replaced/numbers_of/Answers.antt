use Rattle.std.proofs.Common.{subst, map, ◌∙◌}
use Rattle.std.specs.BTreeSet.{IsFromIterResult}
use Rattle.std.proofs.IntoIterSteps.{All-taken}
use Rattle.rls_guard.specs.rls_catalog.specs.State.{id_order}
use Rattle.rls_dml.proofs.NumberLemmas.{set_of_numbers}
use Rattle.rls_dml.proofs.replaced.numbers_of.Goals as goal

pub returns : goal.returns
returns c =
    let h = c.in_ok-from_iter.ensures.ran in
    let taken = All-taken h.0 h.1 ((h.3.2 tt).0, (h.3.0, h.3.1, (h.3.2 tt).1)) ∙ h.2.0 ∙ c.in_ok-listed.ensures in
    set_of_numbers (map (λ row. row.now) c.args.rows.now) c.in_ok-from_iter.field-0 (subst (λ ids. IsFromIterResult id_order ids c.in_ok-from_iter.field-0) taken h.4)
