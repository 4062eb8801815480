use Rattle.std.proofs.Common.{sym, ap, ◌∙◌}
use Rattle.rls_evaluation.specs.ValueSets.{finds, three}
use Rattle.rls_evaluation.specs.Scoping.{datum_value}
use Rattle.rls_evaluation.proofs.ValueSetLemmas.{set_truth}
use Rattle.rls_evaluation.proofs.value_set.ValueSet.truth.Goals as goal

pub returns : goal.returns
returns c items is same =
    c.three.ensures ∙ (λ i. three ((c.finds.ensures ∙ ap (finds c.args.self.now) same) i) (c.lets_open.ensures i)) ∙ sym (set_truth c.args.self.now items (datum_value c.args.datum.now) is)
