use Rattle.std.proofs.Common.{refl, ap, cond, not, true, ◌∙◌, ◌||◌}
use Rattle.std.specs.BTreeMap.{is_at}
use Rattle.std.specs.List.{list_any}
use Rattle.rls_value.specs.Values.{listed}
use Rattle.rls_evaluation.proofs.ValueSetLemmas.{set_more}
use Rattle.rls_evaluation.proofs.value_set.ValueSet.add.Goals as goal

pub returns : goal.returns
returns c = set_more c.args.self.now _ c.args.value
    (λ x. c.in_ok-insert.ensures.updates.0 x ∙ ap (λ value. cond (is_at (listed value) x) true (list_any (is_at (listed x)) c.args.self.now.values.keys)) c.wide_of.ensures)
    refl
    (c.either-self.ensures ∙ ap (λ b. c.args.self.now.not_numbers || not b) c.is_number.ensures)
    (c.either-self-2.ensures ∙ ap (λ b. c.args.self.now.not_texts || not b) c.is_text.ensures)
    (c.either-self-3.ensures ∙ ap (λ b. c.args.self.now.not_flags || not b) c.is_flag.ensures)
