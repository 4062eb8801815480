use Rattle.std.proofs.Common.{rules, refl, ◌∙◌, ◌≡◌, ◌++◌, ◌∷◌, [], map}
use Rattle.std.specs.Prelude.{List, Ok}
use Rattle.rls_value.specs.declared.value.Value.{Value}
use Rattle.rls_evaluation.specs.Environments.{alone}
use Rattle.rls_evaluation.specs.Showing.{shows}
use Rattle.rls_evaluation.proofs.LoopLemmas.{rows_turn}
use Rattle.rls_judging.specs.Valuing.{values_on, values_put, with_values}
use Rattle.rls_judging.specs.Handed.{datum_values}
use Rattle.rls_judging.proofs.ValueLemmas.{mapped_more, told_alike}
use Rattle.rls_judging.proofs.valuing.values_put.Goals as goal

pub loop-tuple-preserved : goal.loop-tuple-preserved
loop-tuple-preserved g c =
    let added : c.push.new.self.items ≡ c.loop-tuple.all.items ++ c.in_ok-values.values ∷ [] = search rules in
    let sees = shows c.args.relations.now c.args.role.now in
    record {
      stands = c.in_ok-values.ensures.tells.stands ∙ c.loop-tuple.invariant.stands;
      leads = rows_turn (values_put c.args.relations.now c.args.role.now c.args.tuples.now) (λ (rest : List (List Value)). map datum_values c.loop-tuple.all.items ++ rest) (λ (rest : List (List Value)). map datum_values c.push.new.self.items ++ rest) with_values []
          (λ tuple. values_on tuple sees (alone c.args.role.now)) c.args.tuples.now c.loop-tuple.tuple-index c.tuple-item.result (datum_values c.in_ok-values.values) _ _ _ _ _ _ c.loop-tuple-test.true c.tuple-item.is
          (λ rest. mapped_more datum_values c.loop-tuple.all.items c.push.new.self.items c.in_ok-values.values (datum_values c.in_ok-values.values) rest added refl)
          c.loop-tuple.invariant.stands c.loop-tuple.invariant.leads
          (told_alike c.tuple-item.result c.as_slice.result.now sees (alone c.args.role.now) _ _ _ _ (Ok (datum_values c.in_ok-values.values)) c.as_slice.ensures c.in_ok-values.ensures.tells);
      holds = c.in_ok-values.ensures.holds;
    }
