use Rattle.std.proofs.Common.{rules, refl, ◌∙◌, ◌≡◌, ◌++◌, ◌∷◌, [], map}
use Rattle.std.specs.Prelude.{List, Ok}
use Rattle.rls_evaluation.specs.rls_source.specs.Askings.{followed_by, known}
use Rattle.rls_value.specs.declared.value.Value.{Value}
use Rattle.rls_evaluation.specs.Eval.{value_of}
use Rattle.rls_evaluation.specs.Scoping.{env_of, datum_value}
use Rattle.rls_evaluation.specs.Showing.{shows}
use Rattle.rls_judging.specs.Valuing.{values_on, with_value}
use Rattle.rls_judging.specs.Handed.{datum_values}
use Rattle.rls_judging.proofs.RowLemmas.{mapped_turn}
use Rattle.rls_judging.proofs.ValueLemmas.{mapped_more}
use Rattle.rls_judging.proofs.valuing.put_values.Goals as goal

pub loop-expr-preserved : goal.loop-expr-preserved
loop-expr-preserved g c =
    let added : c.push.new.self.items ≡ c.loop-expr.values.items ++ c.in_ok-datum.datum ∷ [] = search rules in
    let sees = shows c.args.relations.now c.args.env.now.user.now in
    record {
      stands = c.in_ok-datum.ensures.tells.stands ∙ c.loop-expr.invariant.stands;
      leads = mapped_turn (followed_by (values_on (map (λ assignment. assignment.1) c.args.assignments.now) sees (env_of c.args.env.now)) (λ given. known (Ok (datum_values c.args.values.now ++ given)))) (λ (rest : List Value). datum_values c.loop-expr.values ++ rest) (λ (rest : List Value). datum_values c.push.new.self ++ rest) with_value []
          (λ term. value_of term sees (env_of c.args.env.now)) (λ assignment. assignment.1) c.args.assignments.now c.loop-expr.expr-index c.loop-expr-item.result (datum_value c.in_ok-datum.datum) _ _ _ _ _ _ c.loop-expr-test.true c.loop-expr-item.is
          (λ rest. mapped_more datum_value c.loop-expr.values.items c.push.new.self.items c.in_ok-datum.datum (datum_value c.in_ok-datum.datum) rest added refl)
          c.loop-expr.invariant.stands c.loop-expr.invariant.leads c.in_ok-datum.ensures.tells;
      holds = c.in_ok-datum.ensures.holds;
    }
