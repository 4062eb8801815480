use Rattle.std.proofs.Common.{◌∙◌, ◌++◌, ◌∷◌, [], map}
use Rattle.std.specs.Prelude.{List, Ok}
use Rattle.rls_value.specs.declared.value.Value.{Value}
use Rattle.rls_evaluation.specs.Environments.{over}
use Rattle.rls_evaluation.specs.Scoping.{rows_in}
use Rattle.rls_evaluation.specs.Showing.{shows}
use Rattle.rls_judging.specs.Valuing.{values_on, values_set, with_row_values}
use Rattle.rls_judging.specs.Handed.{datum_values}
use Rattle.rls_judging.proofs.RowLemmas.{mapped_turn, told_before}
use Rattle.rls_judging.proofs.ValueLemmas.{values_more, told_over}
use Rattle.rls_judging.proofs.valuing.values_set.Goals as goal

pub loop-stored-preserved : goal.loop-stored-preserved
loop-stored-preserved g c =
    let sees = shows c.args.relations.now c.args.role.now in
    let terms = map (λ assignment. assignment.1) c.args.assignments.now in
    let parts = told_before (values_on terms sees (record { user = c.args.role.now; rows = c.row.result.now ∷ rows_in c.args.nothing.now })) (λ (given : List Value). datum_values c.loop-stored.values ++ given)
    _ _ _ _ (datum_values c.put_values.new.values) c.in_ok-put_values.ensures.tells in
    record {
      stands = c.in_ok-put_values.ensures.tells.stands ∙ c.loop-stored.invariant.stands;
      leads = mapped_turn (values_set c.args.relations.now c.args.role.now c.args.assignments.now (map (λ row. row.now) c.args.rows.now)) (λ (rest : List Value). datum_values c.loop-stored.values ++ rest) (λ (rest : List Value). datum_values c.put_values.new.values ++ rest) with_row_values []
          (λ stored. values_on terms sees (over c.args.role.now stored.row)) (λ row. row.now) c.args.rows.now c.loop-stored.stored-index c.stored-item.result parts.0 _ _ _ _ _ _ c.loop-stored-test.true c.stored-item.is
          (λ rest. values_more (datum_values c.loop-stored.values) (datum_values c.put_values.new.values) parts.0 rest parts.1.1)
          c.loop-stored.invariant.stands c.loop-stored.invariant.leads
          (told_over terms sees c.args.role.now c.row.result.now c.stored-item.result.now.row (rows_in c.args.nothing.now) _ _ _ _ (Ok parts.0) c.row.ensures c.requires.nothing parts.1.0);
      holds = c.in_ok-put_values.ensures.holds;
    }
