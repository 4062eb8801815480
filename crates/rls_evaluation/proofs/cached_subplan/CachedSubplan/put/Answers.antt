use Rattle.std.proofs.Common.{refl, ap, ◌∙◌, cond}
use Rattle.std.specs.Prelude.{Some}
use Rattle.std.specs.{BTreeMap.is_at, Cmp.Lexicographic.slice_cmp}
use Rattle.rls_value.specs.Values.{listed}
use Rattle.rls_evaluation.specs.CachedSubplans.{answer_for}
use Rattle.rls_evaluation.specs.OuterColumns.{outer_values}
use Rattle.rls_evaluation.specs.Scoping.{env_of}
use Rattle.rls_evaluation.proofs.cached_subplan.CachedSubplan.put.Goals as goal

pub returns-in_ok-insert-in-Ok : goal.returns-in_ok-insert-in-Ok
returns-in_ok-insert-in-Ok c = record {
  at = refl;
  query = refl;
  columns = refl;
  kept = refl;
  answers = λ other.
      c.in_ok-insert-in-Ok.ensures.updates.0 other ∙ ap (λ values. cond (is_at (slice_cmp listed values) other) (Some c.args.answer) (answer_for c.args.self.now other))
      (c.in-Ok.ensures ∙ ap (λ columns. outer_values columns (env_of c.args.env.now)) c.as_slice.ensures.value);
}
