use Rattle.std.proofs.Common.{ap, ◌∙◌}
use Rattle.rls_evaluation.specs.CachedSubplans.{answer_for}
use Rattle.rls_evaluation.specs.OuterColumns.{outer_values}
use Rattle.rls_evaluation.specs.Scoping.{env_of}
use Rattle.rls_evaluation.proofs.cached_subplan.CachedSubplan.answer.Goals as goal

pub returns : goal.returns
returns c = c.get-answer.ensures.value ∙ ap (answer_for c.args.self.now) (c.in_ok-values.ensures ∙ ap (λ columns. outer_values columns (env_of c.args.env.now)) c.as_slice.ensures.value)
