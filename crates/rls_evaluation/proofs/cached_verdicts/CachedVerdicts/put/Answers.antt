use Rattle.std.proofs.Common.{ap, ◌∙◌, cond}
use Rattle.std.specs.Prelude.{Some}
use Rattle.std.specs.{BTreeMap.is_at, Cmp.Lexicographic.slice_cmp}
use Rattle.rls_value.specs.Values.{listed}
use Rattle.rls_evaluation.specs.CachedVerdicts.{verdict_for}
use Rattle.rls_evaluation.specs.Environments.{over}
use Rattle.rls_evaluation.specs.OuterColumns.{outer_values}
use Rattle.rls_evaluation.proofs.cached_verdicts.CachedVerdicts.put.Goals as goal

pub returns-in_ok-insert-in-Ok-clause-put : goal.returns-in_ok-insert-in-Ok-clause-put
returns-in_ok-insert-in-Ok-clause-put c = λ values.
    c.in_ok-insert-in-Ok.ensures.updates.0 values ∙ ap (λ mine. cond (is_at (slice_cmp listed mine) values) (Some c.args.verdict) (verdict_for c.args.self.now values))
    (c.in-Ok.ensures ∙ ap (λ columns. outer_values columns (over c.args.user.now c.args.row.now)) c.as_slice.ensures.value)
