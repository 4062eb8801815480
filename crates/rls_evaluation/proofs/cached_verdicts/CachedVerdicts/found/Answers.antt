use Rattle.std.proofs.Common.{ap, ◌∙◌}
use Rattle.rls_evaluation.specs.CachedVerdicts.{verdict_for}
use Rattle.rls_evaluation.specs.Environments.{over}
use Rattle.rls_evaluation.specs.OuterColumns.{outer_values}
use Rattle.rls_evaluation.proofs.CachedVerdictLemmas.{found_told}
use Rattle.rls_evaluation.proofs.cached_verdicts.CachedVerdicts.found.Goals as goal

pub returns : goal.returns
returns c =
    found_told c.copied-found.result _ _
    (c.get-kept.ensures.value ∙ ap (verdict_for c.args.self.now) (c.in_ok-values.ensures ∙ ap (λ columns. outer_values columns (over c.args.user.now c.args.row.now)) c.as_slice.ensures.value)) c.copied-found.ensures
