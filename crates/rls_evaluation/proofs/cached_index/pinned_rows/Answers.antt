use Rattle.std.proofs.Common.{ap, sym, ◌∙◌, ◌≡◌}
use Rattle.std.specs.Prelude.{Some}
use Rattle.std.proofs.lemmas.Result.{IfOk-weaker}
use Rattle.rls_evaluation.specs.Keys.{pinned}
use Rattle.rls_evaluation.specs.Scoping.{env_of}
use Rattle.rls_evaluation.proofs.CachedIndexLemmas.{all_left, left_as}
use Rattle.rls_evaluation.proofs.MatchingLemmas.{unmet}
use Rattle.rls_evaluation.proofs.cached_index.pinned_rows.Goals as goal

pub returns-in-Ok-Some-clause-left : goal.returns-in-Ok-Some-clause-left
returns-in-Ok-Some-clause-left c =
    let are : pinned c.args.columns.items c.args.condition.now (env_of c.args.env.now) ≡ Some c.in-Ok-Some.values =
    ap (λ columns. pinned columns c.args.condition.now (env_of c.args.env.now)) (sym c.as_slice.ensures.value) ∙ sym c.in-Ok-Some.ensures ∙ c.in-Ok-Some.field-0-is in
    IfOk-weaker c.rows_equal-found.result _ _
    (λ it left. λ relations user s indexed given. left_as _ _ c.args.rows.now it (λ row off. unmet c.args.columns.items c.in-Ok-Some.values c.args.condition.now (env_of c.args.env.now) row are c.requires off) (left relations user s indexed given))
    c.rows_equal-found.ensures.left

pub returns-in-Ok-None-clause-left : goal.returns-in-Ok-None-clause-left
returns-in-Ok-None-clause-left c = IfOk-weaker c.share.result _ _ (λ it same. λ relations user s indexed given. all_left _ c.args.rows.now it same) c.share.ensures
