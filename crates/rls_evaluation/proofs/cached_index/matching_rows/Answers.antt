use Rattle.std.proofs.lemmas.Result.{IfOk-weaker}
use Rattle.rls_evaluation.proofs.CachedIndexLemmas.{all_left}
use Rattle.rls_evaluation.proofs.cached_index.matching_rows.Goals as goal

pub returns-in_ok-push-in-None-clause-left : goal.returns-in_ok-push-in-None-clause-left
returns-in_ok-push-in-None-clause-left c = IfOk-weaker c.share.result _ _ (λ it same. λ relations user s indexed given full. all_left _ c.args.rows.now it same) c.share.ensures
