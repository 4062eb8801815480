use Rattle.std.proofs.lemmas.Result.{IfOk-weaker}
use Rattle.rls_evaluation.proofs.CachedIndexLemmas.{all_left}
use Rattle.rls_evaluation.proofs.cached_index.CachedIndex.rows_with.Goals as goal

pub returns-in-None : goal.returns-in-None
returns-in-None c = IfOk-weaker c.share.result _ _ (λ it same. λ made full. all_left _ c.args.rows.now it same) c.share.ensures
