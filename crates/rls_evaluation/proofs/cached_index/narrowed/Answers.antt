use Rattle.std.proofs.lemmas.Result.{IfOk-weaker}
use Rattle.rls_evaluation.proofs.CachedIndexLemmas.{all_left}
use Rattle.rls_evaluation.proofs.cached_index.narrowed.Goals as goal

pub returns-then-as_slice-lt-FEW-clause-left : goal.returns-then-as_slice-lt-FEW-clause-left
returns-then-as_slice-lt-FEW-clause-left c = IfOk-weaker c.share-then-as_slice-lt-FEW.result _ _ (λ it same. λ relations user s indexed given. all_left _ c.args.rows.now it same) c.share-then-as_slice-lt-FEW.ensures

pub returns-then-is_empty-clause-left : goal.returns-then-is_empty-clause-left
returns-then-is_empty-clause-left c = IfOk-weaker c.share-then-is_empty.result _ _ (λ it same. λ relations user s indexed given. all_left _ c.args.rows.now it same) c.share-then-is_empty.ensures

pub returns-in-None-clause-left : goal.returns-in-None-clause-left
returns-in-None-clause-left c = IfOk-weaker c.share.result _ _ (λ it same. λ relations user s indexed given. all_left _ c.args.rows.now it same) c.share.ensures
