use Rattle.rls_evaluation.proofs.cached_subplan.CachedSubplan.pass.Goals as goal

pub returns : goal.returns
returns c = λ relations user s read_set was. record { named = was.named; each = was.each }
