use Rattle.rls_evaluation.proofs.cached_subplan.CachedSubplan.count.Goals as goal

pub returns-clause-same : goal.returns-clause-same
returns-clause-same c relations user s read_set was = record { named = was.named; each = was.each }

pub returns-clause-is_for : goal.returns-clause-is_for
returns-clause-is_for c from asks q was = record { at = was.at; kind = was.kind; query = was.query }
