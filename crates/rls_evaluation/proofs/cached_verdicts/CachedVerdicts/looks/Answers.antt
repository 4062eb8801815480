use Rattle.rls_evaluation.proofs.cached_verdicts.CachedVerdicts.looks.Goals as goal

pub returns-then-rests : goal.returns-then-rests
returns-then-rests c = λ quals relations user s read_set was. record { named = was.named; each = was.each }

pub returns : goal.returns
returns c = λ quals relations user s read_set was. record { named = was.named; each = was.each }
