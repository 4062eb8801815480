use Rattle.std.proofs.Common.{◌∙◌}
use Rattle.rls_script.proofs.LimitLemmas.{words_limit}
use Rattle.rls_script.proofs.connect.limit_passed.Goals as goal

-- the limit that the parser answers, where it is on words, is the one that they pass
pub returns-in-Err-Limit : goal.returns-in-Err-Limit
returns-in-Err-Limit c = c.on_words.ensures ∙ words_limit _ _ c.in-Err-Limit.limit (cc) (c.in-Err-Limit.ensures.answer (λ e. cc))
