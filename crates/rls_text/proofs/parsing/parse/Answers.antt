use Rattle.std.proofs.Common.{sym, ◌∙◌, subst, IfOk}
use Rattle.rls_text.specs.ParseResults.{IsParseResult, IsSpelled}
use Rattle.rls_text.proofs.Laws.{is_answer, ok_spelled, ok_low, ok_few}
use Rattle.rls_text.proofs.parsing.parse.Goals as goal

pub returns-clause-ok : goal.returns-clause-ok
returns-clause-ok c = subst (λ ts. IfOk c.answer.result (λ x. IsSpelled ts x)) (c.as_slice.ensures.value ∙ c.in_ok-tokens.ensures)
    (ok_spelled c.answer.result c.as_slice.result.now c.answer.ensures)

pub returns-clause-answer : goal.returns-clause-answer
returns-clause-answer c = λ h. subst (λ ts. IsParseResult ts c.answer.result) (c.as_slice.ensures.value ∙ c.in_ok-tokens.ensures)
    (subst (λ r. IsParseResult c.as_slice.result.now r) (sym (c.answer.ensures h)) (is_answer c.as_slice.result.now))

pub returns-clause-within : goal.returns-clause-within
returns-clause-within c = ok_low c.answer.result c.as_slice.result.now (ok_spelled c.answer.result c.as_slice.result.now c.answer.ensures)

pub returns-clause-few : goal.returns-clause-few
returns-clause-few c = ok_few c.answer.result c.as_slice.result.now (ok_spelled c.answer.result c.as_slice.result.now c.answer.ensures)
