use Rattle.std.proofs.Common.{sym, ◌∙◌, subst, IfOk}
use Rattle.rls_text.specs.Commands.{AnswersCommand, IsCommandSpelled}
use Rattle.rls_text.proofs.CommandLaws.{is_command_answer, ok_is_spelled, command_low, command_few}
use Rattle.rls_text.proofs.parsing.parse_command.Goals as goal

pub returns-clause-ok : goal.returns-clause-ok
returns-clause-ok c = subst (λ ts. IfOk c.command_answer.result (λ x. IsCommandSpelled ts x)) (c.as_slice.ensures.value ∙ c.in_ok-tokens.ensures)
    (ok_is_spelled c.command_answer.result c.as_slice.result.now c.command_answer.ensures)

pub returns-clause-answer : goal.returns-clause-answer
returns-clause-answer c = λ h. subst (λ ts. AnswersCommand ts c.command_answer.result) (c.as_slice.ensures.value ∙ c.in_ok-tokens.ensures)
    (subst (λ r. AnswersCommand c.as_slice.result.now r) (sym (c.command_answer.ensures h)) (is_command_answer c.as_slice.result.now))

pub returns-clause-within : goal.returns-clause-within
returns-clause-within c = command_low c.command_answer.result c.as_slice.result.now (ok_is_spelled c.command_answer.result c.as_slice.result.now c.command_answer.ensures)

pub returns-clause-few : goal.returns-clause-few
returns-clause-few c = command_few c.command_answer.result c.as_slice.result.now (ok_is_spelled c.command_answer.result c.as_slice.result.now c.command_answer.ensures)
