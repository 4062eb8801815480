use Rattle.std.specs.Prelude.{◌≡◌, Result, Err}
use Rattle.std.proofs.Common.{rules, subst}
use Rattle.rls_value.specs.declared.refusal.Refusal.{Refusal}
use Rattle.rls_value.specs.declared.refusal.Refusal.TheVariants.{NoMemory}
use Rattle.rls_statement.specs.{declared.command.Command.Command, Commands.statement_of}
use Rattle.rls_text.specs.{Commands.AnswersCommand, Commands.IsCommandSpelled, Words.words_of}
use Rattle.rls_audit_lines.proofs.AskedLemmas.{asked_answered, not_asked}
use Rattle.rls_audit_lines.proofs.reading.is_statement.Goals as goal

pub returns-in-Ok : goal.returns-in-Ok
returns-in-Ok c =
    let command = c.in-Ok.command in
    (statement_of command, asked_answered (words_of c.args.text.now) command (subst (λ t. IsCommandSpelled (words_of t) command) c.as_str.ensures c.in-Ok.ensures.ok))

pub returns-in-Err : goal.returns-in-Err
returns-in-Err c =
    let other : ¬ (c.in-Err.refusal ≡ NoMemory) = search rules in
    not_asked c.args.text.now c.in-Err.refusal
    (subst (λ t. ¬ (◌≡◌ {A = Result Command Refusal} (Err c.in-Err.refusal) (Err NoMemory)) → AnswersCommand (words_of t) (Err c.in-Err.refusal)) c.as_str.ensures c.in-Err.ensures.answer) other
