use Rattle.std.specs.Prelude.{◌≡◌, Result, Err}
use Rattle.std.proofs.Common.{subst, sym}
use Rattle.rls_value.specs.declared.refusal.Refusal.{Refusal}
use Rattle.rls_value.specs.declared.refusal.Refusal.TheVariants.{NoMemory}
use Rattle.rls_statement.specs.declared.command.Command.{Command}
use Rattle.rls_audit.specs.rls_audit_lines.specs.rls_text.specs.{Commands.AnswersCommand, Commands.IsCommandSpelled, Words.words_of}
use Rattle.rls_check.proofs.KeepingLemmas.{command_made}
use Rattle.rls_check.proofs.keeping.asked_of.Goals as goal

pub returns-in-Ok : goal.returns-in-Ok
returns-in-Ok c = record {
  command = c.in-Ok.command;
  spelled = subst (λ t. IsCommandSpelled (words_of t) c.in-Ok.command) c.as_str.ensures c.in-Ok.ensures.ok;
  same = sym c.into_statement.ensures;
}

pub returns-in-Err : goal.returns-in-Err
returns-in-Err c =
    command_made c.args.text.now c.in-Err.refusal c.requires
    (subst (λ t. ¬ (◌≡◌ {A = Result Command Refusal} (Err c.in-Err.refusal) (Err NoMemory)) → AnswersCommand (words_of t) (Err c.in-Err.refusal)) c.as_str.ensures c.in-Err.ensures.answer)
