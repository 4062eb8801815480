-- What a command's text says of a statement.
use Rattle.std.specs.Prelude.{◌≡◌, ℕ, List, Result, Ok, Err}
use Rattle.std.proofs.Common.{refl, sym, ap, ◌∙◌, inr}
use Rattle.rls_value.specs.declared.refusal.Refusal.{Refusal}
use Rattle.rls_value.specs.declared.refusal.Refusal.TheVariants.{NoMemory}
use Rattle.rls_statement.specs.{declared.command.Command.Command, declared.statement.Statement.Statement, Commands.statement_of}
use Rattle.rls_statement.specs.declared.command.Command.TheVariants as c
use Rattle.rls_text.specs.Commands.{AnswersCommand, IsCommandSpelled, run}
use Rattle.rls_text.specs.{ParseResults.IsSpelled, Words.words_of, declared.token.Token.Token}
use Rattle.rls_text.proofs.CommandLaws.{one_command}
use Rattle.rls_audit_lines.specs.{Asked.IsAsked, Reading.IsStatementText}

-- what spells a statement spells it as a command
pub asked_spelled : (words : List Token) (x : Statement) → IsSpelled words x → IsAsked words x
asked_spelled words x h = record {
  command = c.Run x;
  spelled = record { spelled = inr record { source = x; spelled = h.spelled; value = refl }; words = h.words; within = ap run h.within };
  same = refl;
}

-- words are one statement
pub asked_one : (words : List Token) (x y : Statement) → IsAsked words x → IsAsked words y → x ≡ y
asked_one words x y h k = sym h.same ∙ ap statement_of (one_command words h.command k.command h.spelled.spelled k.spelled.spelled) ∙ k.same

command_clash : (refusal : Refusal) (x : Command) → ◌≡◌ {A = Result Command Refusal} (Err refusal) (Ok x) → ⊥
command_clash refusal x h = cc

command_err : (x y : Refusal) → ◌≡◌ {A = Result Command Refusal} (Err x) (Err y) → x ≡ y
command_err x y h = cc

-- a command that is answered is a statement
pub asked_answered : (words : List Token) (x : Command) → IsCommandSpelled words x → IsAsked words (statement_of x)
asked_answered words x h = record { command = x; spelled = h; same = refl }

-- what is refused for another reason than memory is none
pub not_asked : (text : List ℕ) (refusal : Refusal) → (¬ (◌≡◌ {A = Result Command Refusal} (Err refusal) (Err NoMemory)) → AnswersCommand (words_of text) (Err refusal)) → ¬ (refusal ≡ NoMemory) → IsStatementText text → ⊥
not_asked text refusal answer other h =
    let it = h.1 in
    let a : AnswersCommand (words_of text) (Err refusal) = answer (λ e. other (command_err refusal NoMemory e)) in
    command_clash refusal it.command (a.spelled it.command it.spelled.words it.spelled.spelled ∙ it.spelled.within)
