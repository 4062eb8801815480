-- What a printed command is read as.
use Rattle.std.proofs.Common.{◌≡◌, true, List, [], ◌∷◌, Option, Some, None, Result, Ok, Err, refl, ap, sym, subst, inl, inr, ◌∙◌}
use Rattle.std.specs.Prelude.{codes}
use Rattle.rls_value.specs.{declared.refusal.Limit.Limit, declared.refusal.Refusal.Refusal}
use Rattle.rls_value.specs.declared.refusal.Refusal.TheVariants as refusal
use Rattle.rls_statement.specs.{declared.command.AccessMode.AccessMode, declared.command.Command.Command, declared.statement.Statement.Statement}
use Rattle.rls_statement.specs.declared.command.AccessMode.TheVariants as mode
use Rattle.rls_statement.specs.declared.command.Command.TheVariants as c
use Rattle.rls_text.specs.{declared.token.Token.Token, declared.token.Token.TheVariants.Word, Writes.some_is, ParseResults.first_limit, ParseResults.limited}
use Rattle.rls_text.specs.Commands.{SpellsCommand, IsCommandWritten, IsCommandSpelled, AnswersCommand, run, limited_command, run_is_spelled}
use Rattle.rls_text.specs.Transactions as t
use Rattle.rls_printing.specs.{OutputTokens.tokens_of, ReadBack.IsReadAs, CommandForms.IsCommandReadAs, Outputs.are_fit}
use Rattle.rls_printing.specs.CommandForms as form
use Rattle.rls_printing.proofs.{Printed.tokens_spell, Printed.limited_read, Shallow.within_words, Stating.written_told}

-- what the grammar writes for what begins or ends a block are the tokens of its printed words
begin_told : (x : AccessMode) → t.transaction.prints.writes (c.Begin x) ≡ tokens_of (form.command (c.Begin x))
unfolding t.transaction t.bare_transaction t.begin t.begun_or_started t.begun t.started t.commit t.rollback t.access_mode t.modes t.first_and_more t.next_mode t.mode t.isolation t.access t.work
begin_told mode.ReadWrite = refl
begin_told mode.ReadOnly = refl

commit_told : t.transaction.prints.writes c.Commit ≡ tokens_of (form.command c.Commit)
unfolding t.transaction t.bare_transaction t.begin t.begun_or_started t.begun t.started t.commit t.rollback t.access_mode t.modes t.first_and_more t.next_mode t.mode t.isolation t.access t.work
commit_told = refl

rollback_told : t.transaction.prints.writes c.Rollback ≡ tokens_of (form.command c.Rollback)
unfolding t.transaction t.bare_transaction t.begin t.begun_or_started t.begun t.started t.commit t.rollback t.access_mode t.modes t.first_and_more t.next_mode t.mode t.isolation t.access t.work
rollback_told = refl

-- What the grammar writes for a command are the tokens of its printed words.
pub command_told : (x : Command) (tokens : List Token) → IsCommandWritten tokens x → tokens_of (form.command x) ≡ Some tokens
command_told (c.Begin x) tokens h = sym (begin_told x) ∙ h
command_told c.Commit tokens h = sym commit_told ∙ h
command_told c.Rollback tokens h = sym rollback_told ∙ h
command_told (c.Run x) tokens h = written_told x tokens h

-- Where some text spells a command, its printed words spell it.
pub words_spell : (x : Command) (original words : List Token) → SpellsCommand original x → tokens_of (form.command x) ≡ Some words → SpellsCommand words x
words_spell (c.Begin x) original words h e = inl (t.transaction.prints.wrote (c.Begin x) words (begin_told x ∙ e))
words_spell c.Commit original words h e = inl (t.transaction.prints.wrote c.Commit words (commit_told ∙ e))
words_spell c.Rollback original words h e = inl (t.transaction.prints.wrote c.Rollback words (rollback_told ∙ e))
words_spell (c.Run x) original words h e = inr record { source = x; spelled = tokens_spell x original words (run_is_spelled original x h) e; value = refl }

run_read : (x : Statement) (r : Result Statement Refusal) → IsReadAs x r → IsCommandReadAs (c.Run x) (run r)
run_read x (Ok y) h = ap c.Run h
run_read x (Err (refusal.Limit limit)) h = tt
run_read x (Err _) h = h

limited_command_read : (x : Command) → IsCommandReadAs x (limited_command x)
limited_command_read (c.Begin x) = refl
limited_command_read c.Commit = refl
limited_command_read c.Rollback = refl
limited_command_read (c.Run x) = run_read x (limited x) (limited_read x)

-- Words that spell a command are answered with it, or with a limit.
pub command_read : (words : List Token) (x : Command) (answer : Result Command Refusal) → SpellsCommand words x → AnswersCommand words answer → IsCommandReadAs x answer
command_read words x answer h k = go (first_limit words) refl
  where
    go : (o : Option Limit) → first_limit words ≡ o → IsCommandReadAs x answer
    go (Some limit) e = subst (λ z. IsCommandReadAs x z) (sym (k.over limit e)) tt
    go None e = subst (λ z. IsCommandReadAs x z) (sym (k.spelled x e h)) (limited_command_read x)

begin_short : (x : AccessMode) (words : List Token) → tokens_of (form.command (c.Begin x)) ≡ Some words → first_limit words ≡ None
begin_short mode.ReadWrite words e = ap first_limit (sym (some_is (Word (codes "begin") ∷ []) words e))
begin_short mode.ReadOnly words e = ap first_limit (sym (some_is (Word (codes "begin") ∷ Word (codes "read") ∷ Word (codes "only") ∷ []) words e))

run_limited : (x : Statement) → limited_command (c.Run x) ≡ Ok (c.Run x) → limited x ≡ Ok x
run_limited x h = go (limited x) h
  where
    go : (r : Result Statement Refusal) → run r ≡ Ok (c.Run x) → r ≡ Ok x
    go (Ok y) h = ap Ok (let e : y ≡ x = cc in e)
    go (Err e) h = absurd (cc)

-- The printed words of a command within the limits pass no limit on words.
command_short : (x : Command) (original words : List Token) → IsCommandSpelled original x → are_fit (form.command x) ≡ true → tokens_of (form.command x) ≡ Some words → first_limit words ≡ None
command_short (c.Begin x) original words h fit e = begin_short x words e
command_short c.Commit original words h fit e = ap first_limit (sym (some_is (Word (codes "commit") ∷ []) words e))
command_short c.Rollback original words h fit e = ap first_limit (sym (some_is (Word (codes "rollback") ∷ []) words e))
command_short (c.Run x) original words h fit e = within_words x original words (run_is_spelled original x h.spelled) (run_limited x h.within) fit e

-- Where a text within the limits spells a command, its printed words are answered with it.
pub command_again : (x : Command) (original words : List Token) (answer : Result Command Refusal) → IsCommandSpelled original x → are_fit (form.command x) ≡ true → tokens_of (form.command x) ≡ Some words → AnswersCommand words answer → answer ≡ Ok x
command_again x original words answer h fit e k = k.spelled x (command_short x original words h fit e) (words_spell x original words h.spelled e) ∙ h.within
