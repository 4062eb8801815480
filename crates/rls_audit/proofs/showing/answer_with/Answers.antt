use Rattle.std.proofs.Common.{ap, sym, subst, ◌∙◌}
use Rattle.rls_audit_lines.specs.rls_text.specs.{ParseResults.IsSpelled, Words.words_of}
use Rattle.rls_core.specs.rls_guard.specs.Effects.{decisions_of, reply_of}
use Rattle.rls_audit.specs.Printed.{printed_text}
use Rattle.rls_audit.specs.Showing.{IsSpellable}
use Rattle.rls_audit.proofs.{ShowingLemmas.same_answered}
use Rattle.rls_audit_lines.proofs.AskedLemmas.{asked_spelled}
use Rattle.rls_audit.proofs.showing.answer_with.Goals as goal

pub returns : goal.returns
returns c = λ reply.
    let posted = c.args.posted.now in
    let decisions = c.in_ok-decisions.ensures ∙ c.decisions.ensures in
    record {
      printed = same_answered c.in_ok-decisions.decisions (decisions_of posted.effect) c.args.reply (reply_of posted.effect) c.in_ok-text.text (printed_text posted.statement)
          decisions reply (c.in_ok-text.ensures.text ∙ ap printed_text c.statement.ensures);
      shows = λ spellable. record {
        statement = asked_spelled (words_of c.in_ok-text.text) posted.statement (subst (IsSpelled (words_of c.in_ok-text.text)) c.statement.ensures (c.in_ok-text.ensures.spelled (subst IsSpellable (sym c.statement.ensures) spellable)));
        reply = reply;
        decisions = decisions;
      };
    }
