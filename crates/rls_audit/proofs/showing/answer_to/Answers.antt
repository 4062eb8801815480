use Rattle.std.proofs.Common.{ap, sym, subst, ◌∙◌}
use Rattle.rls_core.specs.rls_guard.specs.Effects.{reply_of}
use Rattle.rls_audit.specs.Showing.{CanShow}
use Rattle.rls_audit.proofs.ShowingLemmas.{same_reply, can_show, part_fails}
use Rattle.rls_audit.proofs.showing.answer_to.Goals as goal

pub returns-in_ok-answer_with-in-Ok : goal.returns-in_ok-answer_with-in-Ok
returns-in_ok-answer_with-in-Ok c = c.in_ok-answer_with-in-Ok.ensures (c.in-Ok.ensures ∙ (ap reply_of c.bare.ensures.effect ∙ same_reply c.args.posted.now.effect))

pub returns-in-Err : goal.returns-in-Err
returns-in-Err c =
    part_fails c.in-Err.why (CanShow c.bare.result.now) (CanShow c.args.posted.now.effect) (λ h. subst CanShow (sym c.bare.ensures.effect) (can_show c.args.posted.now.effect h)) c.in-Err.ensures
