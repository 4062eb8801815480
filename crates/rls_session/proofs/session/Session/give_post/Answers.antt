use Rattle.std.proofs.Common.{◌∙◌}
use Rattle.rls_session.proofs.RuleLemmas.{over_is, post_over}
use Rattle.rls_session.proofs.TriedLemmas.{over_part}
use Rattle.rls_session.proofs.session.Session.give_post.Goals as goal

pub returns-in-Err-Over-clause-ok : goal.returns-in-Err-Over-clause-ok
returns-in-Err-Over-clause-ok g c = post_over c.args.notes.now c.answer_conflict.new.notes c.args.self.now _ c.in-Some.open c.args.asked c.in-Err-Over.why c.answer_conflict.result c.in-Some.ensures.some.0 (over_is _ c.args.self.now (c.self.view_is ∙ c.in-Some.ensures.some.1)) c.answer_conflict.ensures.ok (c.answer_conflict.ensures.notes c.in-Some.open.part (over_part c.in-Some.open c.in-Err-Over.field-0 c.in-Err-Over.why c.in-Err-Over.ended c.in-Err-Over.field-0-is c.in-Err-Over.ensures.err))
