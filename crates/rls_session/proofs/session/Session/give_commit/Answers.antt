use Rattle.rls_session.proofs.RuleLemmas.{commit_over}
use Rattle.rls_session.proofs.TriedLemmas.{over_part}
use Rattle.std.proofs.Common.{◌≡◌, OnOk, subst}
use Rattle.rls_session.specs.Parts.{Notes, with_ended}
use Rattle.std.specs.Prelude.{Some}
use Rattle.rls_session.proofs.session.Session.give_commit.Goals as goal

pub returns-in-Err-Over-clause-ok : goal.returns-in-Err-Over-clause-ok
returns-in-Err-Over-clause-ok g c =
    let ends = subst (λ (n : Notes). OnOk c.answer_conflict.result (c.answer_conflict.new.notes ≡ with_ended n (Some c.in-Some.open.part))) c.in-Err-Over.ensures.kept (c.answer_conflict.ensures.notes c.in-Some.open.part (over_part c.in-Some.open c.in-Err-Over.field-0 c.in-Err-Over.why c.in-Err-Over.ended c.in-Err-Over.field-0-is c.in-Err-Over.ensures.err)) in
    commit_over c.args.notes.now c.answer_conflict.new.notes c.args.self.now c.take_open.new.self c.in-Some.open c.in-Err-Over.why c.answer_conflict.result c.in-Some.ensures.some.0 c.in-Some.ensures.some.1 c.answer_conflict.ensures.ok ends
