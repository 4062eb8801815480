use Rattle.std.proofs.Common.{◌≡◌, ◌∙◌, ap, rules}
use Rattle.rls_engine.specs.Drafts.{with_pending}
use Rattle.rls_engine.specs.Stands.{Stand}
use Rattle.rls_session.specs.Parts.{Block, part_of}
use Rattle.rls_session.proofs.TriedLemmas.{over_ends, over_stand, stopped_part}
use Rattle.rls_session.proofs.open.Open.post.Goals as goal

pub returns-in-Err-Over-clause-err : goal.returns-in-Err-Over-clause-err
returns-in-Err-Over-clause-err g c =
    let ran : c.run.new.self ≡ with_pending c.self.inside.txn c.args.asked.now = search rules in
    let stands : c.post.new.self.stand ≡ c.self.inside.txn.stand = over_stand c.self.inside.txn c.run.new.self c.post.new.self c.args.asked.now ran c.self.invariant.1 (over_ends c.run.new.self c.post.new.self c.in-Err-Over.field-0 c.in-Err-Over.field-0-is c.in-Err-Over.ensures.err) in
    c.stopped_by.ensures c.args.self
    (stopped_part c.post.new.self.stand c.args.self c.give_up-why.result.1 (ap (λ (s : Stand). part_of s.running.so_far) stands ∙ ap (λ (b : Block). b.part) c.self.view_is) c.give_up-why.ensures.ended)
