use Rattle.std.proofs.Common.{◌≡◌, [], ◌∷◌, sym, ap, subst, ◌∙◌, arith, List}
use Rattle.std.proofs.lemmas.Bool.Decides.{nat_tests}
use Rattle.rls_engine.specs.Views.{Proof}
use Rattle.rls_session.specs.Parts.{Block, Notes, Shown, noted, part_of}
use Rattle.rls_session.specs.Blocks.{shows}
use Rattle.rls_session.specs.Stops.{HasCommitted}
use Rattle.rls_session.proofs.CommitLemmas.{commit_kept, commit_noted, commit_spent}
use Rattle.rls_session.proofs.TriedLemmas.{failed_part}
use Rattle.rls_session.proofs.notes.Notes.commit.Goals as goal

pub invariant_of-self-in-Ok-commit : goal.invariant_of-self-in-Ok-commit
invariant_of-self-in-Ok-commit g c =
    let tags : c.tag.result ≡ c.tag-2.result = grind (arith, nat_tests) in
    let same = sym c.tag-2.ensures ∙ (sym tags ∙ c.tag.ensures) in
    commit_kept _ c.open.inside.heard _ c.self.inside.seen c.learn.new.self _ c.learn.new.receipt c.into_parts-role.result.1 c.self.inside.kept.items c.reserve.new.self.items c.push_reserved.new.self.items c.in-Ok-commit.ensures.ok same c.learn.ensures c.into_parts-role.ensures.number c.in-Ok.ensures.items c.push_reserved.ensures.items c.self.invariant

pub returns-in-Ok-commit-clause-ok : goal.returns-in-Ok-commit-clause-ok
returns-in-Ok-commit-clause-ok g c =
    let tags : c.tag.result ≡ c.tag-2.result = grind (arith, nat_tests) in
    let same = sym c.tag-2.ensures ∙ (sym tags ∙ c.tag.ensures) in
    let receipt = c.in-Ok-commit.ensures.ok in
    let is = commit_noted _ c.open.inside.heard c.open.inside.txn.stand.running.ctx.role _ c.self.inside.seen c.learn.new.self _ c.learn.new.receipt c.into_parts-role.result.1 c.self.inside.kept.items c.reserve.new.self.items c.push_reserved.new.self.items c.self.inside.terse _ _ receipt same c.learn.ensures c.into_parts-role.ensures.number c.into_parts-role.ensures.entry c.in-Ok.ensures.items c.push_reserved.ensures.items in
    let block : Block = record { heard = c.open.inside.heard; role = c.open.inside.txn.stand.running.ctx.role; part = part_of c.open.inside.txn.stand.running.so_far } in
    let spent_is = commit_spent _ _ c.self.inside.seen c.learn.new.self _ c.learn.new.receipt receipt same c.learn.ensures in
    record {
      number = c.in-Ok-commit.receipt.number;
      notes = is ∙ (ap (λ (n : Notes). noted n (shows block c.in-Ok-commit.receipt.number ∷ [])) c.self.view_is ∙ ap (λ (b : Block). noted c.args.self.now (shows b c.in-Ok-commit.receipt.number ∷ [])) c.open.view_is);
      role_is = c.into_parts-role.ensures.role ∙ (ap (λ (p : Proof). p.role) spent_is ∙ (receipt.role ∙ ap (λ (b : Block). b.role) c.open.view_is));
    }

pub returns-in-Err-Over-clause-err : goal.returns-in-Err-Over-clause-err
returns-in-Err-Over-clause-err g c = c.stopped_by.ensures c.args.open (failed_part c.open.inside.txn c.args.open c.in-Err-Over.field-0 c.in-Err-Over.why c.in-Err-Over.ended c.in-Err-Over.field-0-is c.in-Err-Over.ensures.err (ap (λ (b : Block). b.part) c.open.view_is))
