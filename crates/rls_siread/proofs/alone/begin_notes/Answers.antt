use Rattle.std.proofs.Common.{ap, sym, ◌∙◌}
use Rattle.rls_siread.specs.Promotion.{noted_with}
use Rattle.rls_siread.specs.Locks.{Notes, objects_in, commit_in, notes_at}
use Rattle.rls_siread.proofs.LocksLaws.{notes_put}
use Rattle.rls_siread.proofs.alone.begin_notes.Goals as goal

pub returns-clause-ok : goal.returns-clause-ok
returns-clause-ok c =
    notes_put c.args.notes.now.entries c.insert.new.self.entries c.args.txn c.renew.new.self (noted_with c.args.limit (objects_in (notes_at c.args.notes.now.entries c.args.txn)) c.args.footprint)
    (ap (λ (notes : Notes). notes.objects) c.in_ok-renew.ensures.ok
    ∙ ap (λ (notes : Notes). noted_with c.args.limit notes.objects c.args.footprint) c.new-noted.ensures
    ∙ ap (λ list. noted_with c.args.limit list c.args.footprint) c.new.ensures
    ∙ ap (λ found. noted_with c.args.limit (objects_in found) c.args.footprint) (sym c.requires))
    (ap (λ (notes : Notes). notes.commit) c.in_ok-renew.ensures.ok ∙ ap (λ (notes : Notes). notes.commit) c.new-noted.ensures ∙ ap commit_in (sym c.requires))
    c.in_ok-insert.ensures.updates.0
