use Rattle.rls_siread.specs.Promotion.{noted_with}
use Rattle.rls_siread.specs.Locks.{objects_in, notes_at}
use Rattle.rls_siread.proofs.LocksLaws.{renewed}
use Rattle.rls_siread.proofs.sireads.renew_all.Goals as goal

pub returns-clause-indexed : goal.returns-clause-indexed
returns-clause-indexed c =
    (renewed c.args.index.now.holders.entries c.make_room.new.self.holders.entries c.hold_all.new.self.holders.entries c.release_all.new.self.holders.entries c.args.notes.now.entries c.insert.new.self.entries c.args.txn
    c.in_ok-noted.field-0.noted (noted_with c.args.limit (objects_in (notes_at c.args.notes.now.entries c.args.txn)) c.args.footprint.now) c.in_ok-noted.field-0.fresh c.in_ok-noted.field-0.dropped c.requires c.in_ok-noted.ensures.objects c.in_ok-noted.ensures.commit
    c.in_ok-noted.ensures.fresh c.in_ok-noted.ensures.dropped c.in_ok-make_room.ensures.shown c.in_ok-insert.ensures.updates.0 c.hold_all.ensures c.release_all.ensures).indexed

pub returns-clause-ok : goal.returns-clause-ok
returns-clause-ok c =
    (renewed c.args.index.now.holders.entries c.make_room.new.self.holders.entries c.hold_all.new.self.holders.entries c.release_all.new.self.holders.entries c.args.notes.now.entries c.insert.new.self.entries c.args.txn
    c.in_ok-noted.field-0.noted (noted_with c.args.limit (objects_in (notes_at c.args.notes.now.entries c.args.txn)) c.args.footprint.now) c.in_ok-noted.field-0.fresh c.in_ok-noted.field-0.dropped c.requires c.in_ok-noted.ensures.objects c.in_ok-noted.ensures.commit
    c.in_ok-noted.ensures.fresh c.in_ok-noted.ensures.dropped c.in_ok-make_room.ensures.shown c.in_ok-insert.ensures.updates.0 c.hold_all.ensures c.release_all.ensures).noted
