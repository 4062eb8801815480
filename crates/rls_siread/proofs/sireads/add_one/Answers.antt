use Rattle.rls_siread.proofs.LocksLaws.{added, commits_added}
use Rattle.rls_siread.proofs.sireads.add_one.Goals as goal

pub returns-clause-indexed : goal.returns-clause-indexed
returns-clause-indexed c =
    (added c.args.index.now.holders.entries c.make_room.new.self.holders.entries c.hold_all.new.self.holders.entries c.args.notes.now.entries c.add_at.new.notes.entries c.args.txn c.args.fresh.now
    c.requires.indexed c.requires.there c.requires.new c.in_ok-make_room.ensures.shown c.in_ok-add_at.ensures.ok c.hold_all.ensures).indexed

pub returns-clause-ok : goal.returns-clause-ok
returns-clause-ok c =
    (added c.args.index.now.holders.entries c.make_room.new.self.holders.entries c.hold_all.new.self.holders.entries c.args.notes.now.entries c.add_at.new.notes.entries c.args.txn c.args.fresh.now
    c.requires.indexed c.requires.there c.requires.new c.in_ok-make_room.ensures.shown c.in_ok-add_at.ensures.ok c.hold_all.ensures).noted

pub returns-clause-commits : goal.returns-clause-commits
returns-clause-commits c = commits_added c.args.notes.now.entries c.add_at.new.notes.entries c.args.txn c.args.fresh.now c.in_ok-add_at.ensures.ok
