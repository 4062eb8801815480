use Rattle.rls_siread.specs.Index.{locks_of}
use Rattle.rls_siread.proofs.ForgetLaws.{left_start, left_next, left_all, committed_has_notes}
use Rattle.rls_siread.proofs.sireads.drop_each.Goals as goal

pub loop-txn-init : goal.loop-txn-init
loop-txn-init c = record { indexed = c.requires; left = left_start c.args.last (locks_of c.args.index.now.holders.entries c.args.notes.now.entries) }

pub drop_notes-requires : goal.drop_notes-requires
drop_notes-requires c = c.loop-txn.invariant.indexed

pub loop-txn-preserved : goal.loop-txn-preserved
loop-txn-preserved c = record {
  indexed = c.drop_notes.ensures.indexed;
  left = left_next c.args.last (locks_of c.args.index.now.holders.entries c.args.notes.now.entries) (locks_of c.loop-txn.index.holders.entries c.loop-txn.notes.entries)
      (locks_of c.drop_notes.new.index.holders.entries c.drop_notes.new.notes.entries) c.in-Some.txn c.loop-txn.invariant.left c.in-Some.ensures c.drop_notes.ensures.gone;
}

pub loop-txn-smaller : goal.loop-txn-smaller
loop-txn-smaller c = c.drop_notes.ensures.fewer (committed_has_notes c.args.last (locks_of c.loop-txn.index.holders.entries c.loop-txn.notes.entries) c.in-Some.txn c.in-Some.ensures)

pub returns : goal.returns
returns c = record {
  indexed = c.loop-txn.invariant.indexed;
  gone = left_all c.args.last (locks_of c.args.index.now.holders.entries c.args.notes.now.entries) (locks_of c.loop-txn.index.holders.entries c.loop-txn.notes.entries) c.loop-txn.invariant.left c.loop-txn.invariant.indexed c.in_default.ensures;
}
