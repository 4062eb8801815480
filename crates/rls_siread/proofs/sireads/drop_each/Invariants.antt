use Rattle.std.proofs.Common.{length}
use Rattle.rls_siread.specs.Index.{IsIndexed, locks_of}
use Rattle.rls_siread.proofs.ForgetLaws.{IsLeft}
use Rattle.rls_siread.proofs.sireads.drop_each.Given as goal

-- who holds is told by the notes; some of those that committed by the number are forgotten
abbrev pub invariant-loop-txn : goal.invariant-loop-txn
invariant-loop-txn l = record {
  indexed : IsIndexed l.index.holders.entries l.notes.entries;
  left : IsLeft l.last (locks_of l.fn.index.holders.entries l.fn.notes.entries) (locks_of l.index.holders.entries l.notes.entries);
}

abbrev pub decreases-loop-txn : goal.decreases-loop-txn
decreases-loop-txn l = length l.notes.entries
