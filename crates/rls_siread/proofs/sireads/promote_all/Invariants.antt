use Rattle.rls_siread.proofs.PromotedLaws.{IsUnderWay}
use Rattle.rls_siread.proofs.sireads.promote_all.Given as goal

-- the notes of those that are left are as they were, those of the others are promoted
abbrev pub invariant-loop-txn : goal.invariant-loop-txn
invariant-loop-txn l = IsUnderWay l.limit l.notes.entries l.promoted.entries l.fn.index.holders.entries l.index.holders.entries l.txn-iterator
