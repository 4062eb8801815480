use Rattle.std.proofs.Common.{length, []}
use Rattle.rls_siread.proofs.ForgetLaws.{IsLeft}
use Rattle.rls_siread.proofs.alone.drop_noted_each.Given as goal

-- the notes of some of those that committed by the number are gone
abbrev pub invariant-loop-txn : goal.invariant-loop-txn
invariant-loop-txn l = IsLeft l.last (record { holders = []; notes = l.fn.notes.entries }) (record { holders = []; notes = l.notes.entries })

abbrev pub decreases-loop-txn : goal.decreases-loop-txn
decreases-loop-txn l = length l.notes.entries
