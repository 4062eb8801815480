use Rattle.std.proofs.Common.{◌≡◌, drop}
use Rattle.rls_siread.specs.Locks.{all_arrived}
use Rattle.rls_siread.proofs.holders.Holders.add_all.Given as goal

-- those that are left lead to all
abbrev pub invariant-loop-txn : goal.invariant-loop-txn
invariant-loop-txn l = all_arrived l.self.txns (drop l.txn-index l.others) ≡ all_arrived l.fn.self.txns l.others
