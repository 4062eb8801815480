use Rattle.std.proofs.Common.{◌≡◌, drop}
use Rattle.rls_check.specs.ShownAudits.{missing_txn}
use Rattle.rls_check.proofs.audit.Audit.missing.Given as goal

-- what is left leads to the first that is missing
abbrev pub invariant-loop-txn : goal.invariant-loop-txn
invariant-loop-txn l = missing_txn l.self.transactions (drop l.txn-index l.txns) ≡ missing_txn l.self.transactions l.txns
