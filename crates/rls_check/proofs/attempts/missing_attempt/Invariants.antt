use Rattle.std.proofs.Common.{◌≡◌, drop}
use Rattle.rls_check.specs.Attempts.{missing_attempt}
use Rattle.rls_check.proofs.attempts.missing_attempt.Given as goal

-- what is left leads to the first that is missing
abbrev pub invariant-loop-txn : goal.invariant-loop-txn
invariant-loop-txn l = missing_attempt l.attempts (drop l.txn-index l.txns) ≡ missing_attempt l.attempts l.txns
