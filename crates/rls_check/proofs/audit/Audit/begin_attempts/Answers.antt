use Rattle.std.proofs.Common.{rules, List, subst}
use Rattle.rls_check.specs.declared.transaction.Transaction.{Transaction}
use Rattle.rls_check.specs.Snapshots.{AreBegunAlong}
use Rattle.rls_check.proofs.audit.Audit.begin_attempts.Goals as goal

-- the transactions are placed, and the attempts begin along their places
pub returns-in_ok-begun-in-Some : goal.returns-in_ok-begun-in-Some
returns-in_ok-begun-in-Some c = (
  c.in-Some.places.items,
  search rules,
  subst (λ (ts : List Transaction). AreBegunAlong ts c.in-Some.places.items c.args.attempts c.in_ok-begun-in-Some.field-0) c.as_slice-transactions.ensures c.in_ok-begun-in-Some.ensures,
)
