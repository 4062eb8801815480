use Rattle.std.proofs.Common.{◌≡◌, ◌≤◌, length}
use Rattle.rls_check.specs.rls_audit.specs.rls_core.specs.Records.{state_after}
use Rattle.rls_lint.specs.Naming.{IsNamed}
use Rattle.rlsdb.proofs.dumping.state_behind.Given as goal

-- the state behind those so far, whose roles and tables these are
abbrev pub invariant-loop-committed : goal.invariant-loop-committed
invariant-loop-committed l = record {
  within : l.committed-index ≤ length l.records;
  state : l.state ≡ state_after l.records l.committed-index;
  named : IsNamed l.state l.named;
}
