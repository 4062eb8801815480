use Rattle.std.proofs.Common.{drop}
use Rattle.rls_guard.specs.rls_source.specs.Answering.{Leads}
use Rattle.rls_dml.specs.Writing.{permissions_or_denied}
use Rattle.rls_dml.proofs.writing.require_permissions.Given as goal

abbrev pub invariant-loop-check : goal.invariant-loop-check
invariant-loop-check l = Leads (permissions_or_denied l.role_privileges l.checks) (permissions_or_denied l.role_privileges (drop l.check-index l.checks)) l.fn.asker l.asker
