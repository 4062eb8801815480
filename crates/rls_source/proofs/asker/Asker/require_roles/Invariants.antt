use Rattle.std.proofs.Common.{drop}
use Rattle.rls_source.specs.Answering.{Leads}
use Rattle.rls_source.specs.Named.{roles_or_undefined}
use Rattle.rls_source.proofs.asker.Asker.require_roles.Given as goal

abbrev pub invariant-loop-name : goal.invariant-loop-name
invariant-loop-name l = Leads (roles_or_undefined l.names) (roles_or_undefined (drop l.name-index l.names)) l.fn.self l.self
