use Rattle.std.proofs.Common.{drop}
use Rattle.rls_source.specs.Answering.{Leads}
use Rattle.rls_source.specs.Named.{grantees_or_undefined}
use Rattle.rls_source.proofs.asker.Asker.require_grantees.Given as goal

abbrev pub invariant-loop-grantee : goal.invariant-loop-grantee
invariant-loop-grantee l = Leads (grantees_or_undefined l.grantees) (grantees_or_undefined (drop l.grantee-index l.grantees)) l.fn.self l.self
