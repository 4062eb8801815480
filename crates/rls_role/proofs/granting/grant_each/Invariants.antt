use Rattle.std.proofs.Common.{drop}
use Rattle.rls_source.specs.Answering.{Leads}
use Rattle.rls_role.specs.Granting.{each_granted}
use Rattle.rls_role.proofs.granting.grant_each.Given as goal

abbrev pub invariant-loop-role : goal.invariant-loop-role
invariant-loop-role l = Leads (each_granted l.written l.roles l.members l.fn.held) (each_granted l.written (drop l.role-index l.roles) l.members l.held) l.fn.asker l.asker
