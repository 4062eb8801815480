use Rattle.std.proofs.Common.{drop}
use Rattle.rls_source.specs.Answering.{Leads}
use Rattle.rls_role.specs.Granting.{role_granted}
use Rattle.rls_role.proofs.granting.grant_role.Given as goal

abbrev pub invariant-loop-member : goal.invariant-loop-member
invariant-loop-member l = Leads (role_granted l.written l.role l.members l.fn.held) (role_granted l.written l.role (drop l.member-index l.members) l.held) l.fn.asker l.asker
