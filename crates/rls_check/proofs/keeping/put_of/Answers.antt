use Rattle.std.specs.List.{All}
use Rattle.std.proofs.Common.{sym, subst}
use Rattle.rls_audit.specs.rls_audit_lines.specs.Reading.{IsPolicyText, HasPolicies}
use Rattle.rls_check.proofs.keeping.put_of.Goals as goal

pub policies_of-requires : goal.policies_of-requires
policies_of-requires c = subst (All (IsPolicyText c.in-Policies.table)) (sym c.as_slice.ensures) (subst HasPolicies c.in-Policies.is c.requires)
