use Rattle.std.specs.Prelude.{IfOk}
use Rattle.std.specs.List.{All}
use Rattle.std.proofs.Common.{subst, sym}
use Rattle.rls_audit_lines.specs.Reading.{TellsWhether, IsPolicyText, HasPolicies}
use Rattle.rls_audit_lines.proofs.reading.has_policies.Goals as goal

pub returns-in-Policies : goal.returns-in-Policies
returns-in-Policies c =
    subst (λ x. IfOk c.are_policies.result (λ all. TellsWhether all (HasPolicies x))) (sym c.in-Policies.is)
    (subst (λ texts. IfOk c.are_policies.result (λ all. TellsWhether all (All (IsPolicyText c.in-Policies.table) texts))) c.as_slice.ensures c.are_policies.ensures)
