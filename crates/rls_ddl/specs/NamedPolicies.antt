-- The policy of a table that a statement names, which has to be there (PostgreSQL manual, appendix A: 42704).
use Rattle.std.specs.Prelude.{ℕ, List, Result}
use Rattle.std.specs.List.{find}
use Rattle.rls_value.specs.declared.refusal.Refusal.{Refusal}
use Rattle.rls_value.specs.declared.refusal.Refusal.TheVariants.{Undefined}
use Rattle.rls_value.specs.declared.refusal.NameKind.TheVariants as kind
use Rattle.rls_expr.specs.declared.policy.Policy.{Policy}
use Rattle.rls_guard.specs.rls_catalog.specs.PolicyLists.{is_named}
use Rattle.rls_guard.specs.rls_source.specs.Named.{found_or}

-- the policy of that name, which has to be there
abbrev pub policy_or_undefined : List Policy → List ℕ → Result Policy Refusal
policy_or_undefined policies name = found_or (Undefined kind.Policy name) (find (is_named name) policies)
