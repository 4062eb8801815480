use Rattle.std.proofs.Common.{◌≡◌, drop}
use Rattle.std.specs.List.{list_any}
use Rattle.rls_expansion.specs.Used.{holds_subquery}
use Rattle.rls_expansion.proofs.dependencies.hold_subquery.Given as goal

-- none of those so far holds one
abbrev pub invariant-loop-policy : goal.invariant-loop-policy
invariant-loop-policy l = list_any holds_subquery (drop l.policy-index l.policies) ≡ list_any holds_subquery l.policies
