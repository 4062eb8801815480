use Rattle.std.specs.List.{AllZip}
use Rattle.std.proofs.Common.{List, ℕ, ◌++◌}
use Rattle.rls_audit.specs.ShownParts.{ShowsPolicy}
use Rattle.rls_audit.proofs.showing.policy_texts.Given as goal

-- whatever texts the policies that are left have complete those so far
abbrev pub invariant-loop-policy : goal.invariant-loop-policy
invariant-loop-policy l = (more : List (List ℕ)) → AllZip (ShowsPolicy l.table) more l.policy-iterator → AllZip (ShowsPolicy l.table) (l.texts ++ more) l.policies
