use Rattle.std.proofs.Common.{◌≡◌, drop}
use Rattle.std.specs.List.{list_any}
use Rattle.rls_catalog.specs.Verdict.{is_to}
use Rattle.rls_lint.proofs.policy_mistakes.is_to_some.Given as goal

-- it is for none of those so far
abbrev pub invariant-loop-role : goal.invariant-loop-role
invariant-loop-role l = list_any (λ role. is_to l.state role l.policy) (drop l.role-index l.users) ≡ list_any (λ role. is_to l.state role l.policy) l.users
