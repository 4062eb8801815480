use Rattle.std.proofs.Common.{◌≡◌, ◌++◌}
use Rattle.rls_expr.specs.Scopes.{in_scope}
use Rattle.rls_lint.specs.Findings.{told_of}
use Rattle.rls_lint.specs.Nulls.{null_mistakes}
use Rattle.rls_lint.proofs.nulls.tell_nulls.Given as goal

-- the findings so far, and those of the policies that are left, are all
abbrev pub invariant-loop-policy : goal.invariant-loop-policy
invariant-loop-policy l = l.findings ++ told_of (in_scope l.from) (null_mistakes l.policy-iterator) ≡ l.fn.findings ++ told_of (in_scope l.from) (null_mistakes l.policies)
