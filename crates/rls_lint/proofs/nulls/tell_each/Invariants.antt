use Rattle.std.proofs.Common.{◌≡◌, ◌++◌, drop, map}
use Rattle.rls_expr.specs.Scopes.{in_scope}
use Rattle.rls_lint.specs.Findings.{told_of}
use Rattle.rls_lint.specs.Nulls.{null_mistake}
use Rattle.rls_lint.proofs.nulls.tell_each.Given as goal

-- the findings so far, and those of the comparisons that are left, are all
abbrev pub invariant-loop-comparison : goal.invariant-loop-comparison
invariant-loop-comparison l =
    l.findings ++ told_of (in_scope l.from) (map (null_mistake l.name l.check) (drop l.comparison-index l.nulls)) ≡ l.fn.findings ++ told_of (in_scope l.from) (map (null_mistake l.name l.check) l.nulls)
