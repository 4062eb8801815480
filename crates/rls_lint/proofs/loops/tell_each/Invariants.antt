use Rattle.std.proofs.Common.{◌≡◌, ◌++◌, drop}
use Rattle.std.specs.List.{flat_map}
use Rattle.rls_lint.specs.Findings.{told_of}
use Rattle.rls_lint.specs.Loops.{loop_of}
use Rattle.rls_expr.specs.Scopes.{in_scope}
use Rattle.rls_lint.proofs.loops.tell_each.Given as goal

-- the findings so far, and those of the tables that are left, are all
abbrev pub invariant-loop-other : goal.invariant-loop-other
invariant-loop-other l = l.findings ++ told_of (in_scope l.from) (flat_map (loop_of l.closed) (drop l.other-index l.linted.tables.now)) ≡ l.fn.findings ++ told_of (in_scope l.from) (flat_map (loop_of l.closed) l.linted.tables.now)
