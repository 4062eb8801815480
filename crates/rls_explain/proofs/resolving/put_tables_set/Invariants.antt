use Rattle.std.proofs.Common.{◌≡◌, ◌++◌, drop, map}
use Rattle.rls_meaning.specs.rls_expansion.specs.Used.{all_tables}
use Rattle.rls_explain.proofs.resolving.put_tables_set.Given as goal

-- the tables so far, and those of the assignments that are left, are all
abbrev pub invariant-loop-assignment : goal.invariant-loop-assignment
invariant-loop-assignment l = l.tables ++ all_tables (map (λ assignment. assignment.value) (drop l.assignment-index l.assignments)) ≡ l.fn.tables ++ all_tables (map (λ assignment. assignment.value) l.assignments)
