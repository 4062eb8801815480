use Rattle.std.proofs.Common.{◌≡◌, ◌++◌, map, drop}
use Rattle.rls_expansion.specs.Used.{all_tables}
use Rattle.rls_dml.proofs.analysed_update.analysed_update_tables.Given as goal

-- the tables so far, and those of the assignments that are left, are all
abbrev pub invariant-loop-value : goal.invariant-loop-value
invariant-loop-value l = l.tables ++ all_tables (map (λ assignment. assignment.1) (drop l.value-index l.analysed_update.assignments)) ≡ all_tables (map (λ assignment. assignment.1) l.analysed_update.assignments)
