use Rattle.std.proofs.Common.{◌≡◌, ◌++◌, drop, map}
use Rattle.rls_dml.proofs.analysed_update.put_values.Given as goal

-- the expressions so far, and those of the assignments that are left, are all
abbrev pub invariant-loop-assignment : goal.invariant-loop-assignment
invariant-loop-assignment l =
    map (λ term. term.now) l.terms.items ++ map (λ assignment. assignment.1) (drop l.assignment-index l.assignments) ≡ map (λ term. term.now) l.fn.terms.items ++ map (λ assignment. assignment.1) l.assignments
