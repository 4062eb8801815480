use Rattle.std.proofs.Common.{◌≡◌, ◌++◌, drop, map}
use Rattle.std.specs.Prelude.{List}
use Rattle.rls_value.specs.declared.value.Value.{Value}
use Rattle.rls_evaluation.specs.Holding.{Holds}
use Rattle.rls_evaluation.proofs.Telling.{Leads}
use Rattle.rls_judging.specs.Valuing.{values_set}
use Rattle.rls_judging.specs.Handed.{datum_values}
use Rattle.rls_judging.proofs.valuing.values_set.Given as goal

-- the values so far, and those that are left to ask for, lead to the whole; what was shown is kept
abbrev pub invariant-loop-stored : goal.invariant-loop-stored
invariant-loop-stored g l =
    let now = g.T.Tables.state l.fn.tables in
    record {
      stands : g.T.Tables.state l.tables ≡ now;
      leads : Leads (values_set l.relations l.role l.assignments (map (λ row. row.now) l.rows)) (values_set l.relations l.role l.assignments (map (λ row. row.now) (drop l.stored-index l.rows)))
          (λ (rest : List Value). datum_values l.values ++ rest) now l.fn.execution.read_set l.execution.read_set;
      holds : Holds l.relations l.role (g.T.Tables.state l.tables) l.execution;
    }
