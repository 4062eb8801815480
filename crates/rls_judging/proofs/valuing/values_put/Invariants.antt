use Rattle.std.proofs.Common.{◌≡◌, ◌++◌, drop, map}
use Rattle.std.specs.Prelude.{List}
use Rattle.rls_value.specs.declared.value.Value.{Value}
use Rattle.rls_evaluation.specs.Holding.{Holds}
use Rattle.rls_evaluation.proofs.Telling.{Leads}
use Rattle.rls_judging.specs.Valuing.{values_put}
use Rattle.rls_judging.specs.Handed.{datum_values}
use Rattle.rls_judging.proofs.valuing.values_put.Given as goal

-- the values so far, and those that are left to ask for, lead to the whole; what was shown is kept
abbrev pub invariant-loop-tuple : goal.invariant-loop-tuple
invariant-loop-tuple g l =
    let now = g.T.Tables.state l.fn.tables in
    record {
      stands : g.T.Tables.state l.tables ≡ now;
      leads : Leads (values_put l.relations l.role l.tuples) (values_put l.relations l.role (drop l.tuple-index l.tuples))
          (λ (rest : List (List Value)). map datum_values l.all.items ++ rest) now l.fn.execution.read_set l.execution.read_set;
      holds : Holds l.relations l.role (g.T.Tables.state l.tables) l.execution;
    }
