use Rattle.std.proofs.Common.{◌≡◌, ◌++◌, drop, map}
use Rattle.std.specs.Prelude.{List, Ok}
use Rattle.rls_evaluation.specs.rls_source.specs.Askings.{followed_by, known}
use Rattle.rls_value.specs.declared.value.Value.{Value}
use Rattle.rls_evaluation.specs.Holding.{Holds}
use Rattle.rls_evaluation.specs.Scoping.{env_of}
use Rattle.rls_evaluation.specs.Showing.{shows}
use Rattle.rls_evaluation.proofs.Telling.{Leads}
use Rattle.rls_judging.specs.Valuing.{values_on}
use Rattle.rls_judging.specs.Handed.{datum_values}
use Rattle.rls_judging.proofs.valuing.put_values.Given as goal

-- the values so far, and those that are left to ask for, lead to the whole; what was shown is kept
abbrev pub invariant-loop-expr : goal.invariant-loop-expr
invariant-loop-expr g l =
    let sees = shows l.relations l.env.user.now in
    let now = g.T.Tables.state l.fn.tables in
    record {
      stands : g.T.Tables.state l.tables ≡ now;
      leads : Leads (followed_by (values_on (map (λ assignment. assignment.1) l.assignments) sees (env_of l.env)) (λ given. known (Ok (datum_values l.fn.values ++ given)))) (values_on (map (λ assignment. assignment.1) (drop l.expr-index l.assignments)) sees (env_of l.env))
          (λ (rest : List Value). datum_values l.values ++ rest) now l.fn.execution.read_set l.execution.read_set;
      holds : Holds l.relations l.env.user.now (g.T.Tables.state l.tables) l.execution;
    }
