use Rattle.std.proofs.Common.{◌≡◌, ◌++◌, drop, map}
use Rattle.std.specs.List.{flat_map}
use Rattle.rls_expr.specs.ExprTerms.{query_of}
use Rattle.rls_meaning.specs.rls_guard.specs.rls_evaluation.specs.{Environments.over, Holding.Holds}
use Rattle.rls_explain.specs.Found.{literals_of, sight_found}
use Rattle.rls_explain.proofs.comparing.select_each.Given as goal

-- what is selected so far, and of the rows that are left, is all; what was shown is kept
abbrev pub invariant-loop-stored : goal.invariant-loop-stored
invariant-loop-stored g l =
    let now = g.T.Tables.state l.fn.tables in
    let given = literals_of (sight_found now l.judged.relations.now l.judged.role.now) (over l.judged.role.now l.judged.row.now) (query_of l.query) in
    record {
      stands : g.T.Tables.state l.tables ≡ now;
      holds : Holds l.judged.relations.now l.judged.role.now (g.T.Tables.state l.tables) l.execution;
      told : l.selected.items ++ flat_map given (map (λ row. row.now) (drop l.stored-index l.rows)) ≡ flat_map given (map (λ row. row.now) l.rows);
    }
