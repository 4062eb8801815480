use Rattle.std.proofs.Common.{subst}
use Rattle.rls_check.specs.Graphs.{IsGraph}
use Rattle.rlsdb.proofs.GraphLemmas.{unordered}
use Rattle.rlsdb.proofs.graphing.graph_audit.Goals as goal

-- nothing is written where the numbers are no order
pub returns-in_default : goal.returns-in_default
returns-in_default g c =
    let audit = c.args.audit.now in
    unordered c.args.form audit.transactions audit.order (g.O.ScriptOut.taken c.args.output.now) (subst (IsGraph c.args.form audit.transactions audit.order) c.in_default.is c.in_ok-graph.ensures)
