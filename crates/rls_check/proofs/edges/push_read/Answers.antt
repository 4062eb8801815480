use Rattle.std.proofs.Common.{rules, get_or}
use Rattle.rls_check.specs.GraphEdges.{conflict_on}
use Rattle.rls_check.specs.GraphSteps.{no_work}
use Rattle.rls_check.proofs.GraphCommonLemmas.{nothing_common}
use Rattle.rls_check.proofs.edges.push_read.Goals as goal

-- one that isn't there changed nothing
pub returns-in-None : goal.returns-in-None
returns-in-None c = nothing_common c.args.edges.now (conflict_on c.args.pair.0 c.args.pair.1) c.args.reads.now (get_or c.args.works.now c.args.pair.1 no_work).covered (search rules)
