use Rattle.std.proofs.Common.{rules, ℕ, List, IfSome, subst}
use Rattle.rls_check.specs.declared.transaction.Transaction.{Transaction}
use Rattle.rls_check.specs.Checking.{IsPlaced}
use Rattle.rls_check.specs.Graphs.{IsGraphAlong}
use Rattle.rls_check.proofs.GraphEdgeLemmas.{began}
use Rattle.rls_check.proofs.audit.Audit.graph.Goals as goal

-- those that are placed began before they committed
pub graph_along-graph-requires-clause-began : goal.graph_along-graph-requires-clause-began
graph_along-graph-requires-clause-began c = began c.as_slice-transactions.result.now c.as_slice.result.now c.in-Some.places.items (subst (λ found. IfSome found (λ places. IsPlaced c.as_slice-transactions.result.now c.as_slice.result.now places.items)) c.in-Some.is c.in_ok-places.ensures.placed)

-- they are placed, and what is written is their graph
pub returns-in_ok-graph-in-Some : goal.returns-in_ok-graph-in-Some
returns-in_ok-graph-in-Some c = (
  c.in-Some.places.items,
  search rules,
  subst (λ (ts : List Transaction). IsGraphAlong c.args.form ts c.in-Some.places.items c.in_ok-graph-in-Some.field-0) c.as_slice-transactions.ensures (
      subst (λ (places : List ℕ). IsGraphAlong c.args.form c.as_slice-transactions.result.now places c.in_ok-graph-in-Some.field-0) c.as_slice-in-Some.ensures.value c.in_ok-graph-in-Some.ensures
      ),
)
