use Rattle.std.proofs.Common.{rules, List, IfSome, subst}
use Rattle.rls_check.specs.declared.transaction.Transaction.{Transaction}
use Rattle.rls_check.specs.Checking.{IsPlaced}
use Rattle.rls_check.specs.Pages.{IsBlank}
use Rattle.rls_check.proofs.GraphEdgeLemmas.{began}
use Rattle.rls_check.proofs.audit.Audit.page.Goals as goal

-- those that are placed began before they committed
pub page_along-page-requires-clause-began : goal.page_along-page-requires-clause-began
page_along-page-requires-clause-began g c = began c.as_slice-transactions.result.now c.as_slice.result.now c.in-Some.places.items (subst (λ found. IfSome found (λ places. IsPlaced c.as_slice-transactions.result.now c.as_slice.result.now places.items)) c.in-Some.is c.in_ok-places.ensures.placed)

-- they are placed, and nothing of their page is written yet
pub returns-in_ok-page-in-Some : goal.returns-in_ok-page-in-Some
returns-in_ok-page-in-Some g c = (
  c.in-Some.places.items,
  search rules,
  subst (λ (ts : List Transaction). IsBlank c.args.asked.name.now c.args.asked.wanted.now c.args.asked.most ts c.in-Some.places.items c.in_ok-page-in-Some.field-0) c.as_slice-transactions.ensures c.in_ok-page-in-Some.ensures,
)
