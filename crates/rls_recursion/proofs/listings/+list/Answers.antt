use Rattle.std.proofs.Common.{◌≡◌, OnOk, subst, sym, ◌∙◌}
use Rattle.rls_recursion.specs.Listings as spec
use Rattle.rls_recursion.proofs.ListingSteps.{list_further}
use Rattle.rls_recursion.proofs.listings.+list.Goals as goal

pub list_from-returns : goal.list_from-returns
list_from-returns t c =
    subst (λ listing. OnOk c.finish.result (c.finish.new.self ≡ listing))
    (list_further c.args.depth (spec.leads_of c.args.policies.now) c.args.listing.now c.list.new.self c.list_all.new.listing c.args.one.now c.leads_of-leads.result.now c.if-depth-eq0.false (sym c.has-done.ensures ∙ c.if-done.false)
    c.in_ok-list.ensures c.leads_of-leads.ensures c.in_ok-list_all.ensures)
    c.finish.ensures
