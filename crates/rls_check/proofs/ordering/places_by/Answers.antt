use Rattle.std.proofs.Common.{◌∙◌}
use Rattle.std.proofs.lemmas.List.{take_all}
use Rattle.rls_check.proofs.PlacingLemmas.{waits_no_order, left_no_order, all_placed}
use Rattle.rls_check.proofs.ordering.places_by.Goals as goal

pub returns-then-not-branch-clause-none : goal.returns-then-not-branch-clause-none
returns-then-not-branch-clause-none c =
    let p = c.loop-number.placing in
    waits_no_order c.args.transactions.now p.placed.items p.left c.loop-number.number-index c.args.order.now p.places.items c.loop-number.invariant.placing c.loop-number.invariant.named c.loop-number-test.true
    (c.in_ok-place_next.ensures.waits c.if-not-branch.true)

pub returns-then-placing-transactions-clause-none : goal.returns-then-placing-transactions-clause-none
returns-then-placing-transactions-clause-none c =
    let p = c.loop-number.placing in
    left_no_order c.args.transactions.now p.placed.items p.left c.args.order.now p.places.items c.loop-number.invariant.placing
    (c.loop-number.invariant.named ∙ take_all c.loop-number.number-index c.args.order.now c.loop-number-test.false) c.if-placing-transactions.true

pub returns-clause-placed : goal.returns-clause-placed
returns-clause-placed c =
    let p = c.loop-number.placing in
    rw c.into_places.ensures
    (all_placed c.args.transactions.now c.args.index.now p.placed.items p.left c.args.order.now p.places.items c.requires c.loop-number.invariant.placing
    (c.loop-number.invariant.named ∙ take_all c.loop-number.number-index c.args.order.now c.loop-number-test.false) c.if-placing-transactions.false)
