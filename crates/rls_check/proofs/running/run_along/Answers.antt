use Rattle.std.specs.Prelude.{get_or}
use Rattle.std.proofs.Common.{◌∙◌, subst}
use Rattle.rls_check.specs.declared.running.RanAlone.TheVariants as alone
use Rattle.rls_check.specs.Audited.{transaction_at}
use Rattle.rls_check.specs.Checking.{IsRunAlone}
use Rattle.rls_check.proofs.RunningLemmas.{next_agrees, next_differs, all_ran}
use Rattle.rls_check.proofs.running.run_along.Goals as goal

pub returns : goal.returns
returns g c = all_ran c.args.transactions.now c.args.places.now c.loop-place.place-index c.loop-place.state c.loop-place.committing c.loop-place.invariant c.loop-place-test.false

pub returns-in-Differs : goal.returns-in-Differs
returns-in-Differs g c =
    let ts = c.args.transactions.now in
    let place = get_or c.args.places.now c.loop-place.place-index 0 in
    let one : IsRunAlone c.loop-place.state (transaction_at ts place) (alone.Differs c.in-Differs.finding) =
    subst (IsRunAlone c.loop-place.state (transaction_at ts place)) c.in-Differs.is (subst (λ t. IsRunAlone c.loop-place.state t c.in_ok-after.field-0) (c.in_ok-transaction.ensures ∙ c.transaction_at.ensures) c.in_ok-after.ensures) in
    next_differs ts c.args.places.now c.loop-place.place-index c.loop-place.state c.loop-place.committing c.loop-place.invariant c.loop-place.committing c.in-Differs.finding c.loop-place-test.true one

pub loop-place-preserved : goal.loop-place-preserved
loop-place-preserved g c =
    let ts = c.args.transactions.now in
    let place = get_or c.args.places.now c.loop-place.place-index 0 in
    let one : IsRunAlone c.loop-place.state (transaction_at ts place) (alone.Agrees c.in-Agrees.after c.in-Agrees.changes) =
    subst (IsRunAlone c.loop-place.state (transaction_at ts place)) c.in-Agrees.is (subst (λ t. IsRunAlone c.loop-place.state t c.in_ok-after.field-0) (c.in_ok-transaction.ensures ∙ c.transaction_at.ensures) c.in_ok-after.ensures) in
    next_agrees ts c.args.places.now c.loop-place.place-index c.loop-place.state c.loop-place.committing c.loop-place.invariant c.in-Agrees.after c.put.new.self c.in-Agrees.changes c.loop-place-test.true one
    (λ deltas placed h free. c.in_ok-put-in-Agrees.ensures deltas placed h free)
