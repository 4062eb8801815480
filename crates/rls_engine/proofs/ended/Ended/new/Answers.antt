use Rattle.std.proofs.Common.{sym, subst}
use Rattle.rls_engine.specs.Attempts.{IsAttemptOf, IsLeftOn}
use Rattle.rls_engine.specs.Views.{Hold}
use Rattle.rls_engine.proofs.AttemptLemmas.{attempt_held, ended_held}
use Rattle.rls_engine.proofs.ended.Ended.new.Goals as goal

pub invariant_of-result : goal.invariant_of-result
invariant_of-result g c =
    let held : Hold = record { txn = c.held.inside.txn; stand = c.held.inside.at.value } in
    let is : IsLeftOn held c.args.left = subst (λ (h : Hold). IsLeftOn h c.args.left) (sym c.held.view_is) c.requires in
    ended_held held c.args.left c.held.inside.base c.snap_of-snap.result is c.held.invariant.state c.snap_of-snap.ensures

pub returns : goal.returns
returns g c =
    let held : Hold = record { txn = c.held.inside.txn; stand = c.held.inside.at.value } in
    let is : IsLeftOn held c.args.left = subst (λ (h : Hold). IsLeftOn h c.args.left) (sym c.held.view_is) c.requires in
    subst (λ (h : Hold). IsAttemptOf h.stand (record { txn = held.txn; snap = c.snap_of-snap.result; begin = c.args.left.begin; posts = c.args.left.posts })) c.held.view_is
    (attempt_held held c.args.left c.held.inside.base c.snap_of-snap.result is c.held.invariant.base_is c.snap_of-snap.ensures)
