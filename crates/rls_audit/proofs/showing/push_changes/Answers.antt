use Rattle.std.specs.Prelude.{◌+◌}
use Rattle.std.specs.List.{All}
use Rattle.std.proofs.Common.{subst, sym, take}
use Rattle.rls_audit.specs.Showing.{CanTell}
use Rattle.rls_audit.specs.ShownParts.{Adds}
use Rattle.rls_audit.proofs.ShowingLemmas.{adds_none, adds_more, adds_whole, one_of, part_fails}
use Rattle.rls_audit.proofs.showing.push_changes.Goals as goal

pub loop-change-init : goal.loop-change-init
loop-change-init c = adds_none c.args.all.now

pub loop-change-preserved : goal.loop-change-preserved
loop-change-preserved c =
    subst (λ all. Adds c.args.all.now all (take (c.loop-change.change-index + 1) c.args.changes.now)) (sym c.in_ok-push-in-Ok.ensures.ok)
    (adds_more c.args.all.now c.loop-change.all c.args.changes.now c.loop-change.change-index c.in-Ok.changed c.change-item.result c.loop-change-test.true c.change-item.is c.loop-change.invariant c.in-Ok.ensures)

pub returns-in-Err : goal.returns-in-Err
returns-in-Err c =
    part_fails c.in-Err.why (CanTell c.change-item.result) (All CanTell c.args.changes.now)
    (one_of CanTell c.args.changes.now c.loop-change.change-index c.change-item.result c.loop-change-test.true c.change-item.is) c.in-Err.ensures

pub returns : goal.returns
returns c = adds_whole c.args.all.now c.loop-change.all c.args.changes.now c.loop-change.change-index c.loop-change-test.false c.loop-change.invariant
