use Rattle.std.proofs.Common.{subst}
use Rattle.rls_check.specs.declared.running.RanAlong.TheVariants as along
use Rattle.rls_check.specs.Committing.{HasRunAlong}
use Rattle.rls_check.proofs.RunningLemmas.{same_end, other_end}
use Rattle.rls_check.proofs.checking.check_along.Goals as goal

pub returns-then-branch : goal.returns-then-branch
returns-then-branch g c =
    let ts = c.args.transactions.now in
    let it = c.run_along.new.committing in
    let ran : HasRunAlong ts c.args.places.now (along.Agrees c.in-Agrees.end) it = subst (λ ran. HasRunAlong ts c.args.places.now ran it) c.in-Agrees.is c.in_ok-end.ensures in
    same_end ts c.args.places.now it c.in-Agrees.end c.in_ok-ends_in-in-Agrees.field-0 ran c.requires (λ deltas placed h all. c.in_ok-ends_in-in-Agrees.ensures deltas placed h all) c.if-branch.true

pub returns-in-Agrees : goal.returns-in-Agrees
returns-in-Agrees g c =
    let ts = c.args.transactions.now in
    let it = c.run_along.new.committing in
    let ran : HasRunAlong ts c.args.places.now (along.Agrees c.in-Agrees.end) it = subst (λ ran. HasRunAlong ts c.args.places.now ran it) c.in-Agrees.is c.in_ok-end.ensures in
    other_end ts c.args.places.now it c.in-Agrees.end c.in_ok-ends_in-in-Agrees.field-0 ran c.requires (λ deltas placed h all. c.in_ok-ends_in-in-Agrees.ensures deltas placed h all) c.if-branch.false
