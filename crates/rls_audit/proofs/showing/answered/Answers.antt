use Rattle.std.specs.Prelude.{◌+◌, map}
use Rattle.std.specs.List.{All, AllZip}
use Rattle.std.proofs.Common.{subst, sym, take}
use Rattle.rls_core.specs.Posts.{effect_of}
use Rattle.rls_audit.specs.Showing.{CanShow}
use Rattle.rls_audit_lines.specs.Unshown.{Fails}
use Rattle.rls_audit.specs.ShownParts.{ShowsPost}
use Rattle.rls_audit.proofs.ShowingLemmas.{one_of_all, part_fails}
use Rattle.rls_audit.proofs.ZipLemmas.{zip_more, zip_whole}
use Rattle.rls_audit.proofs.showing.answered.Goals as goal

pub loop-posted-preserved : goal.loop-posted-preserved
loop-posted-preserved c =
    subst (λ all. AllZip ShowsPost all (take (c.loop-posted.posted-index + 1) c.args.posts.now)) (sym c.in_ok-push-in-Ok.ensures.ok)
    (zip_more ShowsPost c.loop-posted.all c.args.posts.now c.loop-posted.posted-index c.in-Ok.answered c.posted-item.result c.loop-posted-test.true c.posted-item.is c.loop-posted.invariant
    (subst (ShowsPost c.in-Ok.answered) c.get.ensures c.in-Ok.ensures))

pub returns-in-Err : goal.returns-in-Err
returns-in-Err c =
    part_fails c.in-Err.why (CanShow (effect_of c.posted-item.result)) (All CanShow (map effect_of c.args.posts.now))
    (one_of_all CanShow effect_of c.args.posts.now c.loop-posted.posted-index c.posted-item.result c.loop-posted-test.true c.posted-item.is)
    (subst (λ p. Fails c.in-Err.why (CanShow (effect_of p))) c.get.ensures c.in-Err.ensures)

pub returns : goal.returns
returns c = zip_whole ShowsPost c.loop-posted.all c.args.posts.now c.loop-posted.posted-index c.loop-posted-test.false c.loop-posted.invariant
