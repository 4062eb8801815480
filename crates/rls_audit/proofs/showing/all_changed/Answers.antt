use Rattle.std.specs.Prelude.{map}
use Rattle.std.specs.List.{All, AllZip, flat_map}
use Rattle.std.proofs.Common.{subst, sym, take}
use Rattle.std.proofs.lemmas.List.{take_all}
use Rattle.rls_core.specs.Posts.{effect_of}
use Rattle.rls_audit.specs.Lines.{ordered_changes}
use Rattle.rls_audit.specs.Showing.{CanShow}
use Rattle.rls_audit_lines.specs.Unshown.{Fails}
use Rattle.rls_audit.specs.ShownParts.{ShowsChange, Adds}
use Rattle.rls_audit.proofs.ShowingLemmas.{one_of_all, part_fails}
use Rattle.rls_audit.proofs.ZipLemmas.{flat_more}
use Rattle.rls_audit.proofs.showing.all_changed.Goals as goal

pub loop-posted-preserved : goal.loop-posted-preserved
loop-posted-preserved c =
    subst (AllZip ShowsChange c.push_effect.new.all) (sym (flat_more ordered_changes effect_of c.args.posts.now c.loop-posted.posted-index c.posted-item.result c.loop-posted-test.true c.posted-item.is))
    (subst (λ p. Adds c.loop-posted.all c.push_effect.new.all (ordered_changes (effect_of p))) c.get.ensures c.in-Ok.ensures
    (flat_map ordered_changes (map effect_of (take c.loop-posted.posted-index c.args.posts.now))) c.loop-posted.invariant)

pub returns-in-Err : goal.returns-in-Err
returns-in-Err c =
    part_fails c.in-Err.why (CanShow (effect_of c.posted-item.result)) (All CanShow (map effect_of c.args.posts.now))
    (one_of_all CanShow effect_of c.args.posts.now c.loop-posted.posted-index c.posted-item.result c.loop-posted-test.true c.posted-item.is)
    (subst (λ p. Fails c.in-Err.why (CanShow (effect_of p))) c.get.ensures c.in-Err.ensures)

pub returns : goal.returns
returns c = subst (λ ps. AllZip ShowsChange c.loop-posted.all (flat_map ordered_changes (map effect_of ps))) (take_all c.loop-posted.posted-index c.args.posts.now c.loop-posted-test.false) c.loop-posted.invariant
