use Rattle.std.proofs.Common.{rules, ◌≡◌, ◌<◌, ◌++◌, Some, None, [], ◌∷◌, length, ap, sym, subst, ◌∙◌}
use Rattle.std.proofs.lemmas.Option.{slice_get_within}
use Rattle.std.specs.Prelude.{slice_get}
use Rattle.rls_value.specs.Names.{one_of}
use Rattle.rls_verdict.specs.rls_catalog.specs.Membership.{fresh}
use Rattle.rls_grant.proofs.GrantOptions.{Sound, sound_owner, own_owner, closed_none, sound_next, keeps_next, closed_next, all_options}
use Rattle.rls_grant.proofs.optioning.holders_by.Goals as goal

pub loop-holder-init : goal.loop-holder-init
loop-holder-init c =
    let start : c.add_unseen.new.names.items ≡ c.args.owner.now ∷ [] = c.in_ok-add_unseen.ensures.names ∙ ap (λ names. names ++ fresh names (c.args.owner.now ∷ [])) c.new-names.ensures.items in
    record {
      sound = λ grants privilege hands. subst (Sound c.args.owner.now grants privilege) (sym start) (sound_owner c.args.owner.now grants privilege);
      closed = λ grants privilege hands. closed_none grants privilege c.add_unseen.new.names.items;
      owner = ap (λ names. one_of names c.args.owner.now) start ∙ own_owner c.args.owner.now;
      seen = c.in_ok-add_unseen.ensures.seen;
    }

pub overflow_add-next : goal.overflow_add-next
overflow_add-next c =
    let found : slice_get c.loop-holder.names.items c.loop-holder.next ≡ Some c.in_ok-holder.holder = search rules in
    let within : c.loop-holder.next < length c.loop-holder.names.items = slice_get_within c.loop-holder.names.items c.loop-holder.next c.in_ok-holder.holder found in
    search rules

pub loop-holder-preserved : goal.loop-holder-preserved
loop-holder-preserved c =
    let found : slice_get c.loop-holder.names.items c.loop-holder.next ≡ Some c.in_ok-holder.holder = search rules in
    record {
      sound = λ grants privilege hands. sound_next c.args.owner.now grants privilege c.loop-holder.names.items c.add_under.new.names.items c.loop-holder.next c.in_ok-holder.holder found
          (c.in_ok-add_under.ensures.names ∙ ap (λ more. c.loop-holder.names.items ++ fresh c.loop-holder.names.items more) (hands c.in_ok-holder.holder)) (c.loop-holder.invariant.sound grants privilege hands);
      closed = λ grants privilege hands. closed_next grants privilege c.loop-holder.names.items c.add_under.new.names.items c.loop-holder.next c.in_ok-holder.holder found
          (c.in_ok-add_under.ensures.names ∙ ap (λ more. c.loop-holder.names.items ++ fresh c.loop-holder.names.items more) (hands c.in_ok-holder.holder)) (c.loop-holder.invariant.closed grants privilege hands);
      owner = keeps_next c.loop-holder.names.items c.add_under.new.names.items _ c.args.owner.now c.in_ok-add_under.ensures.names c.loop-holder.invariant.owner;
      seen = c.in_ok-add_under.ensures.seen;
    }

pub returns : goal.returns
returns c = λ grants privilege hands.
    let past : slice_get c.loop-holder.names.items c.loop-holder.next ≡ None = search rules in
    all_options c.args.owner.now grants privilege c.loop-holder.names.items c.loop-holder.seen c.loop-holder.next c.loop-holder.invariant.seen past
    (c.loop-holder.invariant.sound grants privilege hands) c.loop-holder.invariant.owner (c.loop-holder.invariant.closed grants privilege hands)
