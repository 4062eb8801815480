use Rattle.std.proofs.Common.{ap, ◌∙◌, ◌≡◌, ◌∷◌, ◌++◌, ◌+◌, [], drop}
use Rattle.rls_source.specs.rls_catalog.specs.Membership.{fresh}
use Rattle.rls_role.specs.Granting.{held_in}
use Rattle.rls_role.specs.Holdings.{members_in}
use Rattle.rls_role.proofs.HoldingLemmas.{drop_next, fresh_next, held_next, noted_next}
use Rattle.rls_role.proofs.held_memberships.held_of.Goals as goal

pub loop-member-preserved : goal.loop-member-preserved
loop-member-preserved c =
    let now = c.args.asker.now.state in
    let held = c.loop-member.held in
    let grown = c.hold_member.new.held in
    let member = c.member-item.result in
    let more = drop (c.loop-member.member-index + 1) c.args.members.now in
    let one = fresh (members_in held) (member ∷ []) in
    let grows : grown ≡ held ++ held_in now one = c.in_ok-hold_member.ensures.held ∙ ap (λ s. held ++ held_in s one) c.loop-member.invariant.state in
    let left = fresh (members_in held) (drop c.loop-member.member-index c.args.members.now) in
    let rest : left ≡ one ++ fresh (members_in grown) more =
    ap (fresh (members_in held)) (drop_next c.args.members.now c.loop-member.member-index member c.loop-member-test.true c.member-item.is) ∙ fresh_next now held grown member more grows in
    record {
      state = ap (λ asked. asked.state) c.in_ok-hold_member.ensures.noted ∙ c.loop-member.invariant.state;
      held = held_next now held grown one (fresh (members_in grown) more) left grows rest ∙ c.loop-member.invariant.held;
      noted = noted_next c.loop-member.asker.reads c.hold_member.new.asker.reads one (fresh (members_in grown) more) left (ap (λ asked. asked.reads) c.in_ok-hold_member.ensures.noted) rest ∙ c.loop-member.invariant.noted;
    }
