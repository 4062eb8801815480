use Rattle.std.specs.Option.{is_some, option_copied}
use Rattle.std.proofs.Common.{rules, ap, sym, ◌∙◌, ◌≡◌, ◌++◌, append-nil, true, false}
use Rattle.std.proofs.lemmas.Result.{on_ok_weaker}
use Rattle.rls_source.specs.Asked.{members_at}
use Rattle.rls_source.specs.Answering.{having_read}
use Rattle.rls_role.specs.Granting.{held_in, held_reads}
use Rattle.rls_role.proofs.HoldingLemmas.{comes_behind, copied_some, found_among, missed_among, none_comes, one_comes}
use Rattle.rls_role.proofs.held_memberships.hold_member.Goals as goal

pub returns-then-is_some-clause-held : goal.returns-then-is_some-clause-held
returns-then-is_some-clause-held c =
    let there : is_some (option_copied c.find.result) ≡ true = sym (copied_some c.find.result) ∙ search rules in
    sym (append-nil c.args.held.now)
    ∙ ap (λ names. c.args.held.now ++ held_in c.args.asker.now.state names) (none_comes c.args.held.now c.args.member.now (found_among c.args.held.now c.args.member.now (option_copied c.find.result) c.find.ensures.found there))

pub returns-then-is_some-clause-noted : goal.returns-then-is_some-clause-noted
returns-then-is_some-clause-noted c =
    let there : is_some (option_copied c.find.result) ≡ true = sym (copied_some c.find.result) ∙ search rules in
    ap (λ reads. record { state = c.args.asker.now.state; reads = reads }) (sym (append-nil c.args.asker.now.reads))
    ∙ ap (λ names. having_read c.args.asker.now (held_reads names)) (none_comes c.args.held.now c.args.member.now (found_among c.args.held.now c.args.member.now (option_copied c.find.result) c.find.ensures.found there))

pub returns-clause-held : goal.returns-clause-held
unfolding members_at
returns-clause-held c =
    let missed : is_some (option_copied c.find.result) ≡ false = sym (copied_some c.find.result) ∙ search rules in
    on_ok_weaker c.put.result (λ put. comes_behind c.args.asker.now.state c.args.held.now c.put.new.self c.args.member.now c.in_ok-memberships.memberships (option_copied c.find.result) c.find.ensures.found missed
    (c.in_ok-memberships.ensures ∙ search rules) put) c.put.ensures

pub returns-clause-noted : goal.returns-clause-noted
returns-clause-noted c =
    let missed : is_some (option_copied c.find.result) ≡ false = sym (copied_some c.find.result) ∙ search rules in
    on_ok_weaker c.put.result (λ put. c.in_ok-members.ensures.noted
    ∙ ap (λ names. having_read c.args.asker.now (held_reads names)) (one_comes c.args.held.now c.args.member.now (missed_among c.args.held.now c.args.member.now (option_copied c.find.result) c.find.ensures.found missed))) c.put.ensures
