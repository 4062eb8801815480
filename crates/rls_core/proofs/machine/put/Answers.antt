use Rattle.std.proofs.Common.{◌≡◌, ◌∙◌, ap, sym, subst, Some}
use Rattle.std.specs.BTreeMap.{is_at}
use Rattle.std.specs.Map.{set_value}
use Rattle.std.specs.Option.{option_copied_mut}
use Rattle.std.specs.Ordering.{nat_cmp}
use Rattle.std.proofs.lemmas.Map.Steps.{set_value_same}
use Rattle.rls_conflict.specs.Begun.{at_number}
use Rattle.rls_core.specs.Opened.{Opened}
use Rattle.rls_core.specs.Calls.{CanFollow}
use Rattle.rls_core.proofs.machine.put.Goals as goal

pub post-requires-clause-role : goal.post-requires-clause-role
post-requires-clause-role c =
    let found : at_number c.args.work.txn c.args.running.now.entries ≡ Some c.in-Some.opened.now = sym c.get_mut.ensures.value ∙ ap option_copied_mut c.in-Some.is in
    (subst (CanFollow c.args.work) found c.requires.follows).role

pub post-requires-clause-range : goal.post-requires-clause-range
post-requires-clause-range c =
    let found : at_number c.args.work.txn c.args.running.now.entries ≡ Some c.in-Some.opened.now = sym c.get_mut.ensures.value ∙ ap option_copied_mut c.in-Some.is in
    (subst (CanFollow c.args.work) found c.requires.follows).range

pub post-requires-clause-view : goal.post-requires-clause-view
post-requires-clause-view c =
    let found : at_number c.args.work.txn c.args.running.now.entries ≡ Some c.in-Some.opened.now = sym c.get_mut.ensures.value ∙ ap option_copied_mut c.in-Some.is in
    (subst (CanFollow c.args.work) found c.requires.follows).view

pub returns-in-Err-clause-same : goal.returns-in-Err-clause-same
returns-in-Err-clause-same c =
    let found : at_number c.args.work.txn c.args.running.now.entries ≡ Some c.in-Some.opened.now = sym c.get_mut.ensures.value ∙ ap option_copied_mut c.in-Some.is in
    (c.get_mut.follows.holds c.post.new.self).0
    ∙ ap (λ (held : Opened). set_value (is_at (nat_cmp c.args.work.txn)) c.args.running.now.entries held) c.in-Err.ensures.same
    ∙ set_value_same (is_at (nat_cmp c.args.work.txn)) c.args.running.now.entries c.in-Some.opened.now found
