use Rattle.std.proofs.Common.{ap, sym, ◌∙◌, ◌≡◌, Some, ◌++◌, ◌∷◌, []}
use Rattle.std.specs.BTreeMap.{is_at}
use Rattle.std.specs.Map.{lookup, set_value}
use Rattle.std.specs.Option.{option_copied_mut}
use Rattle.rls_verdict.specs.rls_catalog.specs.State.{name_order}
use Rattle.rls_grant.proofs.HandedLemmas.{added}
use Rattle.rls_grant.proofs.optioning.add.Goals as goal

pub returns-in-Ok : goal.returns-in-Ok
returns-in-Ok c =
    let found : lookup (is_at (name_order c.args.grantor.now)) c.args.index.now.entries ≡ Some c.in-Some.grantees.now = sym c.get_mut.ensures.value ∙ ap option_copied_mut c.in-Some.is in
    let pushed : c.push.new.self ≡ c.in-Some.grantees.now ++ c.args.grantee.now ∷ [] = c.in-Ok.ensures.ok ∙ ap (λ name. c.in-Some.grantees.now ++ name ∷ []) c.in_ok-grantee.ensures in
    added c.args.grantor.now c.args.grantee.now c.args.index.now.entries (c.get_mut.follows.lender c.push.new.self).entries c.in-Some.grantees.now found
    ((c.get_mut.follows.holds c.push.new.self).0 ∙ ap (set_value (is_at (name_order c.args.grantor.now)) c.args.index.now.entries) pushed)
