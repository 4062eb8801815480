use Rattle.std.proofs.Common.{rules, ap, sym, ◌∙◌, ◌≡◌, ◌++◌, ◌∷◌}
use Rattle.std.specs.Option.{option_copied}
use Rattle.rls_verdict.specs.rls_catalog.specs.Privileges.{optioned_by}
use Rattle.rls_grant.specs.Handed.{under}
use Rattle.rls_grant.proofs.HandedLemmas.{next_added}
use Rattle.rls_grant.proofs.optioning.index_of.Goals as goal

pub loop-grant-preserved-in-Continue-1 : goal.loop-grant-preserved-in-Continue-1
loop-grant-preserved-in-Continue-1 c = λ name.
    let first : c.loop-grant.grant-iterator ≡ c.in-Some.grant.now ∷ c.next.new.self = search rules in
    next_added c.args.privilege name c.in-Some.grant.now c.in-Some-handed_to.grantee.now c.loop-grant.index.entries c.add.new.index.entries c.next.new.self
    (sym c.handed_to.ensures ∙ ap option_copied c.in-Some-handed_to.is) c.in_ok-add.ensures
    ∙ ap (λ these. under name c.loop-grant.index.entries ++ optioned_by these c.args.privilege name) (sym first)
    ∙ c.loop-grant.invariant name
