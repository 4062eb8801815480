use Rattle.std.proofs.Common.{rules, ap, sym, ◌∙◌, ◌≡◌, filter, true}
use Rattle.std.specs.List.{list_all}
use Rattle.rls_verdict.specs.rls_catalog.specs.Verdict as spec
use Rattle.rls_policy.proofs.Everyone.{all_are_to}
use Rattle.rls_policy.proofs.choosing.applying_unless_exempt.Goals as goal

pub returns-then-are_to_everyone-clause-policies :
    goal.returns-then-are_to_everyone-clause-policies
returns-then-are_to_everyone-clause-policies g c =
    let found : c.in_ok-kept.kept ≡ spec.asked_of (g.S.RowSource.state c.args.source.now) c.args.table.now c.args.kind c.args.side = c.in_ok-kept.ensures ∙ ap (filter (spec.is_asked c.args.kind c.args.side)) c.in_ok-policies.ensures.found in
    let everyone : list_all spec.is_to_everyone c.in_ok-kept.kept ≡ true = search rules in
    sym (all_are_to (g.S.RowSource.state c.args.source.now) c.args.role.now c.in_ok-kept.kept everyone)
    ∙ ap (filter (spec.is_to (g.S.RowSource.state c.args.source.now) c.args.role.now)) found
