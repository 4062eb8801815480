use Rattle.std.specs.Prelude.{List}
use Rattle.std.specs.List.{IsDistinct}
use Rattle.std.specs.Str.{bytes_eq}
use Rattle.std.proofs.Common.{ap, sym, subst, ◌∙◌}
use Rattle.rls_role.specs.Holdings.{members_in, memberships_as}
use Rattle.rls_role.specs.declared.holding.HeldMembership.{HeldMembership}
use Rattle.rls_role.proofs.HoldingLemmas.{found_under, members_under}
use Rattle.rls_role.proofs.holding.Holdings.find.Goals as goal

pub returns-clause-found : goal.returns-clause-found
returns-clause-found c =
    c.get.ensures.value ∙ found_under c.self.inside.by_member.entries c.args.member.now
    ∙ ap (λ (held : List HeldMembership). memberships_as held c.args.member.now) c.self.view_is

pub returns-clause-distinct : goal.returns-clause-distinct
returns-clause-distinct c =
    subst (IsDistinct bytes_eq) (sym (members_under c.self.inside.by_member.entries) ∙ ap (λ (held : List HeldMembership). members_in held) c.self.view_is) c.len-distinct.ensures.unique
