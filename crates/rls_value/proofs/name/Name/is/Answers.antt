use Rattle.std.proofs.Common.{rules, ◌≡◌, ◌≤◌, List, ℕ, length, sym, subst}
use Rattle.rls_value.specs.Names.{IsName}
use Rattle.rls_value.specs.NameHeads.{head_of}
use Rattle.rls_value.proofs.NameHeadLemmas.{heads_tell}
use Rattle.rls_value.proofs.name.Name.is.Goals as goal

pub returns-then-is_short-2 : goal.returns-then-is_short-2
returns-then-is_short-2 c =
    let name = subst (λ (x : List ℕ). IsName x) c.self.view_is c.self.invariant.0 in
    let other = subst (λ (x : List ℕ). IsName x) c.other.view_is c.other.invariant.0 in
    let head = subst (λ (x : List ℕ). c.self.inside.head ≡ head_of 8 x) c.self.view_is c.self.invariant.1 in
    let others = subst (λ (x : List ℕ). c.other.inside.head ≡ head_of 8 x) c.other.view_is c.other.invariant.1 in
    let short : length c.args.self.now ≤ 8 = search (rules, c.if-is_short.ensures) in
    let few : length c.args.other.now ≤ 8 = search (rules, c.if-is_short-2.ensures) in
    sym (heads_tell c.args.self.now c.args.other.now c.self.inside.head c.other.inside.head name other head others (search (rules, c.if-self-other.false)) short few)
