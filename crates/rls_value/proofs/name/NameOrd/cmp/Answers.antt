use Rattle.std.proofs.Common.{◌≡◌, List, ℕ, subst}
use Rattle.std.specs.Arc.{arc_str_bytes}
use Rattle.std.specs.Ordering.{nat_cmp}
use Rattle.std.specs.Cmp.Lexicographic.{slice_cmp}
use Rattle.rls_value.proofs.NameHeadLemmas.{head_orders, same_names_tie}
use Rattle.rls_value.proofs.name.NameOrd.cmp.Goals as goal

pub returns-then-is : goal.returns-then-is
returns-then-is c = same_names_tie c.args.self.now c.args.other.now c.if-is.ensures

pub returns-in_default : goal.returns-in_default
returns-in_default c =
    let is = head_orders (arc_str_bytes c.self.inside.letters) (arc_str_bytes c.other.inside.letters) c.self.inside.head c.other.inside.head c.cmp.result c.self.invariant.0 c.other.invariant.0 c.self.invariant.1 c.other.invariant.1 c.cmp.ensures c.in_default.not-Equal in
    subst (λ (x : List ℕ). c.cmp.result ≡ slice_cmp nat_cmp x c.args.other.now) c.self.view_is
    (subst (λ (y : List ℕ). c.cmp.result ≡ slice_cmp nat_cmp (arc_str_bytes c.self.inside.letters) y) c.other.view_is is)
