use Rattle.std.proofs.Common.{◌≡◌, ◌++◌, map}
use Rattle.std.specs.Vec.Iter.{into_iter_items}
use Rattle.rls_expr.specs.Scopes.{in_scope}
use Rattle.rls_explain.specs.Found.{with_details_found}
use Rattle.rls_explain.proofs.detailing.detail_each.Given as goal

-- the decisions so far, and those that are left, are all
abbrev pub invariant-loop-one : goal.invariant-loop-one
invariant-loop-one l =
    let tells = with_details_found l.catalog l.relations l.role (in_scope l.from) in
    l.all.items ++ map tells (into_iter_items l.one-iterator) ≡ map tells l.fn.explained.items
