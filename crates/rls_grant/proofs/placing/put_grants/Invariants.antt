use Rattle.std.proofs.Common.{◌≡◌}
use Rattle.std.specs.Vec.Iter.{into_iter_items}
use Rattle.rls_grant.specs.Granting.{with_grants}
use Rattle.rls_grant.proofs.placing.put_grants.Given as goal

-- what is left leads to the whole
abbrev pub invariant-loop-grant : goal.invariant-loop-grant
invariant-loop-grant l = with_grants l.grants (into_iter_items l.grant-iterator) ≡ with_grants l.fn.grants l.fn.new
