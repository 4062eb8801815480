use Rattle.std.proofs.Common.{◌≡◌, drop}
use Rattle.std.specs.List.{list_any}
use Rattle.rls_expansion.specs.Used as spec
use Rattle.rls_expansion.proofs.used.asks_check.Given as goal

-- none of those so far is for it
abbrev pub invariant-loop-kind : goal.invariant-loop-kind
invariant-loop-kind l = list_any (spec.is_for_check l.policy) (drop l.kind-index l.asks) ≡ list_any (spec.is_for_check l.policy) l.asks
