use Rattle.std.proofs.Common.{◌≡◌, [], drop}
use Rattle.rls_codec.specs.Looking.{found_after}
use Rattle.serde_json.specs.View.{items_view}
use Rattle.rls_codec.proofs.arrays.read_items.Given as goal

-- what is left leads to the whole
abbrev pub invariant-loop-value : goal.invariant-loop-value
invariant-loop-value g l = found_after g.T.Coded.codec.found l.items.items (items_view (drop l.value-index l.values)) ≡ found_after g.T.Coded.codec.found [] (items_view l.values)
