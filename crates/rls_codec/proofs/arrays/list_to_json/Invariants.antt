use Rattle.std.proofs.Common.{◌≡◌, take, map}
use Rattle.std.specs.List.{All}
use Rattle.serde_json.specs.View.{view}
use Rattle.rls_codec.proofs.arrays.list_to_json.Given as goal

-- the first items are written, and fit
abbrev pub invariant-loop-item : goal.invariant-loop-item
invariant-loop-item g l = (map view l.values.items ≡ map g.T.Coded.codec.written (take l.item-index l.items)) × All g.T.Coded.codec.Fits (take l.item-index l.items)
