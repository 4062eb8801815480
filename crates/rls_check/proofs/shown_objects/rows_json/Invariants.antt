use Rattle.std.proofs.Common.{◌≡◌, take, map}
use Rattle.serde_json.specs.View.{view}
use Rattle.rls_check.specs.ShownObjects.{row_data}
use Rattle.rls_check.proofs.shown_objects.rows_json.Given as goal

-- the first rows are written
abbrev pub invariant-loop-one : goal.invariant-loop-one
invariant-loop-one l = map view l.values.items ≡ map row_data (take l.one-index l.rows)
