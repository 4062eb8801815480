use Rattle.std.proofs.Common.{◌≡◌, length}
use Rattle.std.specs.List.{list_any}
use Rattle.rls_catalog.specs.State.{is_same_id}
use Rattle.rls_check.proofs.filtering.is_row_among.Given as goal

-- what is left leads to the answer
abbrev pub invariant-loop-rows : goal.invariant-loop-rows
invariant-loop-rows l = list_any (is_same_id l.id) l.rows ≡ list_any (is_same_id l.id) l.fn.rows

abbrev pub decreases-loop-rows : goal.decreases-loop-rows
decreases-loop-rows l = length l.rows
