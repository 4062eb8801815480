use Rattle.std.proofs.Common.{◌≡◌, ◌++◌, length, map}
use Rattle.std.specs.List.{flat_map}
use Rattle.rls_check.specs.PageParts.{sees_row}
use Rattle.rls_check.specs.Pieces.{page_text}
use Rattle.rls_check.proofs.page_parts.push_each_seen.Given as goal

-- what is written, with what is written of those that are left, is the whole
abbrev pub invariant-loop-rows : goal.invariant-loop-rows
invariant-loop-rows l = l.page.items ++ flat_map (λ row. page_text (sees_row l.seen row)) l.rows ≡ l.fn.page.items ++ flat_map (λ row. page_text (sees_row l.seen row)) l.fn.rows

abbrev pub decreases-loop-rows : goal.decreases-loop-rows
decreases-loop-rows l = length l.rows
