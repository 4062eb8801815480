use Rattle.std.proofs.Common.{◌≡◌, ◌++◌, length, map}
use Rattle.std.specs.List.{flat_map}
use Rattle.rls_check.specs.PageRows.{column_pieces}
use Rattle.rls_check.specs.Pieces.{page_text}
use Rattle.rls_check.proofs.page_rows.push_each_column.Given as goal

-- what is written, with what is written of those that are left, is the whole
abbrev pub invariant-loop-columns : goal.invariant-loop-columns
invariant-loop-columns l = l.page.items ++ flat_map (λ column. page_text (column_pieces column)) l.columns ≡ l.fn.page.items ++ flat_map (λ column. page_text (column_pieces column)) l.fn.columns

abbrev pub decreases-loop-columns : goal.decreases-loop-columns
decreases-loop-columns l = length l.columns
