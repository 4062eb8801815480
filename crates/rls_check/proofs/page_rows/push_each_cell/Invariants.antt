use Rattle.std.proofs.Common.{◌≡◌, ◌++◌, length}
use Rattle.rls_check.specs.PageRows.{cell_texts}
use Rattle.rls_check.proofs.page_rows.push_each_cell.Given as goal

-- what is written, with what is written of those that are left, is the whole
abbrev pub invariant-loop-columns : goal.invariant-loop-columns
invariant-loop-columns l = l.page.items ++ cell_texts l.columns l.values l.others ≡ l.fn.page.items ++ cell_texts l.fn.columns l.fn.values l.fn.others

abbrev pub decreases-loop-columns : goal.decreases-loop-columns
decreases-loop-columns l = length l.columns
