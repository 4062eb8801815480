use Rattle.rls_check.proofs.PageTextLemmas.{cells}
use Rattle.rls_check.proofs.page_rows.push_cells.Goals as goal

-- what is written of each
pub returns : goal.returns
returns c = cells _ _ _ _ _ c.in_ok-push_each_cell.ensures
