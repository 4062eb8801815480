use Rattle.rls_check.proofs.PieceLemmas.{onto}
use Rattle.rls_check.proofs.page_rows.push_cell.Goals as goal

-- one piece behind another
pub returns : goal.returns
returns c = onto _ _ _ _ _ c.in_ok-push_cell_begin.ensures (onto _ _ _ _ _ c.in_ok-push_literal.ensures c.in_ok-push_tag.ensures)
