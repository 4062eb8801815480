use Rattle.rls_check.proofs.PieceLemmas.{onto}
use Rattle.rls_check.proofs.page_rows.push_other_chips.Goals as goal

-- one piece behind another
pub returns : goal.returns
returns c = onto _ _ _ _ _ c.in_ok-push_chip.ensures (onto _ _ _ _ _ c.in_ok-push_chip-2.ensures (onto _ _ _ _ _ c.in_ok-push_chip-3.ensures (onto _ _ _ _ _ c.in_ok-push_chip-4.ensures (onto _ _ _ _ _ c.in_ok-push_chip-5.ensures (onto _ _ _ _ _ c.in_ok-push_chip-6.ensures c.in_ok-push_chip-7.ensures)))))
