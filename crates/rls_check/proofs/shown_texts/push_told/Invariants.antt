use Rattle.std.proofs.Common.{◌≡◌, ◌++◌, filter, length}
use Rattle.rls_check.specs.ShownTexts.{all_text, is_told}
use Rattle.rls_check.proofs.shown_texts.push_told.Given as goal

-- what is written, and what is written of the rows that are left, make the whole
abbrev pub invariant-loop-rows : goal.invariant-loop-rows
invariant-loop-rows l = l.text.items ++ all_text l.state (filter is_told l.rows) ≡ l.fn.text.items ++ all_text l.state (filter is_told l.fn.rows)

abbrev pub decreases-loop-rows : goal.decreases-loop-rows
decreases-loop-rows l = length l.rows
