use Rattle.std.proofs.Common.{◌≡◌, ◌++◌, length}
use Rattle.rls_check.specs.ShownTexts.{all_text}
use Rattle.rls_check.proofs.shown_texts.push_all.Given as goal

-- what is written, and what is written of the rows that are left, make the whole
abbrev pub invariant-loop-rows : goal.invariant-loop-rows
invariant-loop-rows l = l.text.items ++ all_text l.state l.rows ≡ l.fn.text.items ++ all_text l.state l.fn.rows

abbrev pub decreases-loop-rows : goal.decreases-loop-rows
decreases-loop-rows l = length l.rows
