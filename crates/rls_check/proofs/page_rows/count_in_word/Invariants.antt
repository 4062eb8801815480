use Rattle.std.proofs.Common.{◌≡◌, ◌≤◌, ◌+◌, filter, length}
use Rattle.rls_check.specs.PageRows.{is_in_word}
use Rattle.rls_check.proofs.page_rows.count_in_word.Given as goal

-- those so far, and those among the rows that are left, are all; no more were counted than there were
abbrev pub invariant-loop-rows : goal.invariant-loop-rows
invariant-loop-rows l = record {
  counted : l.count + length (filter (is_in_word l.word) l.rows) ≡ length (filter (is_in_word l.word) l.fn.rows);
  bound : l.count + length l.rows ≤ length l.fn.rows;
}

abbrev pub decreases-loop-rows : goal.decreases-loop-rows
decreases-loop-rows l = length l.rows
