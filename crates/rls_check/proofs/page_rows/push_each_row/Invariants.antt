use Rattle.std.proofs.Common.{◌≡◌, ◌++◌, length, map}
use Rattle.std.specs.List.{flat_map}
use Rattle.rls_check.specs.PageRows.{row_pieces}
use Rattle.rls_check.specs.Pieces.{page_text}
use Rattle.rls_check.proofs.page_rows.push_each_row.Given as goal

-- what is written, with what is written of those that are left, is the whole
abbrev pub invariant-loop-rows : goal.invariant-loop-rows
invariant-loop-rows l = l.page.items ++ flat_map (λ one. page_text (row_pieces l.form.role.now l.columns l.form.explained.now one)) (map (λ one. one.now) l.rows) ≡ l.fn.page.items ++ flat_map (λ one. page_text (row_pieces l.form.role.now l.columns l.form.explained.now one)) (map (λ one. one.now) l.fn.rows)

abbrev pub decreases-loop-rows : goal.decreases-loop-rows
decreases-loop-rows l = length l.rows
