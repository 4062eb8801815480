use Rattle.std.proofs.Common.{◌≡◌, ◌++◌, length, string_bytes}
use Rattle.rls_check.specs.PageRows.{tables_behind}
use Rattle.rls_check.proofs.page_rows.push_tables_behind.Given as goal

-- what is written, with what is written of those that are left, is the whole
abbrev pub invariant-loop-rows : goal.invariant-loop-rows
invariant-loop-rows l = string_bytes l.text ++ tables_behind l.last l.rows ≡ string_bytes l.fn.text ++ tables_behind l.first l.fn.rows

abbrev pub decreases-loop-rows : goal.decreases-loop-rows
decreases-loop-rows l = length l.rows
