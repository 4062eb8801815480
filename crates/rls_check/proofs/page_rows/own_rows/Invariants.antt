use Rattle.std.proofs.Common.{◌≡◌, ◌++◌, drop, filter, map}
use Rattle.rls_check.specs.PageRows.{is_of_table}
use Rattle.rls_check.proofs.page_rows.own_rows.Given as goal

-- those so far, and those that are left, are all
abbrev pub invariant-loop-one : goal.invariant-loop-one
invariant-loop-one l = map (λ one. one.now) l.own.items ++ filter is_of_table (drop l.one-index l.rows) ≡ filter is_of_table l.rows
