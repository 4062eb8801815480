use Rattle.std.proofs.Common.{take}
use Rattle.std.specs.List.{All}
use Rattle.rls_lint.specs.Contents.{IsSameTable}
use Rattle.rls_lint.proofs.contents.are_same_tables.Given as goal

-- those so far are the same
abbrev pub invariant-loop-table : goal.invariant-loop-table
invariant-loop-table l = All (IsSameTable l.left l.right) (take l.table-index l.tables)
