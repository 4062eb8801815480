use Rattle.std.proofs.Common.{◌≡◌, drop}
use Rattle.rls_role.specs.rls_source.specs.Sequences.{each_or_refused}
use Rattle.rls_grant.specs.Columns.{column_or_undefined}
use Rattle.rls_grant.proofs.columns.require_each.Given as goal

-- what is left leads to the whole
abbrev pub invariant-loop-name : goal.invariant-loop-name
invariant-loop-name l = each_or_refused (column_or_undefined l.table.columns) l.names ≡ each_or_refused (column_or_undefined l.table.columns) (drop l.name-index l.names)
