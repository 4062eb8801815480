use Rattle.std.proofs.Common.{◌≡◌, ◌++◌, drop}
use Rattle.rls_ddl.specs.CreatingTables as spec
use Rattle.rls_ddl.proofs.primary_keys.marked_names.Given as goal

-- what is left leads to the whole
abbrev pub invariant-loop-marked : goal.invariant-loop-marked
invariant-loop-marked l = l.names ++ spec.marked_names (drop l.marked-index l.columns) ≡ spec.marked_names l.columns
