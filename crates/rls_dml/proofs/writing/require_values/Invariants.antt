use Rattle.std.proofs.Common.{◌≡◌, drop}
use Rattle.rls_guard.specs.rls_source.specs.Sequences.{each_or_refused}
use Rattle.rls_dml.specs.Writing.{has_values}
use Rattle.rls_dml.proofs.writing.require_values.Given as goal

-- what is left is refused as the whole is
abbrev pub invariant-loop-stored : goal.invariant-loop-stored
invariant-loop-stored l = each_or_refused (has_values l.columns l.order) l.rows ≡ each_or_refused (has_values l.columns l.order) (drop l.stored-index l.rows)
