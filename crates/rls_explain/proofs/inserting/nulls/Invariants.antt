use Rattle.std.proofs.Common.{◌≡◌, take}
use Rattle.rls_meaning.specs.rls_dml.specs.Inserting.{nulls}
use Rattle.rls_explain.proofs.inserting.nulls.Given as goal

-- the first columns have their nulls
abbrev pub invariant-loop-column : goal.invariant-loop-column
invariant-loop-column l = l.values.items ≡ nulls (take l._column-index l.columns)
