use Rattle.std.proofs.Common.{◌≡◌, drop, filter}
use Rattle.std.specs.Prelude.{not, slice_get}
use Rattle.rls_value.specs.Names.{one_of}
use Rattle.rls_grant.proofs.lacking.first_outside.Given as goal

-- what is left leads to the whole
abbrev pub invariant-loop-column : goal.invariant-loop-column
invariant-loop-column l = slice_get (filter (λ column. not (one_of l.granted column)) l.columns) 0 ≡ slice_get (filter (λ column. not (one_of l.granted column)) (drop l.column-index l.columns)) 0
