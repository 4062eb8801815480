use Rattle.std.proofs.Common.{◌≡◌}
use Rattle.std.specs.List.{list_any}
use Rattle.rls_source.specs.Footprints.{is_among}
use Rattle.rls_conflict.proofs.promoting.have_common.Given as goal

-- those that are left tell of all
abbrev pub invariant-loop-object : goal.invariant-loop-object
invariant-loop-object l = list_any (is_among l.covered) l.object-iterator ≡ list_any (is_among l.covered) l.noted
