use Rattle.std.proofs.Common.{◌≡◌}
use Rattle.rls_value.specs.declared.object.Object.{Object}
use Rattle.std.specs.Prelude.{true}
use Rattle.rls_source.specs.Footprints.{is_among}
use Rattle.rls_conflict.specs.Named.{meets}
use Rattle.rls_conflict.proofs.danger.first_common.Given as goal

-- no object so far is covered; those that are left are among the noted ones
abbrev pub invariant-loop-object : goal.invariant-loop-object
invariant-loop-object l = record {
  none : meets l.object-iterator l.covered ≡ meets l.noted l.covered;
  among : (object : Object) → is_among l.object-iterator object ≡ true → is_among l.noted object ≡ true;
}
