use Rattle.std.proofs.Common.{◌≡◌}
use Rattle.std.specs.Prelude.{true}
use Rattle.rls_value.specs.declared.object.Object.{Object}
use Rattle.rls_source.specs.Footprints.{is_among}
use Rattle.rls_conflict.specs.Concurrent.{NoneWrote}
use Rattle.rls_conflict.proofs.updaters.first_written.Given as goal

-- where none that is left was written, none was; what is left is among all
abbrev pub invariant-loop-object : goal.invariant-loop-object
invariant-loop-object l = record {
  none : NoneWrote l.object-iterator l.writers l.sireads l.txn l.snap → NoneWrote l.objects l.writers l.sireads l.txn l.snap;
  among : (object : Object) → is_among l.object-iterator object ≡ true → is_among l.objects object ≡ true;
}
