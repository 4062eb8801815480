use Rattle.std.proofs.Common.{◌≡◌}
use Rattle.std.specs.Prelude.{true, if◌then◌else◌}
use Rattle.rls_value.specs.declared.object.Object.{Object}
use Rattle.rls_source.specs.Footprints.{is_among}
use Rattle.rls_siread.specs.Locks.{arrived}
use Rattle.rls_siread.specs.Index.{held_at, is_ready}
use Rattle.rls_siread.proofs.index.Index.hold_all.Given as goal

-- each object that is left has room; to hold those leads to holding all
abbrev pub invariant-loop-object : goal.invariant-loop-object
invariant-loop-object l = record {
  ready : (object : Object) → is_among l.object-iterator object ≡ true → is_ready l.self.holders.entries l.txn object ≡ true;
  held : (object : Object) → (if is_among l.object-iterator object then arrived (held_at l.self.holders.entries object) l.txn else held_at l.self.holders.entries object) ≡ (if is_among l.objects object then arrived (held_at l.fn.self.holders.entries object) l.txn else held_at l.fn.self.holders.entries object);
}
