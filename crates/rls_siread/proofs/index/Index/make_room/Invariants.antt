use Rattle.std.proofs.Common.{◌≡◌}
use Rattle.std.specs.Prelude.{◌||◌, true}
use Rattle.rls_value.specs.declared.object.Object.{Object}
use Rattle.rls_source.specs.Footprints.{is_among}
use Rattle.rls_siread.specs.Index.{shown, is_ready}
use Rattle.rls_siread.proofs.index.Index.make_room.Given as goal

-- nobody holds more or less; each object so far has room
abbrev pub invariant-loop-object : goal.invariant-loop-object
invariant-loop-object l = record {
  shown : shown l.self.holders.entries ≡ shown l.fn.self.holders.entries;
  ready : (object : Object) → is_among l.objects object ≡ true → (is_ready l.self.holders.entries l.txn object || is_among l.object-iterator object) ≡ true;
}
