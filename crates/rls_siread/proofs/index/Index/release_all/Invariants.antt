use Rattle.std.proofs.Common.{◌≡◌}
use Rattle.std.specs.Prelude.{if◌then◌else◌}
use Rattle.rls_value.specs.declared.object.Object.{Object}
use Rattle.rls_source.specs.Footprints.{is_among}
use Rattle.rls_siread.specs.Locks.{without}
use Rattle.rls_siread.specs.Index.{held_at}
use Rattle.rls_siread.proofs.index.Index.release_all.Given as goal

-- to hold none of those that are left leads to holding none
abbrev pub invariant-loop-object : goal.invariant-loop-object
invariant-loop-object l = (object : Object) → (if is_among l.object-iterator object then without (held_at l.self.holders.entries object) l.txn else held_at l.self.holders.entries object) ≡ (if is_among l.objects object then without (held_at l.fn.self.holders.entries object) l.txn else held_at l.fn.self.holders.entries object)
