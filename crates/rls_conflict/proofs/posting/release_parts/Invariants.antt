use Rattle.std.proofs.Common.{◌≡◌, drop}
use Rattle.std.specs.Prelude.{if◌then◌else◌}
use Rattle.std.specs.List.{list_any}
use Rattle.rls_value.specs.declared.object.Object.{Object}
use Rattle.rls_source.specs.Footprints.{is_among}
use Rattle.rls_siread.specs.Locks.{without}
use Rattle.rls_siread.specs.Index.{held_at}
use Rattle.rls_conflict.proofs.posting.release_parts.Given as goal

-- to hold none of those that are left leads to holding none
abbrev pub invariant-loop-part : goal.invariant-loop-part
invariant-loop-part l = (object : Object) →
    (if list_any (λ part. is_among part object) (drop l.part-index l.parts) then without (held_at l.writers object) l.txn else held_at l.writers object)
    ≡ (if list_any (λ part. is_among part object) l.parts then without (held_at l.fn.writers object) l.txn else held_at l.fn.writers object)
