use Rattle.std.proofs.Common.{◌≡◌, false}
use Rattle.rls_value.specs.declared.object.Object.{Object}
use Rattle.rls_source.specs.Footprints.{is_among}
use Rattle.rls_siread.specs.Index.{held_at}
use Rattle.rls_siread.proofs.index.Index.copy.Given as goal

-- the same hold each object that isn't left
abbrev pub invariant-loop-object : goal.invariant-loop-object
invariant-loop-object l = (object : Object) → is_among l.object-iterator object ≡ false → held_at l.copied.holders.entries object ≡ held_at l.self.holders.entries object
