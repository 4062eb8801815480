use Rattle.std.proofs.Common.{◌≡◌}
use Rattle.std.specs.Prelude.{◌&&◌, ◌||◌, not}
use Rattle.rls_value.specs.declared.object.Object.{Object}
use Rattle.rls_source.specs.Footprints.{footprint_of, is_among}
use Rattle.rls_siread.proofs.promotion.missing.Given as goal

-- those so far, and those of what is left, are all that aren't among the others
abbrev pub invariant-loop-object : goal.invariant-loop-object
invariant-loop-object l = (object : Object) → (is_among (footprint_of l.missing) object || (is_among l.object-iterator object && not (is_among l.others object))) ≡ (is_among l.objects object && not (is_among l.others object))
