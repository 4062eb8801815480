use Rattle.std.proofs.Common.{◌≡◌, [], ◌∷◌}
use Rattle.std.specs.Prelude.{if◌then◌else◌}
use Rattle.rls_value.specs.declared.object.Object.{Object}
use Rattle.rls_source.specs.Footprints.{is_among}
use Rattle.rls_siread.proofs.IndexLaws.{txns_in, found_in}
use Rattle.rls_siread.proofs.index.Index.alone.Given as goal

-- with those that are left the transaction alone holds each of the objects
abbrev pub invariant-loop-object : goal.invariant-loop-object
invariant-loop-object l = (object : Object) → (if is_among l.object-iterator object then l.txn ∷ [] else txns_in (found_in l.places.items object)) ≡ (if is_among l.objects object then l.txn ∷ [] else [])
