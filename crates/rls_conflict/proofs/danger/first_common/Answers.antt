use Rattle.std.proofs.Common.{refl, ap, ◌∙◌, sym}
use Rattle.std.specs.Map.Iter.{deref}
use Rattle.std.proofs.lemmas.Map.Iter.{rest_more}
use Rattle.std.proofs.lemmas.Bool.{or_left}
use Rattle.rls_source.specs.Footprints.{is_object, is_among}
use Rattle.rls_source.specs.FootprintLaws.{is_object_same}
use Rattle.rls_conflict.proofs.danger.first_common.Goals as goal

pub returns-then-contains : goal.returns-then-contains
returns-then-contains c =
    let first = rest_more deref c.loop-object.object-iterator c.next.new.self c.next.result c.in-Some.object c.in-Some.is c.next.ensures.steps in
    record {
      in_noted = c.loop-object.invariant.among c.in-Some.object.now (
          ap (λ rest. is_among rest c.in-Some.object.now) first
          ∙ or_left (is_object c.in-Some.object.now c.in-Some.object.now) (is_among c.next.new.self c.in-Some.object.now) ((is_object_same c.in-Some.object.now c.in-Some.object.now).1 refl)
          );
      in_covered = sym c.contains.ensures ∙ c.if-contains.true;
    }
