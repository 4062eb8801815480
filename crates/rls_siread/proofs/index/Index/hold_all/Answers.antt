use Rattle.std.specs.Prelude.{◌≡◌, refl, ◌∷◌, if◌then◌else◌}
use Rattle.std.proofs.Common.{ap, sym, ◌∙◌}
use Rattle.std.proofs.lemmas.Bool.{or_left, or_right}
use Rattle.std.specs.Map.Iter.{deref}
use Rattle.std.proofs.lemmas.Map.Iter.{rest_more}
use Rattle.rls_source.specs.Footprints.{is_object, is_among}
use Rattle.rls_source.specs.FootprintLaws.{is_object_same}
use Rattle.rls_siread.specs.Locks.{arrived}
use Rattle.rls_siread.specs.Index.{held_at}
use Rattle.rls_siread.proofs.LocksLaws.{arrived_twice}
use Rattle.rls_siread.proofs.IndexLaws.{each_next}
use Rattle.rls_siread.proofs.index.Index.hold_all.Goals as goal

pub hold-requires : goal.hold-requires
hold-requires c =
    let first : c.loop-object.object-iterator ≡ c.in-Some.object.now ∷ c.next.new.self = rest_more deref c.loop-object.object-iterator c.next.new.self c.next.result c.in-Some.object c.in-Some.is c.next.ensures.steps in
    c.loop-object.invariant.ready c.in-Some.object.now (
    ap (λ rest. is_among rest c.in-Some.object.now) first
    ∙ or_left (is_object c.in-Some.object.now c.in-Some.object.now) (is_among c.next.new.self c.in-Some.object.now) ((is_object_same c.in-Some.object.now c.in-Some.object.now).1 refl)
    )

pub loop-object-preserved : goal.loop-object-preserved
loop-object-preserved c =
    let first : c.loop-object.object-iterator ≡ c.in-Some.object.now ∷ c.next.new.self = rest_more deref c.loop-object.object-iterator c.next.new.self c.next.result c.in-Some.object c.in-Some.is c.next.ensures.steps in
    record {
      ready = λ object among. c.hold.ensures.kept object (c.loop-object.invariant.ready object (
          ap (λ rest. is_among rest object) first ∙ or_right (is_object object c.in-Some.object.now) (is_among c.next.new.self object) among
          ));
      held = λ object.
          each_next (λ txns. arrived txns c.args.txn) c.loop-object.self.holders.entries c.hold.new.self.holders.entries c.in-Some.object.now c.next.new.self (arrived_twice c.args.txn) c.hold.ensures.held object
          ∙ ap (λ rest. if is_among rest object then arrived (held_at c.loop-object.self.holders.entries object) c.args.txn else held_at c.loop-object.self.holders.entries object) (sym first)
          ∙ c.loop-object.invariant.held object;
    }
