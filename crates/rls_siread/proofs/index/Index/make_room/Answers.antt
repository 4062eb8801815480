use Rattle.std.specs.Prelude.{◌≡◌, ◌∷◌, ◌||◌}
use Rattle.std.proofs.Common.{ap, sym, ◌∙◌}
use Rattle.std.specs.Map.Iter.{deref}
use Rattle.std.proofs.lemmas.Map.Iter.{rest_more}
use Rattle.rls_source.specs.Footprints.{is_among}
use Rattle.rls_siread.specs.Index.{is_ready}
use Rattle.rls_siread.proofs.IndexLaws.{ready_next}
use Rattle.rls_siread.proofs.index.Index.make_room.Goals as goal

pub loop-object-preserved : goal.loop-object-preserved
loop-object-preserved c =
    let first : c.loop-object.object-iterator ≡ c.in-Some.object.now ∷ c.next.new.self = rest_more deref c.loop-object.object-iterator c.next.new.self c.next.result c.in-Some.object c.in-Some.is c.next.ensures.steps in
    record {
      shown = c.in_ok-make_room_at.ensures.shown ∙ c.loop-object.invariant.shown;
      ready = λ object among.
          ready_next c.loop-object.self.holders.entries c.make_room_at.new.self.holders.entries c.args.txn c.in-Some.object.now c.next.new.self c.in_ok-make_room_at.ensures.kept c.in_ok-make_room_at.ensures.ready object
          (ap (λ rest. is_ready c.loop-object.self.holders.entries c.args.txn object || is_among rest object) (sym first) ∙ c.loop-object.invariant.ready object among);
    }
