use Rattle.std.proofs.Common.{refl, ap, ◌∙◌, sym, subst}
use Rattle.std.specs.Prelude.{List}
use Rattle.std.specs.Map.Iter.{deref}
use Rattle.std.proofs.lemmas.Map.Iter.{rest_more}
use Rattle.std.proofs.lemmas.Bool.{or_left, or_right}
use Rattle.rls_value.specs.declared.object.Object.{Object}
use Rattle.rls_source.specs.Footprints.{is_object, is_among}
use Rattle.rls_source.specs.FootprintLaws.{is_object_same}
use Rattle.rls_conflict.specs.Concurrent.{NoneWrote}
use Rattle.rls_conflict.proofs.UpdaterLemmas.{none_more}
use Rattle.rls_conflict.proofs.updaters.first_written.Goals as goal

pub returns-in-Some-writer_of : goal.returns-in-Some-writer_of
returns-in-Some-writer_of c =
    let first = rest_more deref c.loop-object.object-iterator c.next.new.self c.next.result c.in-Some.object c.in-Some.is c.next.ensures.steps in
    record {
      among = c.loop-object.invariant.among c.in-Some.object.now (
          ap (λ rest. is_among rest c.in-Some.object.now) first
          ∙ or_left (is_object c.in-Some.object.now c.in-Some.object.now) (is_among c.next.new.self c.in-Some.object.now) ((is_object_same c.in-Some.object.now c.in-Some.object.now).1 refl)
          );
      by_other = c.in-Some-writer_of.ensures;
    }

pub loop-object-preserved : goal.loop-object-preserved
loop-object-preserved c =
    let first = rest_more deref c.loop-object.object-iterator c.next.new.self c.next.result c.in-Some.object c.in-Some.is c.next.ensures.steps in
    record {
      none = λ none. c.loop-object.invariant.none (subst (λ (objects : List Object). NoneWrote objects c.args.writers.now c.args.sireads.now c.args.txn c.args.snap) (sym first)
          (none_more c.in-Some.object.now c.next.new.self c.args.writers.now c.args.sireads.now c.args.txn c.args.snap c.in_default.ensures none));
      among = λ object is. c.loop-object.invariant.among object (
          ap (λ rest. is_among rest object) first ∙ or_right (is_object object c.in-Some.object.now) (is_among c.next.new.self object) is
          );
    }
