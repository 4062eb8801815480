use Rattle.rls_conflict.specs.Commits.{is_place_in}
use Rattle.rls_conflict.proofs.PlaceListLemmas.{place_more}
use Rattle.rls_conflict.proofs.places.Places.note_all.Goals as goal

pub loop-number-preserved : goal.loop-number-preserved
loop-number-preserved c place =
    place_more c.args.sireads.now c.args.snap c.args.numbers.now c.loop-number.number-index c.commit.result (is_place_in c.args.self.now place) (is_place_in c.note.new.self place) place c.loop-number-test.true c.commit.ensures
    (is_place_in c.loop-number.self place) (c.loop-number.invariant place) (c.in_ok-note.ensures place)
