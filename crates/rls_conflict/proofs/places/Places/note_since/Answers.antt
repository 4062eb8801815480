use Rattle.std.specs.Prelude.{ℕ, List, refl, length}
use Rattle.std.proofs.Common.{ap, ◌∙◌, arith}
use Rattle.std.proofs.lemmas.Bool.{le-leb}
use Rattle.std.proofs.lemmas.Option.{slice_get_read}
use Rattle.rls_conflict.specs.Commits.{is_place_in}
use Rattle.rls_conflict.specs.Concurrent.{has_accessed}
use Rattle.rls_conflict.proofs.SinceLemmas.{since_put, since_passed, since_ends, since_tells}
use Rattle.rls_conflict.proofs.places.Places.note_since.Goals as goal
use Rattle.rls_conflict.proofs.places.Places.note_since.Goals.{then-has_accessed+in_ok-put, else-has_accessed}

pub loop-place-preserved : goal.loop-place-preserved
loop-place-preserved c other =
    let test = has_accessed c.args.access c.args.object.now in
    let all = c.args.committed.now in
    let there = slice_get_read all (length all) c.loop-place.place c.index-committed-place.result refl (omega arith) c.index-committed-place.is in
    let tells = since_tells test all c.args.snap c.loop-place.place c.index-committed-place.result c.has_accessed.result there (le-leb c.args.snap c.loop-place.place (omega arith)) c.has_accessed.ensures in
    elim c.if-has_accessed.branch [
      | then-has_accessed+in_ok-put w ↦
          since_put test all c.args.snap (is_place_in c.args.self.now other) (is_place_in c.loop-place.self other) (is_place_in c.if-has_accessed.self other) c.loop-place.place other
          (tells ∙ w.if-has_accessed.true) (c.loop-place.invariant other)
          (ap (λ (places : List ℕ). is_place_in places other) w.self-is ∙ w.in_ok-put.ensures other)
      | else-has_accessed w ↦
          ap (λ (places : List ℕ). is_place_in places other) w.self-is
          ∙ since_passed test all c.args.snap (is_place_in c.args.self.now other) (is_place_in c.loop-place.self other) c.loop-place.place other (tells ∙ w.if-has_accessed.false) (c.loop-place.invariant other)
    ]

pub returns : goal.returns
returns c place =
    since_ends (has_accessed c.args.access c.args.object.now) c.args.committed.now c.args.snap (is_place_in c.args.self.now place) (is_place_in c.loop-place.self place) c.loop-place.place place
    (omega arith) (c.loop-place.invariant place)
