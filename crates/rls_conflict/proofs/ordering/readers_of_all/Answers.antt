use Rattle.std.specs.Prelude.{◌≡◌, ◌||◌, ◌&&◌, ℕ, List, Some, length, slice_get, nat_eq, nat_lt, refl}
use Rattle.std.proofs.Common.{ap, sym, ◌∙◌, arith}
use Rattle.std.proofs.lemmas.Option.{slice_get_read}
use Rattle.rls_conflict.specs.declared.committed.Committed.{Committed}
use Rattle.rls_conflict.specs.Commits.{is_place_in}
use Rattle.rls_conflict.specs.Ordering.{read_in, readers_in}
use Rattle.rls_conflict.proofs.ListedLemmas.{later_more, read_within, all_listed}
use Rattle.rls_conflict.proofs.ordering.readers_of_all.Goals as goal

pub add_reader-requires : goal.add_reader-requires
add_reader-requires c place there =
    let found : slice_get c.args.committed.now c.loop-place.place ≡ Some c.index-committed-place.result =
    slice_get_read c.args.committed.now (length c.args.committed.now) c.loop-place.place c.index-committed-place.result refl c.loop-place-test.true c.index-committed-place.is in
    let read : c.as_slice.result.now ≡ read_in (slice_get c.args.committed.now c.loop-place.place) = c.as_slice.ensures.value ∙ ap (λ (it : Committed). it.read.items) (sym c.index-committed-place.is) ∙ ap read_in (sym found) in
    let within = read_within c.args.committed.now c.requires place c.loop-place.place (ap (λ (places : List ℕ). is_place_in places place) (sym read) ∙ there) in
    let size = c.loop-place.invariant.size in
    omega (arith, within, size)

pub loop-place-preserved : goal.loop-place-preserved
loop-place-preserved c =
    let found : slice_get c.args.committed.now c.loop-place.place ≡ Some c.index-committed-place.result =
    slice_get_read c.args.committed.now (length c.args.committed.now) c.loop-place.place c.index-committed-place.result refl c.loop-place-test.true c.index-committed-place.is in
    let read : c.as_slice.result.now ≡ read_in (slice_get c.args.committed.now c.loop-place.place) = c.as_slice.ensures.value ∙ ap (λ (it : Committed). it.read.items) (sym c.index-committed-place.is) ∙ ap read_in (sym found) in
    record {
      size = c.in_ok-add_reader.ensures.size ∙ c.loop-place.invariant.size;
      listed = λ place reader.
          c.in_ok-add_reader.ensures.ok place reader
          ∙ (λ i. c.loop-place.invariant.listed place reader i || (nat_eq reader c.loop-place.place && is_place_in (read i) place))
          ∙ later_more (is_place_in (readers_in (slice_get c.args.committed.now place)) reader) (λ other. is_place_in (read_in (slice_get c.args.committed.now other)) place) reader c.loop-place.place;
    }

pub returns : goal.returns
returns c =
    let all : c.loop-place.place ≡ length c.args.committed.now = (let end = c.loop-place.auto.place-end in let past = c.loop-place-test.false in omega (arith, end, past)) in
    all_listed c.args.committed.now c.requires c.put_least_last.new.lists.items (c.put_least_last.ensures.size ∙ c.loop-place.invariant.size) (λ place reader.
    c.put_least_last.ensures.same place reader
    ∙ c.loop-place.invariant.listed place reader
    ∙ ap (λ k. is_place_in (readers_in (slice_get c.args.committed.now place)) reader || (nat_lt reader k && is_place_in (read_in (slice_get c.args.committed.now reader)) place)) all)
