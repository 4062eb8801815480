use Rattle.std.specs.Prelude.{◌≡◌, ◌<◌, ◌++◌, ◌∷◌, [], List, ℕ, length, get_or}
use Rattle.std.proofs.Common.{ap, ◌∙◌, arith}
use Rattle.std.proofs.lemmas.List.{get_or_read, length-set}
use Rattle.rls_conflict.specs.Ordering.{list_at}
use Rattle.rls_conflict.proofs.OrderingLemmas.{place_itself, reader_added}
use Rattle.rls_conflict.proofs.ordering.add_reader.Goals as goal

pub index_mut-list-requires : goal.index_mut-list-requires
index_mut-list-requires c =
    let size = c.loop-place.invariant.size in
    let ok = c.loop-place.lists.ok in
    let within = c.requires (get_or c.args.read.now c.loop-place.place-index 0) (place_itself c.args.read.now c.loop-place.place-index c.loop-place-test.true) in
    omega (arith, size, ok, within)

pub loop-place-preserved : goal.loop-place-preserved
loop-place-preserved c =
    let p = get_or c.args.read.now c.loop-place.place-index 0 in
    let size = c.loop-place.invariant.size in
    let within = c.requires (get_or c.args.read.now c.loop-place.place-index 0) (place_itself c.args.read.now c.loop-place.place-index c.loop-place-test.true) in
    let less : get_or c.args.read.now c.loop-place.place-index 0 < length c.loop-place.lists.items = omega (arith, size, within) in
    let list : c.list.inside.places.items ≡ list_at c.loop-place.lists.items (get_or c.args.read.now c.loop-place.place-index 0) =
    c.list.view_is ∙ get_or_read c.loop-place.lists.items (get_or c.args.read.now c.loop-place.place-index 0) c.index_mut-list.result.now less c.index_mut-list.ensures.value [] in
    record {
      size = length-set c.loop-place.lists.items (get_or c.args.read.now c.loop-place.place-index 0) c.push.new.self.items ∙ size;
      listed = λ place other.
          reader_added c.loop-place.lists.items c.args.lists.now.items c.args.read.now c.loop-place.place-index c.args.reader place other c.push.new.self.items c.loop-place-test.true less
          (c.in_ok-push.ensures.items ∙ ap (λ (places : List ℕ). places ++ c.args.reader ∷ []) list) (c.loop-place.invariant.listed place other);
    }
