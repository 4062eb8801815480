use Rattle.std.specs.Prelude.{◌≡◌, ◌<◌, ℕ, List, [], length, nat_eq}
use Rattle.std.proofs.Common.{ap, sym, ◌∙◌, arith}
use Rattle.std.proofs.lemmas.List.{get_or_read, length-set}
use Rattle.std.proofs.lemmas.List.Sorted.{list_any-IsPermutation}
use Rattle.rls_conflict.specs.Commits.{is_place_in}
use Rattle.rls_conflict.specs.Ordering.{list_at}
use Rattle.rls_conflict.proofs.OrderingLemmas.{same_put}
use Rattle.rls_conflict.proofs.ordering.put_least_last.Goals as goal

pub loop-place-preserved : goal.loop-place-preserved
loop-place-preserved c =
    let test = c.loop-place-test.true in
    let len = c.len-place-end.ensures in
    let ok = c.args.lists.now.ok.0 in
    let size : length c.loop-place.lists.items ≡ length c.args.lists.now.items = c.loop-place.invariant.size in
    let less : c.loop-place.place < length c.loop-place.lists.items = omega (arith, test, len, ok, size) in
    let list : c.list.inside.places.items ≡ list_at c.loop-place.lists.items c.loop-place.place =
    c.list.view_is ∙ get_or_read c.loop-place.lists.items c.loop-place.place c.index_mut-list.result.now less c.index_mut-list.ensures.value [] in
    record {
      size = length-set c.loop-place.lists.items c.loop-place.place c.reverse.new.self.items ∙ c.loop-place.invariant.size;
      same = λ place reader.
          same_put c.loop-place.lists.items c.loop-place.place place reader c.reverse.new.self.items less
          (sym (list_any-IsPermutation (nat_eq reader) c.sort_unstable.new.self.items c.reverse.new.self.items c.reverse.ensures.permutation)
          ∙ sym (list_any-IsPermutation (nat_eq reader) c.list.inside.places.items c.sort_unstable.new.self.items c.sort_unstable.ensures.permutation)
          ∙ ap (λ (places : List ℕ). is_place_in places reader) list)
          ∙ c.loop-place.invariant.same place reader;
    }
