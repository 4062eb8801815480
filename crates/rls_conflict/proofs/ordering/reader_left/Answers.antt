use Rattle.std.specs.Prelude.{◌≡◌, ◌<◌, ℕ, List, [], length}
use Rattle.std.proofs.Common.{ap, sym, ◌∙◌, arith}
use Rattle.std.proofs.lemmas.List.{get_or_read, length-set}
use Rattle.rls_conflict.specs.Commits.{is_place_in}
use Rattle.rls_conflict.specs.Ordering.{list_at, placed_in}
use Rattle.rls_conflict.proofs.OrderingLemmas.{still_listed}
use Rattle.rls_conflict.proofs.ordering.reader_left.Goals as goal

pub last_left-requires : goal.last_left-requires
last_left-requires c reader there =
    let less : c.args.place < length c.args.lists.now.items = (let size = c.requires.size in let within = c.requires.place in omega (arith, size, within)) in
    let list : c.readers.inside.places.items ≡ list_at c.args.lists.now.items c.args.place = c.readers.view_is ∙ get_or_read c.args.lists.now.items c.args.place c.index_mut-readers.result.now less c.index_mut-readers.ensures.value [] in
    c.requires.within c.args.place reader (ap (λ (places : List ℕ). is_place_in places reader) (sym list) ∙ there)

pub returns-clause-kept : goal.returns-clause-kept
returns-clause-kept c h are =
    let less : c.args.place < length c.args.lists.now.items = (let size = c.requires.size in let within = c.requires.place in omega (arith, size, within)) in
    let list : c.readers.inside.places.items ≡ list_at c.args.lists.now.items c.args.place = c.readers.view_is ∙ get_or_read c.args.lists.now.items c.args.place c.index_mut-readers.result.now less c.index_mut-readers.ensures.value [] in
    still_listed h (placed_in c.args.placed.now) c.args.lists.now.items c.args.place c.last_left.new.readers.items less (length-set c.args.lists.now.items c.args.place c.last_left.new.readers.items)
    (λ r there. ap (λ (places : List ℕ). is_place_in places r) (sym list) ∙ c.last_left.ensures.only r there)
    (λ r there none. c.last_left.ensures.left r (ap (λ (places : List ℕ). is_place_in places r) list ∙ there) none)
    are
