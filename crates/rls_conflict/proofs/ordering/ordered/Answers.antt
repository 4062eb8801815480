use Rattle.std.specs.Prelude.{◌≡◌, ◌<◌, ◌-◌, ◌++◌, ℕ, List, Bool, true, false, length, take, replicate, refl, slice_set}
use Rattle.std.specs.Vec.{vec_len}
use Rattle.std.proofs.Common.{ap, sym, subst, ◌∙◌, arith}
use Rattle.std.proofs.lemmas.List.{length-map}
use Rattle.rls_history.specs.Orders.{IsNext}
use Rattle.rls_conflict.specs.Transactions.{history_of}
use Rattle.rls_conflict.specs.Kept.{all_committed, committed_seen}
use Rattle.rls_conflict.specs.Ordering.{placed_in, AreListed, IsFirst}
use Rattle.rls_conflict.proofs.TurnLemmas.{IsUnderWay, nobody_placed, one_more, fewer_left, all_placed, found_next, kept_listed}
use Rattle.rls_conflict.proofs.ordering.ordered.Goals as goal

pub loop-first-init : goal.loop-first-init
loop-first-init c =
    let count = length-map c.args.committed.now committed_seen in
    let len = c.in_ok-resize.ensures.len in
    let ok = c.resize.new.self.ok.0 in
    let size : length c.resize.new.self.items ≡ length (all_committed c.args.committed.now) = omega (arith, count, len, ok) in
    nobody_placed (history_of (all_committed c.args.committed.now)) c.in_ok-lists.lists.items c.resize.new.self.items c.new-order.result.items (length c.args.committed.now)
    (length c.args.committed.now - vec_len c.new-placed.result) 0 c.in_ok-lists.ensures size
    (c.in_ok-resize.ensures.items ∙ ap (λ (all : List Bool). take (length c.args.committed.now) all ++ replicate (length c.args.committed.now - vec_len c.new-placed.result) false) c.new-placed.ensures.items)
    c.new-order.ensures.items refl

pub first_left-requires : goal.first_left-requires
first_left-requires c i less = ap (λ (all : List Bool). placed_in all i) c.as_slice.ensures.value ∙ c.loop-first.invariant.before i less

pub next_in_turn-next-requires-clause-within : goal.next_in_turn-next-requires-clause-within
next_in_turn-next-requires-clause-within c place reader there =
    let within : reader < length (all_committed c.args.committed.now) = (c.loop-first.invariant.listed.only place reader there).0 in
    let size : length c.loop-first.placed.items ≡ length (all_committed c.args.committed.now) = c.loop-first.invariant.size in
    let seen = ap (λ (all : List Bool). length all) c.as_slice-in-Some.ensures.value in
    omega (arith, within, size, seen)

pub loop-first-smaller : goal.loop-first-smaller
loop-first-smaller c =
    let first : IsFirst c.loop-first.placed.items c.in-Some.first = subst (λ (all : List Bool). IsFirst all c.in-Some.first) c.as_slice.ensures.value c.in-Some.ensures in
    let next : IsNext (history_of (all_committed c.args.committed.now)) (placed_in c.loop-first.placed.items) c.next_in_turn-next.result =
    found_next (history_of (all_committed c.args.committed.now)) c.loop-first.lists.items c.loop-first.placed.items c.as_slice-in-Some.result.now c.loop-first.order.items c.loop-first.from c.in-Some.first c.next_in_turn-next.result
    c.as_slice-in-Some.ensures.value c.loop-first.invariant first (c.next_in_turn-next.ensures.next (history_of (all_committed c.args.committed.now)) c.requires.may.0 c.requires.may.1) in
    let less : c.next_in_turn-next.result < length c.loop-first.placed.items =
    (let size = c.loop-first.invariant.size in let within = next.within in omega (arith, size, within)) in
    fewer_left (history_of (all_committed c.args.committed.now)) c.loop-first.placed.items c.next_in_turn-next.result less
    (c.orders_are_made.ensures.fewer (history_of (all_committed c.args.committed.now)) (placed_in c.loop-first.placed.items) c.next_in_turn-next.result next)

pub loop-first-preserved : goal.loop-first-preserved
loop-first-preserved c =
    let first : IsFirst c.loop-first.placed.items c.in-Some.first = subst (λ (all : List Bool). IsFirst all c.in-Some.first) c.as_slice.ensures.value c.in-Some.ensures in
    let next : IsNext (history_of (all_committed c.args.committed.now)) (placed_in c.loop-first.placed.items) c.next_in_turn-next.result =
    found_next (history_of (all_committed c.args.committed.now)) c.loop-first.lists.items c.loop-first.placed.items c.as_slice-in-Some.result.now c.loop-first.order.items c.loop-first.from c.in-Some.first c.next_in_turn-next.result
    c.as_slice-in-Some.ensures.value c.loop-first.invariant first (c.next_in_turn-next.ensures.next (history_of (all_committed c.args.committed.now)) c.requires.may.0 c.requires.may.1) in
    let listed : AreListed (history_of (all_committed c.args.committed.now)) (placed_in c.loop-first.placed.items) c.next_in_turn-next.new.lists.items =
    kept_listed (history_of (all_committed c.args.committed.now)) c.loop-first.lists.items c.next_in_turn-next.new.lists.items c.loop-first.placed.items c.as_slice-in-Some.result.now c.as_slice-in-Some.ensures.value
    c.loop-first.invariant.listed (c.next_in_turn-next.ensures.kept (history_of (all_committed c.args.committed.now))) in
    subst (λ (order : List ℕ).
    IsUnderWay (history_of (all_committed c.args.committed.now)) c.next_in_turn-next.new.lists.items (slice_set c.loop-first.placed.items c.next_in_turn-next.result true) order c.in-Some.first)
    (sym c.in_ok-push.ensures.items)
    (one_more (history_of (all_committed c.args.committed.now)) c.loop-first.lists.items c.next_in_turn-next.new.lists.items c.loop-first.placed.items c.loop-first.order.items c.loop-first.from c.in-Some.first c.next_in_turn-next.result
    c.loop-first.invariant listed first next
    (c.orders_are_made.ensures.grows (history_of (all_committed c.args.committed.now)) c.loop-first.order.items c.next_in_turn-next.result)
    (c.orders_are_made.ensures.placed c.loop-first.order.items c.next_in_turn-next.result))

pub returns : goal.returns
returns c =
    all_placed (history_of (all_committed c.args.committed.now)) c.loop-first.lists.items c.loop-first.placed.items c.loop-first.order.items c.loop-first.from c.loop-first.invariant
    (subst (λ (all : List Bool). (i : ℕ) → i < length all → placed_in all i ≡ true) c.as_slice.ensures.value c.in_default.ensures)
