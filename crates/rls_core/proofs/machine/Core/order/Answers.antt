use Rattle.std.proofs.Common.{◌≡◌, ◌<◌, ℕ, sym, subst, List, length, map}
use Rattle.std.specs.Prelude.{IfOk}
use Rattle.std.specs.List.{All}
use Rattle.std.specs.Vec.{vec_capacity}
use Rattle.rls_history.specs.Orders.{IsOrder}
use Rattle.rls_conflict.specs.Transactions.{Transaction, history_of}
use Rattle.rls_core.specs.Records.{Record, record_at, history_by}
use Rattle.rls_core.specs.Seen.{Seen}
use Rattle.rls_core.specs.Calls.{IsOrderBy}
use Rattle.rls_core.proofs.CallLemmas.{can_be_ordered, order_within, ordered_by}
use Rattle.rls_core.proofs.machine.Core.order.Goals as goal

pub order-requires : goal.order-requires
order-requires c = can_be_ordered c.self.inside.committed.items c.self.inside.conflicts c.self.inside.running.entries c.self.inside.next c.self.inside.versions.states (vec_capacity c.self.inside.committed) c.self.inside.versions.room c.self.invariant c.core_rules_are_safe.ensures c.events_keep.ensures.ordered

pub numbers_at-requires : goal.numbers_at-requires
numbers_at-requires c =
    let is : IsOrder (history_by c.self.inside.committed.items) c.in_ok-places.places.items = subst (λ (ts : List Transaction). IsOrder (history_of ts) c.in_ok-places.places.items) c.self.invariant.known_is c.in_ok-places.ensures in
    subst (λ (xs : List ℕ). All (λ place. place < length c.as_slice.result.now) xs) (sym c.as_slice-2.ensures.value)
    (subst (λ (rs : List Record). All (λ place. place < length rs) c.in_ok-places.places.items) (sym c.as_slice.ensures.value) (order_within c.self.inside.committed.items c.in_ok-places.places.items is))

pub returns : goal.returns
returns c =
    let is : IsOrder (history_by c.self.inside.committed.items) c.in_ok-places.places.items = subst (λ (ts : List Transaction). IsOrder (history_of ts) c.in_ok-places.places.items) c.self.invariant.known_is c.in_ok-places.ensures in
    subst (λ (seen : Seen). IfOk c.numbers_at.result (λ numbers. IsOrderBy seen.committed numbers.items)) c.self.view_is
    (ordered_by c.self.inside.committed.items c.in_ok-places.places.items is c.numbers_at.result (λ numbers. numbers.items)
    (subst (λ (xs : List ℕ). IfOk c.numbers_at.result (λ numbers. numbers.items ≡ map (λ place. (record_at c.self.inside.committed.items place).txn) xs)) c.as_slice-2.ensures.value
    (subst (λ (rs : List Record). IfOk c.numbers_at.result (λ numbers. numbers.items ≡ map (λ place. (record_at rs place).txn) c.as_slice-2.result.now)) c.as_slice.ensures.value c.numbers_at.ensures)))
