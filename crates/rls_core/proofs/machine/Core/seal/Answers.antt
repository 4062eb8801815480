use Rattle.std.proofs.Common.{◌≡◌, ◌<◌, ◌∙◌, ℕ, refl, ap, sym, subst, arith, Some, None, List, [], ◌∷◌, ◌++◌, length, length-append}
use Rattle.std.specs.Vec.{vec_capacity}
use Rattle.rls_core.specs.Events.{Event}
use Rattle.rls_core.specs.Records.{Record}
use Rattle.rls_core.specs.Seen.{Seen, Happens}
use Rattle.rls_core.specs.Kept.{seen_of}
use Rattle.rls_core.specs.Calls.{IsReady}
use Rattle.rls_core.proofs.CallLemmas.{runs_now, commit_now, commit_happens, commit_stays, h_there, h, some_there, one_less}
use Rattle.rls_core.proofs.machine.Core.seal.Goals as goal

pub seal-requires-clause-running : goal.seal-requires-clause-running
seal-requires-clause-running c =
    let is : IsReady (seen_of c.self.inside.committed.items c.self.inside.conflicts c.self.inside.running.entries c.self.inside.next) c.args.txn c.args.ready = subst (λ (seen : Seen). IsReady seen c.args.txn c.args.ready) (sym c.self.view_is) c.requires in
    runs_now c.self.inside.committed.items c.self.inside.conflicts c.self.inside.running.entries c.self.inside.next c.self.inside.versions.states (vec_capacity c.self.inside.committed) c.self.inside.versions.room c.self.invariant c.args.txn c.args.ready is

pub seal-requires-clause-ready : goal.seal-requires-clause-ready
seal-requires-clause-ready c =
    let is : IsReady (seen_of c.self.inside.committed.items c.self.inside.conflicts c.self.inside.running.entries c.self.inside.next) c.args.txn c.args.ready = subst (λ (seen : Seen). IsReady seen c.args.txn c.args.ready) (sym c.self.view_is) c.requires in
    commit_now c.self.inside.committed.items c.self.inside.conflicts c.self.inside.running.entries c.self.inside.next c.self.inside.versions.states (vec_capacity c.self.inside.committed) c.self.inside.versions.room c.self.invariant c.args.txn c.args.ready is

pub push_reserved-requires : goal.push_reserved-requires
push_reserved-requires c =
    let is : IsReady (seen_of c.self.inside.committed.items c.self.inside.conflicts c.self.inside.running.entries c.self.inside.next) c.args.txn c.args.ready = subst (λ (seen : Seen). IsReady seen c.args.txn c.args.ready) (sym c.self.view_is) c.requires in
    let there = h_there c.self.inside.committed.items c.self.inside.conflicts c.self.inside.running.entries c.self.inside.next c.self.inside.versions.states (vec_capacity c.self.inside.committed) c.self.inside.versions.room c.self.invariant c.args.txn c.args.ready is in
    let some : 0 < length c.self.inside.running.entries = some_there c.args.txn c.self.inside.running.entries _ there in
    let left = c.self.invariant.room_left in
    let size = c.self.inside.committed.ok in
    omega (arith, some, left, size)

pub seal-requires-2 : goal.seal-requires-2
seal-requires-2 c =
    let is : IsReady (seen_of c.self.inside.committed.items c.self.inside.conflicts c.self.inside.running.entries c.self.inside.next) c.args.txn c.args.ready = subst (λ (seen : Seen). IsReady seen c.args.txn c.args.ready) (sym c.self.view_is) c.requires in
    let there = h_there c.self.inside.committed.items c.self.inside.conflicts c.self.inside.running.entries c.self.inside.next c.self.inside.versions.states (vec_capacity c.self.inside.committed) c.self.inside.versions.room c.self.invariant c.args.txn c.args.ready is in
    let some : 0 < length c.self.inside.running.entries = some_there c.args.txn c.self.inside.running.entries _ there in
    let left = c.self.invariant.places_left in
    omega (arith, some, left)

pub invariant_of-self : goal.invariant_of-self
invariant_of-self c =
    let is : IsReady (seen_of c.self.inside.committed.items c.self.inside.conflicts c.self.inside.running.entries c.self.inside.next) c.args.txn c.args.ready = subst (λ (seen : Seen). IsReady seen c.args.txn c.args.ready) (sym c.self.view_is) c.requires in
    let there = h_there c.self.inside.committed.items c.self.inside.conflicts c.self.inside.running.entries c.self.inside.next c.self.inside.versions.states (vec_capacity c.self.inside.committed) c.self.inside.versions.room c.self.invariant c.args.txn c.args.ready is in
    let less = one_less c.remove.result _ _ (length c.self.inside.running.entries) (length c.remove.new.self.entries) c.remove.ensures.value there c.remove.ensures.len in
    let room = c.self.invariant.room_left in
    let places = c.self.invariant.places_left in
    let left = c.seal-2.ensures.room in
    let size : length c.push_reserved.new.self.items ≡ length (c.self.inside.committed.items ++ c.args.ready.entry ∷ []) = ap length c.push_reserved.ensures.items in
    let long = length-append c.self.inside.committed.items (c.args.ready.entry ∷ []) in
    let capacity = c.push_reserved.ensures.capacity in
    commit_stays c.self.inside.committed.items c.self.inside.conflicts c.self.inside.running.entries c.self.inside.next c.self.inside.versions.states (vec_capacity c.self.inside.committed) c.self.inside.versions.room c.self.invariant c.args.txn c.args.ready is
    c.stands.ensures.begun c.seal.new.self c.remove.new.self.entries c.push_reserved.new.self.items c.seal-2.new.self.states (vec_capacity c.push_reserved.new.self) c.seal-2.new.self.room c.seal.ensures c.remove.ensures.updates.0
    c.push_reserved.ensures.items c.seal-2.ensures.states capacity (omega (arith, less, room, size, long, capacity)) (omega (arith, less, places, left))

pub returns : goal.returns
returns c =
    let is : IsReady (seen_of c.self.inside.committed.items c.self.inside.conflicts c.self.inside.running.entries c.self.inside.next) c.args.txn c.args.ready = subst (λ (seen : Seen). IsReady seen c.args.txn c.args.ready) (sym c.self.view_is) c.requires in
    subst (λ (old : Seen). Happens (Event.Commits c.args.txn) old (seen_of c.push_reserved.new.self.items c.seal.new.self c.remove.new.self.entries c.self.inside.next)) c.self.view_is
    (commit_happens c.self.inside.committed.items c.self.inside.conflicts c.self.inside.running.entries c.self.inside.next c.self.inside.versions.states (vec_capacity c.self.inside.committed) c.self.inside.versions.room c.self.invariant c.args.txn c.args.ready is
    c.seal.new.self c.remove.new.self.entries c.push_reserved.new.self.items c.seal.ensures c.remove.ensures.updates.0 c.push_reserved.ensures.items)
