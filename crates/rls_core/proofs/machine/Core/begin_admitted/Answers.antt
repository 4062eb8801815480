use Rattle.std.proofs.Common.{◌≡◌, ◌∙◌, ◌+◌, ℕ, suc, refl, ap, sym, subst, arith, List, length, add-one}
use Rattle.std.specs.{List.Sorted.IsStrictlySortedBy, Map.keys_of, Ordering.nat_cmp, Vec.vec_capacity}
use Rattle.std.proofs.lemmas.List.{length-map}
use Rattle.rls_meaning.specs.rls_access.specs.Transactions.{may_begin}
use Rattle.rls_core.specs.Records.{Record}
use Rattle.rls_core.specs.Events.{Event}
use Rattle.rls_core.specs.Seen.{Seen, newest_state, Happens}
use Rattle.rls_catalog.specs.SoundRows.{RowsAreSound}
use Rattle.rls_catalog.specs.State.{State}
use Rattle.rls_rows.specs.States.{newest_of}
use Rattle.rls_core.specs.Kept.{joined_in, seen_of, IsKept}
use Rattle.rls_core.proofs.KeptLemmas.{nothing_changes}
use Rattle.rls_core.proofs.CallLemmas.{kept_room, seen_room, is_new, is_free, begin_happens, begin_stays}
use Rattle.rls_core.proofs.RunLemmas.{keys_joined, at_once}
use Rattle.rls_core.proofs.machine.Core.begin_admitted.Goals as goal

pub returns-then-txn-clause-why : goal.returns-then-txn-clause-why
returns-then-txn-clause-why c = ap (λ (seen : Seen). seen.next) (sym c.self.view_is) ∙ c.if-txn.true

pub returns-then-count-ge-MAX_RUNNING-clause-why : goal.returns-then-count-ge-MAX_RUNNING-clause-why
returns-then-count-ge-MAX_RUNNING-clause-why c =
    let size = c.len-count.ensures.len in
    let most = c.if-count-ge-MAX_RUNNING.true in
    let same : length c.args.self.now.running ≡ length c.self.inside.running.entries = ap (λ (seen : Seen). length seen.running) (sym c.self.view_is) ∙ length-map c.self.inside.running.entries (joined_in c.self.inside.conflicts) in
    let ascend : IsStrictlySortedBy nat_cmp (keys_of c.args.self.now.running) = subst (λ (seen : Seen). IsStrictlySortedBy nat_cmp (keys_of seen.running)) c.self.view_is
    (subst (IsStrictlySortedBy nat_cmp) (sym (keys_joined c.self.inside.conflicts c.self.inside.running.entries)) c.len-count.ensures.ordered) in
    at_once c.args.self.now 1024 ascend (omega (arith, size, most, same))

pub start-requires-clause-fresh : goal.start-requires-clause-fresh
start-requires-clause-fresh c = is_new c.self.inside.committed.items c.self.inside.conflicts c.self.inside.running.entries c.self.inside.next c.self.inside.versions.states (vec_capacity c.self.inside.committed) c.self.inside.versions.room c.self.invariant

pub start-requires-clause-free : goal.start-requires-clause-free
start-requires-clause-free c = is_free c.self.inside.committed.items c.self.inside.conflicts c.self.inside.running.entries c.self.inside.next c.self.inside.versions.states (vec_capacity c.self.inside.committed) c.self.inside.versions.room c.self.invariant

pub invariant_of-self : goal.invariant_of-self
invariant_of-self c =
    kept_room c.self.inside.committed.items c.reserve.new.committed.items c.self.inside.conflicts c.self.inside.conflicts c.self.inside.running.entries c.self.inside.running.entries c.self.inside.next c.self.inside.versions.states c.reserve.new.versions.states (vec_capacity c.self.inside.committed) (vec_capacity c.reserve.new.committed) c.self.inside.versions.room c.reserve.new.versions.room
    c.self.invariant c.reserve.ensures.items (nothing_changes c.self.inside.conflicts c.self.inside.conflicts refl) refl c.reserve.ensures.states c.reserve.ensures.capacity c.reserve.ensures.grows

pub returns-in-Err-clause-err : goal.returns-in-Err-clause-err
returns-in-Err-clause-err c =
    seen_room c.self.inside.committed.items c.reserve.new.committed.items c.self.inside.conflicts c.self.inside.conflicts c.self.inside.running.entries c.self.inside.running.entries c.self.inside.next c.reserve.ensures.items (nothing_changes c.self.inside.conflicts c.self.inside.conflicts refl) refl ∙ c.self.view_is

pub invariant_of-self-in-Err-start : goal.invariant_of-self-in-Err-start
invariant_of-self-in-Err-start c =
    kept_room c.self.inside.committed.items c.reserve.new.committed.items c.self.inside.conflicts c.start.new.conflicts c.self.inside.running.entries c.start.new.running.entries c.self.inside.next c.self.inside.versions.states c.reserve.new.versions.states (vec_capacity c.self.inside.committed) (vec_capacity c.reserve.new.committed) c.self.inside.versions.room c.reserve.new.versions.room
    c.self.invariant c.reserve.ensures.items c.in-Err-start.ensures.kept c.in-Err-start.ensures.same c.reserve.ensures.states c.reserve.ensures.capacity c.reserve.ensures.grows

pub returns-in-Err-start-clause-err : goal.returns-in-Err-start-clause-err
returns-in-Err-start-clause-err c =
    seen_room c.self.inside.committed.items c.reserve.new.committed.items c.self.inside.conflicts c.start.new.conflicts c.self.inside.running.entries c.start.new.running.entries c.self.inside.next c.reserve.ensures.items c.in-Err-start.ensures.kept c.in-Err-start.ensures.same ∙ c.self.view_is

pub invariant_of-self-2 : goal.invariant_of-self-2
invariant_of-self-2 c =
    let more = c.in-Ok-start.ensures.len in
    let size = c.len-count.ensures.len in
    let room = c.in-Ok.ensures.room in
    let places = c.in-Ok.ensures.places in
    let may : may_begin (newest_state c.self.inside.committed.items) c.args.begin ≡ Rattle.std.proofs.Common.true = subst (λ (seen : Seen). may_begin (newest_state seen.committed) c.args.begin ≡ Rattle.std.proofs.Common.true) (sym c.self.view_is) c.requires in
    let sound : RowsAreSound (newest_state c.self.inside.committed.items) = subst (λ (seen : Seen). RowsAreSound (newest_state seen.committed)) (sym c.self.view_is) c.keeps_keys.ensures in
    let state = c.newest-state.ensures.newest ∙ ap newest_of c.reserve.ensures.states in
    subst (λ (n : ℕ). IsKept c.reserve.new.committed.items c.start.new.conflicts c.start.new.running.entries n c.reserve.new.versions.states (vec_capacity c.reserve.new.committed) c.reserve.new.versions.room) (sym (add-one c.self.inside.next))
    (subst (λ (them : List Record). IsKept them c.start.new.conflicts c.start.new.running.entries (suc c.self.inside.next) c.reserve.new.versions.states (vec_capacity c.reserve.new.committed) c.reserve.new.versions.room) (sym c.reserve.ensures.items)
    (subst (λ (them : List State). IsKept c.self.inside.committed.items c.start.new.conflicts c.start.new.running.entries (suc c.self.inside.next) them (vec_capacity c.reserve.new.committed) c.reserve.new.versions.room) (sym c.reserve.ensures.states)
    (begin_stays c.self.inside.committed.items c.self.inside.conflicts c.self.inside.running.entries c.self.inside.next c.self.inside.versions.states (vec_capacity c.self.inside.committed) c.self.inside.versions.room c.self.invariant c.args.begin c.newest-state.result.now state may c.start.new.conflicts c.start.new.running.entries c.in-Ok-start.ensures.known c.in-Ok-start.ensures.looks sound
    (vec_capacity c.reserve.new.committed) c.reserve.new.versions.room (omega (arith, more, size, room)) (omega (arith, more, size, places)))))

pub returns-clause-ok : goal.returns-clause-ok
returns-clause-ok c =
    let may : may_begin (newest_state c.self.inside.committed.items) c.args.begin ≡ Rattle.std.proofs.Common.true = subst (λ (seen : Seen). may_begin (newest_state seen.committed) c.args.begin ≡ Rattle.std.proofs.Common.true) (sym c.self.view_is) c.requires in
    let state = c.newest-state.ensures.newest ∙ ap newest_of c.reserve.ensures.states in
    subst (λ (old : Seen). Happens (Event.Begins c.args.begin) old (seen_of c.reserve.new.committed.items c.start.new.conflicts c.start.new.running.entries (c.self.inside.next + 1))) c.self.view_is
    (subst (λ (them : List Record). Happens (Event.Begins c.args.begin) (seen_of c.self.inside.committed.items c.self.inside.conflicts c.self.inside.running.entries c.self.inside.next) (seen_of them c.start.new.conflicts c.start.new.running.entries (c.self.inside.next + 1))) (sym c.reserve.ensures.items)
    (subst (λ (n : ℕ). Happens (Event.Begins c.args.begin) (seen_of c.self.inside.committed.items c.self.inside.conflicts c.self.inside.running.entries c.self.inside.next) (seen_of c.self.inside.committed.items c.start.new.conflicts c.start.new.running.entries n)) (sym (add-one c.self.inside.next))
    (begin_happens c.self.inside.committed.items c.self.inside.conflicts c.self.inside.running.entries c.self.inside.next c.self.inside.versions.states (vec_capacity c.self.inside.committed) c.self.inside.versions.room c.self.invariant c.args.begin c.newest-state.result.now state may c.start.new.conflicts c.start.new.running.entries c.in-Ok-start.ensures.known c.in-Ok-start.ensures.looks)))

pub returns-clause-room : goal.returns-clause-room
returns-clause-room c =
    let size = c.len-count.ensures.len in
    let few = c.if-count-ge-MAX_RUNNING.false in
    let same : length c.args.self.now.running ≡ length c.self.inside.running.entries = ap (λ (seen : Seen). length seen.running) (sym c.self.view_is) ∙ length-map c.self.inside.running.entries (joined_in c.self.inside.conflicts) in
    omega (arith, size, few, same)
