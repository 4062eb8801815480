use Rattle.std.proofs.Common.{ap, sym, ◌∙◌, subst, arith, refl}
use Rattle.std.specs.Prelude.{◌≡◌, List, Some, length}
use Rattle.std.specs.List.{list_any}
use Rattle.std.specs.Vec.{vec_len, vec_capacity}
use Rattle.rls_conflict.specs.declared.committed.Committed.{Committed}
use Rattle.rls_conflict.specs.Begun.{at_number}
use Rattle.rls_conflict.specs.Known.{Known, Becomes, beginning, is_running, has_number}
use Rattle.rls_conflict.specs.Kept.{IsWhole, known_by}
use Rattle.rls_conflict.proofs.RunningLemmas.{none_there, runs}
use Rattle.rls_conflict.proofs.OneLemmas.{same_kept}
use Rattle.rls_conflict.proofs.BeginLemmas.{new_apart, new_unnoted, begun_kept, begun_seen}
use Rattle.rls_conflict.proofs.conflicts.Conflicts.begin.Goals as goal

pub enter-requires-clause-absent : goal.enter-requires-clause-absent
enter-requires-clause-absent c =
    none_there (at_number c.args.txn c.self.inside.running.entries)
    (sym (runs c.self.inside.committed.items c.self.inside.running.entries c.self.inside.sireads c.args.txn) ∙ ap (λ (known : Known). is_running known c.args.txn) c.self.view_is ∙ c.requires.not_running)

pub enter-requires-clause-unnoted : goal.enter-requires-clause-unnoted
enter-requires-clause-unnoted c =
    new_unnoted c.self.inside.committed.items c.self.inside.running.entries c.self.inside.sireads c.self.inside.writers c.self.inside.floor c.args.txn c.self.invariant.indexed
    (new_apart c.self.inside.committed.items c.args.txn (ap (λ (known : Known). list_any (has_number c.args.txn) known.committed) c.self.view_is ∙ c.requires.not_committed))
    (none_there (at_number c.args.txn c.self.inside.running.entries)
    (sym (runs c.self.inside.committed.items c.self.inside.running.entries c.self.inside.sireads c.args.txn) ∙ ap (λ (known : Known). is_running known c.args.txn) c.self.view_is ∙ c.requires.not_running))

pub invariant_of-self-in_err-enter : goal.invariant_of-self-in_err-enter
invariant_of-self-in_err-enter c =
    same_kept c.self.inside.committed.items c.reserve.new.self.items (vec_len c.self.inside.committed) (vec_len c.reserve.new.self) (vec_capacity c.self.inside.committed) (vec_capacity c.reserve.new.self)
    c.self.inside.running.entries c.enter.new.running.entries c.self.inside.sireads c.enter.new.sireads c.self.inside.writers c.self.inside.writers c.self.inside.floor
    c.self.invariant c.reserve.ensures.items c.reserve.ensures.len c.reserve.ensures.capacity c.in_err-enter.ensures.err_running c.in_err-enter.ensures.err_noted (λ object. refl)

pub invariant_of-self-2 : goal.invariant_of-self-2
invariant_of-self-2 c =
    let ok = c.reserve.new.self.ok in
    let size = ap (λ (them : List Committed). length them) c.reserve.ensures.items in
    let snap = c.len-snap.ensures in
    let at_end : c.len-snap.result ≡ length c.self.inside.committed.items = omega (arith, ok, size, snap) in
    let more = c.in_ok-enter.ensures.size in
    let room = c.in_ok-reserve.ensures.ok in
    let before = c.len-room.ensures.len in
    subst (λ (them : List Committed). IsWhole them (vec_len c.reserve.new.self) (vec_capacity c.reserve.new.self) c.enter.new.running.entries c.enter.new.sireads c.self.inside.writers c.self.inside.floor) (sym c.reserve.ensures.items)
    (begun_kept c.self.inside.committed.items (vec_len c.self.inside.committed) (vec_capacity c.self.inside.committed) (vec_len c.reserve.new.self) (vec_capacity c.reserve.new.self)
    c.self.inside.running.entries c.enter.new.running.entries c.self.inside.sireads c.enter.new.sireads c.self.inside.writers c.self.inside.floor c.args.txn c.len-snap.result c.self.invariant
    (new_apart c.self.inside.committed.items c.args.txn (ap (λ (known : Known). list_any (has_number c.args.txn) known.committed) c.self.view_is ∙ c.requires.not_committed))
    (none_there (at_number c.args.txn c.self.inside.running.entries)
    (sym (runs c.self.inside.committed.items c.self.inside.running.entries c.self.inside.sireads c.args.txn) ∙ ap (λ (known : Known). is_running known c.args.txn) c.self.view_is ∙ c.requires.not_running))
    at_end c.in_ok-enter.ensures.running c.in_ok-enter.ensures.noted (omega (arith, more, room, before)))

pub returns-clause-ok : goal.returns-clause-ok
returns-clause-ok c =
    let ok = c.reserve.new.self.ok in
    let size = ap (λ (them : List Committed). length them) c.reserve.ensures.items in
    let snap = c.len-snap.ensures in
    let at_end : c.len-snap.result ≡ length c.self.inside.committed.items = omega (arith, ok, size, snap) in
    subst (λ (known : Known). Becomes c.args.txn (Some (beginning c.args.txn (length known.committed))) known (known_by c.reserve.new.self.items c.enter.new.running.entries c.enter.new.sireads)) c.self.view_is
    (begun_seen c.self.inside.committed.items c.reserve.new.self.items c.self.inside.running.entries c.enter.new.running.entries c.self.inside.sireads c.enter.new.sireads c.args.txn c.len-snap.result
    c.reserve.ensures.items at_end c.in_ok-enter.ensures.running c.in_ok-enter.ensures.noted)
