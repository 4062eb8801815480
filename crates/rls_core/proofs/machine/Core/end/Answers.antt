use Rattle.std.proofs.Common.{◌≡◌, refl, ap, sym, subst, arith, ◌∙◌, None}
use Rattle.std.specs.Vec.{vec_capacity}
use Rattle.rls_core.specs.Events.{Event}
use Rattle.rls_core.specs.Seen.{Seen, Happens, runs_at}
use Rattle.rls_core.specs.Kept.{seen_of}
use Rattle.rls_core.proofs.KeptLemmas.{kept_with}
use Rattle.rls_core.proofs.EventLemmas.{ends}
use Rattle.rls_core.proofs.JoinedLemmas.{joined_there}
use Rattle.rls_core.specs.Attempts.{Leaves}
use Rattle.rls_core.proofs.AttemptLemmas.{is_left}
use Rattle.std.specs.Prelude.{Option}
use Rattle.rls_core.specs.declared.attempt.Remains.{Remains}
use Rattle.rls_core.proofs.machine.Core.end.Goals as goal

pub invariant_of-self : goal.invariant_of-self
invariant_of-self c =
    let less = c.remove-opened.ensures.len in
    let room = c.self.invariant.room_left in
    let places = c.self.invariant.places_left in
    kept_with c.self.inside.committed.items c.self.inside.conflicts c.rollback.new.self c.self.inside.running.entries c.remove-opened.new.self.entries c.self.inside.next c.self.inside.next c.self.inside.versions.states
    (vec_capacity c.self.inside.committed) (vec_capacity c.self.inside.committed) c.self.inside.versions.room c.self.inside.versions.room c.args.txn None None (Event.RollsBack c.args.txn)
    c.self.invariant c.rollback.ensures c.remove-opened.ensures.updates.0 refl
    (ends c.self.inside.committed.items c.self.inside.conflicts c.rollback.new.self c.self.inside.running.entries c.remove-opened.new.self.entries c.self.inside.next c.args.txn c.rollback.ensures c.remove-opened.ensures.updates.0)
    (λ it is. absurd cc) (λ it is. absurd cc) (omega arith) (λ is. absurd cc) (omega arith) (omega arith)

pub returns-clause-happens : goal.returns-clause-happens
returns-clause-happens c =
    subst (λ (old : Seen). Happens (Event.RollsBack c.args.txn) old (seen_of c.self.inside.committed.items c.rollback.new.self c.remove-opened.new.self.entries c.self.inside.next)) c.self.view_is
    (ends c.self.inside.committed.items c.self.inside.conflicts c.rollback.new.self c.self.inside.running.entries c.remove-opened.new.self.entries c.self.inside.next c.args.txn c.rollback.ensures c.remove-opened.ensures.updates.0)

pub returns-clause-over : goal.returns-clause-over
returns-clause-over c = joined_there c.rollback.new.self c.args.txn c.remove-opened.new.self.entries None c.remove-opened.ensures.updates.1

pub returns-clause-left : goal.returns-clause-left
returns-clause-left c =
    subst (λ (seen : Seen). Leaves c.args.txn (runs_at seen c.args.txn) c.remains_of.result) c.self.view_is
    (subst (λ (left : Option Remains). Leaves c.args.txn (runs_at (seen_of c.self.inside.committed.items c.self.inside.conflicts c.self.inside.running.entries c.self.inside.next) c.args.txn) left) (sym c.remains_of.ensures)
    (is_left c.self.inside.conflicts c.args.txn c.self.inside.running.entries c.remove-opened.result (c.self.invariant.runs c.args.txn) c.remove-opened.ensures.value))
