use Rattle.std.proofs.Common.{sym, ◌∙◌, subst, arith}
use Rattle.std.specs.Prelude.{None}
use Rattle.std.specs.Vec.{vec_len, vec_capacity}
use Rattle.rls_conflict.specs.Known.{Known, Becomes}
use Rattle.rls_conflict.specs.Kept.{known_by}
use Rattle.rls_conflict.proofs.RunningLemmas.{put_at}
use Rattle.rls_conflict.proofs.RollbackLemmas.{away_kept, away_seen, absent_seen}
use Rattle.rls_conflict.proofs.conflicts.Conflicts.take_away.Goals as goal

pub invariant_of-self : goal.invariant_of-self
invariant_of-self c =
    let count = c.remove.ensures.len in
    away_kept c.self.inside.committed.items (vec_len c.self.inside.committed) (vec_capacity c.self.inside.committed) c.self.inside.running.entries c.remove.new.self.entries
    c.self.inside.sireads c.forget.new.self c.self.inside.writers c.release_parts.new.writers c.self.inside.floor c.args.txn c.in-Some.it c.covered.result.now c.self.invariant
    (sym c.remove.ensures.value ∙ c.in-Some.is) c.covered.ensures
    (put_at c.args.txn None c.self.inside.running.entries c.remove.new.self.entries c.remove.ensures.updates.0) (omega (arith, count)) c.forget.ensures c.release_parts.ensures

pub returns-in-Some : goal.returns-in-Some
returns-in-Some c =
    subst (λ (known : Known). Becomes c.args.txn None known (known_by c.self.inside.committed.items c.remove.new.self.entries c.forget.new.self)) c.self.view_is
    (away_seen c.self.inside.committed.items c.self.inside.running.entries c.remove.new.self.entries c.self.inside.sireads c.forget.new.self c.args.txn
    (put_at c.args.txn None c.self.inside.running.entries c.remove.new.self.entries c.remove.ensures.updates.0) c.forget.ensures)

pub returns-in_default : goal.returns-in_default
returns-in_default c =
    subst (λ (known : Known). Becomes c.args.txn None known (known_by c.self.inside.committed.items c.remove.new.self.entries c.self.inside.sireads)) c.self.view_is
    (absent_seen c.self.inside.committed.items c.self.inside.running.entries c.remove.new.self.entries c.self.inside.sireads c.args.txn
    (put_at c.args.txn None c.self.inside.running.entries c.remove.new.self.entries c.remove.ensures.updates.0))
