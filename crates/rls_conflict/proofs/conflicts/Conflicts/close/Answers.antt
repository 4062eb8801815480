use Rattle.std.proofs.Common.{ap, sym, ◌∙◌, subst, arith}
use Rattle.std.specs.Prelude.{◌≡◌, suc, ◌+◌, List, [], ◌∷◌, ◌++◌, true, length, None}
use Rattle.std.specs.Option.{is_some}
use Rattle.std.specs.Vec.{vec_len, vec_capacity}
use Rattle.rls_conflict.specs.declared.committed.Committed.{Committed}
use Rattle.rls_conflict.specs.Commits.{IsReady}
use Rattle.rls_conflict.specs.Known.{Known, is_running, HasCommitted}
use Rattle.rls_conflict.specs.Kept.{IsWhole, known_by}
use Rattle.rls_conflict.proofs.RunningLemmas.{runs, put_at}
use Rattle.rls_conflict.proofs.CommitLemmas.{one_less, entry_of, closed_kept, closed_seen}
use Rattle.rls_conflict.proofs.conflicts.Conflicts.close.Goals as goal

pub invariant_of-self : goal.invariant_of-self
invariant_of-self c =
    let ran : is_running (known_by c.self.inside.committed.items c.self.inside.running.entries c.self.inside.sireads) c.args.txn ≡ true = ap (λ (known : Known). is_running known c.args.txn) c.self.view_is ∙ c.requires.running in
    let ok = c.self.inside.committed.ok in
    let len = c.len-commit.ensures in
    let next : c.len-commit.result + 1 ≡ suc (length c.self.inside.committed.items) = omega (arith, ok, len) in
    let there : is_some c.remove.result ≡ true = ap is_some c.remove.ensures.value ∙ sym (runs c.self.inside.committed.items c.self.inside.running.entries c.self.inside.sireads c.args.txn) ∙ ran in
    let fewer = one_less (length c.remove.new.self.entries) (length c.self.inside.running.entries) (is_some c.remove.result) there c.remove.ensures.len in
    let room = c.self.invariant.room in
    let longer = c.push_reserved.ensures.len in
    let same = c.push_reserved.ensures.capacity in
    subst (λ (them : List Committed). IsWhole them (vec_len c.push_reserved.new.self) (vec_capacity c.push_reserved.new.self) c.remove.new.self.entries c.committed.new.self c.self.inside.writers c.self.inside.floor) (sym c.push_reserved.ensures.items)
    (closed_kept c.self.inside.committed.items c.self.inside.running.entries c.remove.new.self.entries c.self.inside.sireads c.committed.new.self c.args.txn (c.len-commit.result + 1) c.args.ready ran
    (subst (λ (known : Known). IsReady known c.args.txn c.args.ready) (sym c.self.view_is) c.requires.ready)
    (put_at c.args.txn None c.self.inside.running.entries c.remove.new.self.entries c.remove.ensures.updates.0) next c.committed.ensures
    (vec_len c.self.inside.committed) (vec_capacity c.self.inside.committed) (vec_len c.push_reserved.new.self) (vec_capacity c.push_reserved.new.self) c.self.inside.writers c.self.inside.floor c.self.invariant
    (omega (arith, fewer, room, longer, same)))

pub returns : goal.returns
returns c =
    let ran : is_running (known_by c.self.inside.committed.items c.self.inside.running.entries c.self.inside.sireads) c.args.txn ≡ true = ap (λ (known : Known). is_running known c.args.txn) c.self.view_is ∙ c.requires.running in
    let ok = c.self.inside.committed.ok in
    let len = c.len-commit.ensures in
    let next : c.len-commit.result + 1 ≡ suc (length c.self.inside.committed.items) = omega (arith, ok, len) in
    subst (λ (them : List Committed). HasCommitted c.args.txn c.args.self.now (known_by them c.remove.new.self.entries c.committed.new.self)) (sym c.push_reserved.ensures.items)
    (subst (λ (known : Known). HasCommitted c.args.txn known (known_by (c.self.inside.committed.items ++ entry_of c.args.ready ∷ []) c.remove.new.self.entries c.committed.new.self)) c.self.view_is
    (closed_seen c.self.inside.committed.items c.self.inside.running.entries c.remove.new.self.entries c.self.inside.sireads c.committed.new.self c.args.txn (c.len-commit.result + 1) c.args.ready ran
    (subst (λ (known : Known). IsReady known c.args.txn c.args.ready) (sym c.self.view_is) c.requires.ready)
    (put_at c.args.txn None c.self.inside.running.entries c.remove.new.self.entries c.remove.ensures.updates.0) next c.committed.ensures))
