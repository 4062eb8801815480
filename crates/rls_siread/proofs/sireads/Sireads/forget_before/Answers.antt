use Rattle.std.specs.Prelude.{◌≤◌, ◌+◌}
use Rattle.std.proofs.Common.{subst, arith}
use Rattle.rls_siread.specs.Locks.{Locks, commit_of, is_committed_by, HasForgotten}
use Rattle.rls_siread.specs.Index.{locks_by}
use Rattle.rls_siread.proofs.LocksLaws.{commits_dropped, none_committed}
use Rattle.rls_siread.proofs.ForgetLaws.{left_start, left_all}
use Rattle.rls_siread.proofs.AloneLaws.{told_forgotten}
use Rattle.rls_siread.proofs.sireads.Sireads.forget_before.Goals as goal

pub forget_old-requires : goal.forget_old-requires
forget_old-requires c = c.self.invariant.told

pub invariant_of-self : goal.invariant_of-self
invariant_of-self c =
    let old : Locks = locks_by c.self.inside.alone c.self.inside.index.holders.entries c.self.inside.notes.entries in
    let new : Locks = locks_by c.self.inside.alone c.forget_old.new.index.holders.entries c.forget_old.new.notes.entries in
    let sum = c.saturating_add-self-inside.ensures in
    let less : c.saturating_add-self-inside.result ≤ c.args.last + 1 = omega (arith, sum) in
    record {
      told = told_forgotten (λ txn. is_committed_by c.args.last (commit_of old txn)) old new c.forget_old.ensures c.self.invariant.told;
      commits = commits_dropped c.args.last c.saturating_add-self-inside.result old new c.forget_old.ensures less;
    }

pub returns-then-self-last : goal.returns-then-self-last
returns-then-self-last c =
    subst (λ (locks : Locks). HasForgotten (λ txn. is_committed_by c.args.last (commit_of locks txn)) locks (locks_by c.self.inside.alone c.forget_old.new.index.holders.entries c.forget_old.new.notes.entries)) c.self.view_is c.forget_old.ensures

-- nobody committed by the number
pub returns-else-self-last : goal.returns-else-self-last
returns-else-self-last c =
    let locks : Locks = locks_by c.self.inside.alone c.self.inside.index.holders.entries c.self.inside.notes.entries in
    subst (λ (locks : Locks). HasForgotten (λ txn. is_committed_by c.args.last (commit_of locks txn)) locks locks) c.self.view_is
    (left_all c.args.last locks locks (left_start c.args.last locks) c.self.invariant.told (none_committed c.args.last c.self.inside.least locks c.if-self-last.false c.self.invariant.commits))
